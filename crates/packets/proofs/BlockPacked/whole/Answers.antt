-- `BlockPacked::whole` meets its contract. Assumes nothing.
use Rattle.packets.proofs.Entries.{block_here}
use Rattle.packets.proofs.BlockPacked.whole.Goals as goal

pub returns : goal.returns
returns c =
    let a = c.args in
    block_here a.bytes.now a.upper a.at _ c.whole_at.ensures.0 c.half_at.ensures c.whole_at-2.ensures.0 c.half_at-2.ensures c.whole_at-3.ensures.0
