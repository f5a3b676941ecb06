-- `VotePacked::whole` meets its contract. Assumes nothing.
use Rattle.packets.proofs.Entries.{vote-here}
use Rattle.packets.proofs.VotePacked.whole.Goals as goal

pub returns : goal.returns
returns c =
    let a = c.args in
    vote-here a.bytes.now a.upper a.at _ c.whole_at.ensures.0 c.whole_at-2.ensures.0 c.whole_at-3.ensures.0 c.half_at.ensures
