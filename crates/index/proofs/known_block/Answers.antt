-- `known_block` meets its contract. Assumes nothing.
use Rattle.index.proofs.Joined.{blocks_behind}
use Rattle.index.proofs.known_block.Goals as goal

pub returns : goal.returns
returns c =
    let b = c.args.blocks in
    rw (← c.from.ensures) (c.known_behind.ensures _ (blocks_behind b.words.now b.used c.args.bytes.now))
