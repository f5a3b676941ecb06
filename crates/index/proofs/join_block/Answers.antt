-- `join_block` meets its contract. Assumes nothing.
use mathlib.Core.Path.{ap, ◌∙◌}
use Rattle.index.specs.Keys.{number_key}
use Rattle.index.proofs.Joined.{block-past, blocks_behind}
use Rattle.index.proofs.join_block.Goals as goal

pub returns : goal.returns
returns c =
    let t = c.args.blocks in
    let e = c.from.ensures ∙ ap number_key c.requires.3 ∙ block-past t.words.now t.used c.args.bytes.now c.args.i in
    (rw (← e) (c.join_behind.ensures.0 _ (blocks_behind t.words.now t.used c.args.bytes.now)), c.join_behind.ensures.1)
