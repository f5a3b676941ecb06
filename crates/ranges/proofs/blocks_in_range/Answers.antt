-- `blocks_in_range` meets its contract. Assumes nothing.
use Rattle.std.proofs.Common.{rules, refl}
use Rattle.protocol.specs.Lent.{make_block}
use Rattle.ranges.specs.Rows.{block_in_range}
use Rattle.ranges.proofs.All.{all-rows}
use Rattle.ranges.proofs.blocks_in_range.Goals as goal

pub returns : goal.returns
returns c =
    all-rows make_block (block_in_range c.args.slot) c.args.blocks.words.now c.args.blocks.used c.all.result c.all.ensures.runs (search rules) (λ i r e. search rules) refl refl
