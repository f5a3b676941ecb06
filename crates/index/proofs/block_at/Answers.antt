-- `block_at` meets its contract. Assumes nothing.
use mathlib.Core.Path.{◌∙◌}
use Rattle.protocol.specs.Chain.{genesis}
use Rattle.protocol.specs.Store.{in_view}
use Rattle.index.proofs.Known.{known-row, known_past}
use Rattle.index.proofs.block_at.Goals as goal

pub returns-then-j-blocks : goal.returns-then-j-blocks
returns-then-j-blocks c = known-row _ _ _ _ _ (in_view genesis) c.if-j-blocks.true c.row.ensures

pub returns-else-j-blocks : goal.returns-else-j-blocks
returns-else-j-blocks c = c.at.ensures ∙ known_past _ _ _ _ _ genesis c.if-j-blocks.false
