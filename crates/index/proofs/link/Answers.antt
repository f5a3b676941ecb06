-- `link` meets its contract. Assumes nothing.
use native.Mathlib.Omega.{arith}
use Rattle.search_tree.proofs.Tree.{index-for}
use Rattle.index.proofs.Tables.{number-linked}
use Rattle.index.proofs.link.Goals as goal

pub find-requires : goal.find-requires
find-requires c = (omega arith, index-for c.requires _ tt)

pub returns : goal.returns
returns c = number-linked _ _ _ c.from.ensures c.find.ensures
