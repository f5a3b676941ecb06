-- `gather` meets its contract: both filters have seen the first i votes. Assumes nothing.
use native.Mathlib.Omega.{arith}
use mathlib.Core.Path.{sym}
use Rattle.search_tree.proofs.Tree.{index-free, blank-new}
use Rattle.vote_filters.proofs.Equivocators.{equivocators-none}
use Rattle.vote_filters.proofs.gather.Goals as goal

pub loop-i-init : goal.loop-i-init
loop-i-init c =
    record { links = index-free _ (blank-new 24576) (omega arith); mask = sym (equivocators-none _ _ _ _); latest = c.requires.3 }
