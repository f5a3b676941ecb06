-- `count_voters` meets its contract. Assumes nothing.
use native.Mathlib.Omega.{arith}
use mathlib.Core.Path.{refl, ◌∙◌}
use Rattle.subtree_voters.proofs.Filled.{filled_more}
use Rattle.fork_choice.proofs.Weights.{count-mask}
use Rattle.fork_choice.proofs.count_voters.Goals as goal

pub loop-i-preserved : goal.loop-i-preserved
loop-i-preserved c =
    filled_more _ _ c.loop-i.invariant refl (c.weight.ensures ∙ count-mask _ c.without.ensures) (omega (arith, c.loop-i.auto.weights, c.requires.1))
