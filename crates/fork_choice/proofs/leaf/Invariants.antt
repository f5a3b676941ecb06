-- The loop of `leaf`: its invariant and its measure. Assumes nothing.
use Prim.Native.Nat.{◌-◌}
use Rattle.fork_choice.proofs.Best.{Way}
use Rattle.fork_choice.proofs.leaf.Given as goal

abbrev pub invariant-levels : goal.invariant-levels
invariant-levels l = Way l.whole l.blocks.words.now l.blocks.used l.weights l.lim l.a

abbrev pub decreases-levels : goal.decreases-levels
decreases-levels l = l.blocks.used - l.a
