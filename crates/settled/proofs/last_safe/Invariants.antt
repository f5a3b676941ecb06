-- The loop of `last_safe`: its invariant and its measure. Assumes nothing.
use Prim.Native.Nat.{◌-◌}
use Rattle.settled.proofs.Levels.{Level}
use Rattle.settled.proofs.last_safe.Given as goal

abbrev pub invariant-loop-c : goal.invariant-loop-c
invariant-loop-c l = Level l.blocks.words.now l.blocks.used l.weights l.k l.t l.a

abbrev pub decreases-loop-c : goal.decreases-loop-c
decreases-loop-c l = l.blocks.used - l.a
