-- The loop of `count_voters`: its invariant. Assumes nothing.
use Rattle.fork_choice.specs.Weights.{Counted}
use Rattle.fork_choice.proofs.count_voters.Given as goal

abbrev pub invariant-loop-i : goal.invariant-loop-i
invariant-loop-i l = Counted l.silent l.masks l.i l.weights
