-- The loop of `view_ancestors`: its invariant. Assumes nothing.
use Rattle.views.proofs.Pass.{Pass}
use Rattle.views.proofs.view_ancestors.Given as goal

abbrev pub invariant-loop-i : goal.invariant-loop-i
invariant-loop-i l = Pass l.initial.blocks l.used l.blocks l.i
