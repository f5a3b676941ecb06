-- The loop of `view_all`: its invariant. Assumes nothing.
use mathlib.Core.Bool.{true}
use mathlib.Core.Path.{◌≡◌}
use Rattle.changes.proofs.View.{viewed_to}
use Rattle.changes.proofs.view_all.Given as goal

abbrev pub invariant-loop-i : goal.invariant-loop-i
invariant-loop-i g l = l.words ≡ viewed_to g.met.E.Entry.codec (λ b. true) l.initial.words l.used l.i
