-- `known_behind` meets its contract. Assumes nothing.
use native.Mathlib.Omega.{arith}
use mathlib.Core.Path.{refl}
use Rattle.index.proofs.Joined.{early, late_none, late-some}
use Rattle.index.proofs.known_behind.Goals as goal

pub returns-in-Some : goal.returns-in-Some
returns-in-Some g c = early c.args.i c.in-Some.ensures

pub returns-in_err-later : goal.returns-in_err-later
returns-in_err-later g c = rw c.from_residual.ensures (late_none c.args.i c.in_default.ensures c.in_err-later.ensures)

pub overflow_add-result : goal.overflow_add-result
overflow_add-result g c = record { fits = omega (arith, (c.in_ok-later.ensures.hit c.in_ok-later.later refl).is_row, c.requires.2) }

pub returns : goal.returns
returns g c = late-some c.args.i c.in_default.ensures c.in_ok-later.ensures
