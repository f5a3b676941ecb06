-- `join_behind` meets its contract. Assumes nothing.
use native.Mathlib.Omega.{arith}
use mathlib.Core.Path.{refl, ◌∙◌}
use Rattle.search_tree.proofs.Tree.{index-unwanted}
use Rattle.index.proofs.Added.{added-index, added-points}
use Rattle.index.proofs.Joined.{early, late_none, late-some}
use Rattle.index.proofs.join_behind.Goals as goal

pub returns-in-Some : goal.returns-in-Some
returns-in-Some g c =
    let x = c.requires.4 in
    let h = c.in-Some.ensures.hit c.in-Some.row refl in (
      early c.args.i c.in-Some.ensures,
      record { table = x.table; packet = index-unwanted x.packet c.requires.3.1 (λ w. w _ h.is_row (h.has ∙ c.requires.5)) },
    )

pub returns-in_err-later : goal.returns-in_err-later
returns-in_err-later g c =
    let x = c.requires.4 in (
      rw c.from_residual.ensures (late_none c.args.i c.in_default.ensures (rw (← c.requires.5) at (added-points c.in_err-later.ensures))),
      record { table = x.table; packet = added-index c.in_err-later.ensures c.requires.3.1 x.packet },
    )

pub overflow_add-result : goal.overflow_add-result
overflow_add-result g c = record { fits = omega (arith, ((added-points c.in_ok-later.ensures).hit c.in_ok-later.later refl).is_row, c.requires.2) }

pub returns : goal.returns
returns g c =
    let x = c.requires.4 in (
      late-some c.args.i c.in_default.ensures (rw (← c.requires.5) at (added-points c.in_ok-later.ensures)),
      record { table = x.table; packet = added-index c.in_ok-later.ensures c.requires.3.1 x.packet },
    )
