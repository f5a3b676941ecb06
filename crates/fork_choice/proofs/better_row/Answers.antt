-- `better_row` meets its contract. Assumes nothing.
use mathlib.Core.Path.{sym, ◌∙◌}
use Rattle.std.specs.Prelude.{Some}
use Rattle.fork_choice.proofs.Best.{better-hidden, better-other, better-stays, better-new}
use Rattle.fork_choice.proofs.better_row.Goals as goal
use Rattle.fork_choice.proofs.better_row.Goals.{then-not-selects-via-then-not-selects, then-not-selects-via-else-not-selects+then-not-is_child}

pub returns-then-not-selects : goal.returns-then-not-selects
returns-then-not-selects c =
    elim c.then-not-selects.branch [
      | then-not-selects-via-then-not-selects w ↦ better-hidden _ _ _ _ _ _ _ _ c.row-row.ensures (sym c.selects.ensures ∙ w.if-not-selects.true)
      | then-not-selects-via-else-not-selects+then-not-is_child w ↦
          better-other _ _ _ _ _ _ _ _ c.row-row.ensures (sym c.selects.ensures ∙ w.if-not-selects.false) (sym w.is_child.ensures ∙ w.if-not-is_child.true)
    ]

pub returns-in-Some : goal.returns-in-Some
returns-in-Some c =
    better-stays _ _ _ _ _ _ (Some c.in-Some.b) _ c.row-row.ensures (sym c.selects.ensures ∙ c.if-not-selects.false)
    (sym c.is_child.ensures ∙ c.if-not-is_child.false) (sym c.beats.ensures ∙ c.if-beats.true)
    ∙ rw c.in-Some.is

pub returns-in_default : goal.returns-in_default
returns-in_default c =
    better-new _ _ _ _ _ _ _ _ c.row-row.ensures (sym c.selects.ensures ∙ c.if-not-selects.false)
    (sym c.is_child.ensures ∙ c.if-not-is_child.false) (rw c.in-Some.is (sym c.beats.ensures ∙ c.if-beats.false))

pub returns-in_default-2 : goal.returns-in_default-2
returns-in_default-2 c =
    better-new _ _ _ _ _ _ _ _ c.row-row.ensures (sym c.selects.ensures ∙ c.if-not-selects.false)
    (sym c.is_child.ensures ∙ c.if-not-is_child.false) (rw c.in_default.is)
