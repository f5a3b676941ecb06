-- `is_rival` meets its contract. Assumes nothing.
use mathlib.Core.Path.{sym, ◌∙◌}
use Rattle.std.proofs.lemmas.Bool.{not-true, not-false}
use Rattle.settled.proofs.Rivals.{rival-hidden, rival-other, rival-child}
use Rattle.settled.proofs.is_rival.Goals as goal
use Rattle.settled.proofs.is_rival.Goals.{then-not-row-via-then-not-row, then-not-row-via-else-not-row+then-not-is_child}

pub returns-then-not-row : goal.returns-then-not-row
returns-then-not-row c =
    elim c.then-not-row.branch [
      | then-not-row-via-then-not-row w ↦ rival-hidden _ _ _ _ _ _ _ _ c.row-row.ensures (not-true _ w.if-not-row.true)
      | then-not-row-via-else-not-row+then-not-is_child w ↦
          rival-other _ _ _ _ _ _ _ _ c.row-row.ensures (not-false _ w.if-not-row.false) (sym w.is_child.ensures ∙ w.if-not-is_child.true)
    ]

pub returns : goal.returns
returns c =
    c.overtakes.ensures ∙ rival-child _ _ _ _ _ _ _ _ c.row-row.ensures (not-false _ c.if-not-row.false) (sym c.is_child.ensures ∙ c.if-not-is_child.false)
