-- `overtakes` meets its contract. Assumes nothing.
use native.Mathlib.Omega.{arith}
use mathlib.Core.Path.{◌∙◌}
use Rattle.settled.proofs.Rivals.{overtakes-self, overtakes-more, overtakes-less, overtakes-tie}
use Rattle.settled.proofs.overtakes.Goals as goal
use Rattle.settled.proofs.overtakes.Goals.{then-x-y-via-then-x-y, then-x-y-via-else-x-y+then-x-y-2}

pub returns-then-d-c : goal.returns-then-d-c
returns-then-d-c c = overtakes-self _ _ _ _ _ c.if-d-c.true

pub returns-then-x-y : goal.returns-then-x-y
returns-then-x-y c =
    overtakes-more _ _ _ _ _ c.if-d-c.false
    (elim c.then-x-y.branch [
      | then-x-y-via-then-x-y w ↦ omega arith
      | then-x-y-via-else-x-y+then-x-y-2 w ↦ omega (arith, w.if-x-y.false, w.if-x-y-2.true)
    ])

pub returns-then-x-y-3 : goal.returns-then-x-y-3
returns-then-x-y-3 c =
    overtakes-less _ _ _ _ _ c.if-d-c.false (omega (arith, c.if-x-y.false, c.if-x-y-2.false, c.if-x-y-3.true))

pub returns : goal.returns
returns c =
    c.is_below.ensures
    ∙ overtakes-tie _ _ _ _ _ _ _ c.row-p.ensures c.row-q.ensures c.if-d-c.false (omega (arith, c.if-x-y.false, c.if-x-y-3.false))
