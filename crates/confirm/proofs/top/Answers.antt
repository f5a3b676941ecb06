-- `top` meets its contract. Assumes nothing.
use native.Mathlib.Omega.{arith}
use Prim.Native.Nat.{suc, ◌-◌}
use mathlib.Core.Path.{◌≡◌, sym, ◌∙◌}
use Rattle.confirm.proofs.Candidates.{top-hit, top-light, top-hidden, top-end}
use Rattle.confirm.proofs.top.Goals as goal
use Rattle.confirm.proofs.top.Goals.{else-row-via-then-row+else-is_quorum, else-row-via-else-row}

pub returns-then-is_quorum : goal.returns-then-is_quorum
returns-then-is_quorum c =
    let e : c.loop-i.i ≡ suc (c.loop-i.i - 1) = omega arith in
    sym (c.loop-i.invariant ∙ top-hit _ _ _ _ (c.loop-i.i - 1) _ c.row-row.ensures e c.if-row.true (sym c.is_quorum.ensures ∙ c.if-is_quorum.true))

pub loop-i-preserved : goal.loop-i-preserved
loop-i-preserved c =
    let e : c.loop-i.i ≡ suc (c.loop-i.i - 1) = omega arith in
    c.loop-i.invariant
    ∙ elim c.else-row.branch [
      | else-row-via-then-row+else-is_quorum w ↦ top-light _ _ _ _ (c.loop-i.i - 1) _ c.row-row.ensures e w.if-row.true (sym w.is_quorum.ensures ∙ w.if-is_quorum.false)
      | else-row-via-else-row w ↦ top-hidden _ _ _ _ (c.loop-i.i - 1) _ c.row-row.ensures e w.if-row.false
    ]

pub returns : goal.returns
returns c = sym (c.loop-i.invariant ∙ top-end _ _ _ _ c.loop-i-test.false)
