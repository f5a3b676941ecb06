-- `find` meets its contract. Assumes nothing.
use native.Mathlib.Omega.{arith}
use mathlib.Core.Path.{sym, ◌∙◌}
use Rattle.numbers.proofs.Orders.{same_lem}
use Rattle.rows.proofs.Find.{row-hit, row-miss, row-end}
use Rattle.rows.proofs.Table+Block.find.Goals as goal

pub returns-then-eq : goal.returns-then-eq
returns-then-eq c =
    let same = same_lem c.row.result.entry.number c.args.number (omega arith) (omega arith) in
    sym (c.loop-i.invariant ∙ row-hit _ _ _ _ c.loop-i-test.true c.row.ensures (sym same ∙ sym c.eq.ensures ∙ c.if-eq.true))

pub loop-i-preserved : goal.loop-i-preserved
loop-i-preserved c =
    let same = same_lem c.row.result.entry.number c.args.number (omega arith) (omega arith) in
    c.loop-i.invariant ∙ row-miss _ _ _ _ c.loop-i-test.true c.row.ensures (sym same ∙ sym c.eq.ensures ∙ c.if-eq.false)

pub returns : goal.returns
returns c = sym (c.loop-i.invariant ∙ row-end _ _ _ _ c.loop-i-test.false)
