-- `meet` meets its contract. Assumes nothing.
use native.Mathlib.Omega.{arith}
use mathlib.Core.Path.{sym, ◌∙◌}
use Rattle.protocol.specs.EquivocationPasses.{meet}
use Rattle.numbers.proofs.Orders.{same_lem}
use Rattle.equivocation.proofs.meet.Goals as goal

pub returns-then-eq : goal.returns-then-eq
unfolding meet
returns-then-eq c =
    let a = c.args in
    sym (rw (sym (same_lem a.b.number a.a.number (omega (arith, c.well_formed)) (omega (arith, c.well_formed))) ∙ sym c.eq.ensures ∙ c.if-eq.true))

pub returns : goal.returns
unfolding meet
returns c =
    let a = c.args in
    c.lower_ranked.ensures
    ∙ sym (rw (sym (same_lem a.b.number a.a.number (omega (arith, c.well_formed)) (omega (arith, c.well_formed))) ∙ sym c.eq.ensures ∙ c.if-eq.false))
