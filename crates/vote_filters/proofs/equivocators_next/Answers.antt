-- `equivocators_next` meets its contract. Assumes nothing.
use borrow.Author.Tests.{eqb-true, eq-eqb}
use native.Mathlib.Omega.{arith}
use mathlib.Core.Bool.{not, true≢false}
use mathlib.Core.Path.{refl, ap, sym, ◌∙◌}
use Rattle.std.proofs.lemmas.Bool.{not-false}
use Rattle.numbers.proofs.Orders.{same_lem}
use Rattle.vote_filters.proofs.Equivocators.{alone-turn, out-turn, again-turn, double-turn}
use Rattle.vote_filters.proofs.equivocators_next.Goals as goal

pub returns-in_default : goal.returns-in_default
returns-in_default c =
    (alone-turn _ _ _ _ refl _ _ c.requires.4 (rw c.in_default.is at c.slot_add.ensures.0), c.slot_add.ensures.1)

-- the row of the first vote of the voter and slot is there
pub row-first-requires : goal.row-first-requires
row-first-requires c =
    let P = rw c.in-Some.is at c.slot_add.ensures.0 in
    omega (arith, (P.hit c.in-Some.link refl).is_row, c.requires.0)

pub returns-then-ne : goal.returns-then-ne
returns-then-ne c =
    let same = same_lem c.row-first.result.entry.number c.row-new.result.entry.number (omega arith) (omega arith) in (
      double-turn _ _ _ _ c.row-new.ensures _ _ c.requires.4 (rw c.in-Some.is at c.slot_add.ensures.0) _ c.row-first.ensures (sym c.counts.ensures ∙ c.if-counts.true)
          c.with.ensures (λ e. true≢false (sym c.if-ne.true ∙ c.ne.ensures ∙ ap not (same ∙ eq-eqb _ _ e))),
      c.slot_add.ensures.1,
    )

pub returns-else-ne : goal.returns-else-ne
returns-else-ne c =
    let same = same_lem c.row-first.result.entry.number c.row-new.result.entry.number (omega arith) (omega arith) in (
      again-turn _ _ _ _ c.row-new.ensures _ _ c.requires.4 (rw c.in-Some.is at c.slot_add.ensures.0) _ c.row-first.ensures (sym c.counts.ensures ∙ c.if-counts.true)
          (eqb-true _ _ (sym same ∙ not-false _ (sym c.ne.ensures ∙ c.if-ne.false))),
      c.slot_add.ensures.1,
    )

pub returns-else-counts : goal.returns-else-counts
returns-else-counts c =
    (out-turn _ _ _ _ c.row-new.ensures _ _ c.requires.4 (sym c.counts.ensures ∙ c.if-counts.false), c.slot_add.ensures.1)
