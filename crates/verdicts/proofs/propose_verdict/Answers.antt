-- `propose_verdict` meets its contract. Assumes nothing.
use borrow.Author.Tests.{le-leb, lt-leb}
use Prim.Native.Nat.{ℕ}
use mathlib.Core.Bool.{true}
use mathlib.Core.List.{List}
use mathlib.Core.Path.{◌≡◌, refl, sym, ◌∙◌}
use Rattle.std.specs.Prelude.{Option, Some, None, is_some}
use Rattle.protocol.specs.Chain.{known}
use Rattle.protocol.specs.Store.{entries}
use Rattle.protocol.specs.Refusal.{first}
use Rattle.protocol.specs.Lent.{rows_of, make_block, places_of, node_of}
use Rattle.protocol.specs.Calls.Propose.{propose_tests}
use Rattle.protocol.proofs.Lent.Rows.{length-rows_of}
use Rattle.rows.specs.Find.{row_of}
use Rattle.rows.proofs.Find.{found_at, found_none}
use Rattle.verdicts.proofs.Passed.{passed-sound, passed-ready}
use Rattle.verdicts.proofs.Sequence.{refused-at, passed-before, propose-front}
use Rattle.verdicts.proofs.propose_verdict.Goals as goal

-- a number is known if a row has it
known-row : (ws : List ℕ) (n x : ℕ) (r : Option ℕ) → r ≡ row_of (rows_of make_block ws n) x → known (entries (rows_of make_block ws n)) x ≡ is_some r
known-row ws n x (Some k) e = found_at (λ b. true) ws n x (sym e) refl
known-row ws n x None e = found_none (λ b. true) ws n x (sym e)

pub returns-in_err-due_verdict : goal.returns-in_err-due_verdict
returns-in_err-due_verdict c = refused-at _ _ _ _ 4 (propose-front _ _ _) c.due_verdict.ensures _ c.from_residual.ensures.1 c.in_err-due_verdict.was

pub of-tables-requires : goal.of-tables-requires
of-tables-requires c = passed-sound _ _ _ c.due_verdict.ensures c.in_ok-due_verdict.was

pub is_proposer-proposer-requires : goal.is_proposer-proposer-requires
is_proposer-proposer-requires c = (passed-ready _ _ _ c.due_verdict.ensures c.in_ok-due_verdict.was).settings.some

pub returns-then-not-joined : goal.returns-then-not-joined
unfolding propose_tests first node_of
returns-then-not-joined c =
    sym (passed-before _ _ _ _ 4 (propose-front _ _ _) c.due_verdict.ensures c.in_ok-due_verdict.was ∙ simp (sym c.joined-joined.ensures ∙ c.if-not-joined.true))

pub returns-then-not-proposer : goal.returns-then-not-proposer
unfolding propose_tests first node_of
returns-then-not-proposer c =
    sym (passed-before _ _ _ _ 4 (propose-front _ _ _) c.due_verdict.ensures c.in_ok-due_verdict.was
    ∙ simp (sym c.joined-joined.ensures ∙ c.if-not-joined.false, sym c.is_proposer-proposer.ensures ∙ c.if-not-proposer.true))

pub returns-then-is_some : goal.returns-then-is_some
unfolding propose_tests first node_of
returns-then-is_some c =
    sym (passed-before _ _ _ _ 4 (propose-front _ _ _) c.due_verdict.ensures c.in_ok-due_verdict.was
    ∙ simp (
      sym c.joined-joined.ensures ∙ c.if-not-joined.false,
      sym c.is_proposer-proposer.ensures ∙ c.if-not-proposer.false,
      known-row _ _ _ _ (rw (c.of-tables.ensures.blocks, c.of-tables.ensures.blocks_used) at c.find.ensures) ∙ sym c.is_some.ensures ∙ c.if-is_some.true,
    ))

pub returns-then-places-lent : goal.returns-then-places-lent
unfolding propose_tests first node_of places_of
returns-then-places-lent c =
    sym (passed-before _ _ _ _ 4 (propose-front _ _ _) c.due_verdict.ensures c.in_ok-due_verdict.was
    ∙ simp (
      sym c.joined-joined.ensures ∙ c.if-not-joined.false,
      sym c.is_proposer-proposer.ensures ∙ c.if-not-proposer.false,
      known-row _ _ _ _ (rw (c.of-tables.ensures.blocks, c.of-tables.ensures.blocks_used) at c.find.ensures) ∙ sym c.is_some.ensures ∙ c.if-is_some.false,
      length-rows_of,
      sym c.places.ensures,
      le-leb _ _ c.if-places-lent.true,
    ))

pub returns : goal.returns
unfolding propose_tests first node_of places_of
returns c =
    sym (passed-before _ _ _ _ 4 (propose-front _ _ _) c.due_verdict.ensures c.in_ok-due_verdict.was
    ∙ simp (
      sym c.joined-joined.ensures ∙ c.if-not-joined.false,
      sym c.is_proposer-proposer.ensures ∙ c.if-not-proposer.false,
      known-row _ _ _ _ (rw (c.of-tables.ensures.blocks, c.of-tables.ensures.blocks_used) at c.find.ensures) ∙ sym c.is_some.ensures ∙ c.if-is_some.false,
      length-rows_of,
      sym c.places.ensures,
      lt-leb _ _ c.if-places-lent.false,
    ))
