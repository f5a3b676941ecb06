-- `vote_verdict` meets its contract. Assumes nothing.
use borrow.Author.Tests.{le-leb, lt-leb}
use mathlib.Core.Path.{sym, ◌∙◌}
use Rattle.protocol.specs.Refusal.{first}
use Rattle.protocol.specs.Lent.{places_of, node_of}
use Rattle.protocol.specs.Calls.Vote.{vote_tests}
use Rattle.protocol.proofs.Lent.Rows.{length-rows_of}
use Rattle.verdicts.proofs.Passed.{passed-sound}
use Rattle.verdicts.proofs.Sequence.{refused-at, passed-before, vote-front}
use Rattle.verdicts.proofs.vote_verdict.Goals as goal

pub returns-in_err-due_verdict : goal.returns-in_err-due_verdict
returns-in_err-due_verdict c = refused-at _ _ _ _ 4 (vote-front _ _) c.due_verdict.ensures _ c.from_residual.ensures.1 c.in_err-due_verdict.was

pub of-tables-requires : goal.of-tables-requires
of-tables-requires c = passed-sound _ _ _ c.due_verdict.ensures c.in_ok-due_verdict.was

pub returns-then-not-joined : goal.returns-then-not-joined
unfolding vote_tests first node_of
returns-then-not-joined c =
    sym (passed-before _ _ _ _ 4 (vote-front _ _) c.due_verdict.ensures c.in_ok-due_verdict.was
    ∙ simp (sym c.joined.ensures ∙ c.if-not-joined.true))

pub returns-then-has_voted : goal.returns-then-has_voted
unfolding vote_tests first node_of
returns-then-has_voted c =
    sym (passed-before _ _ _ _ 4 (vote-front _ _) c.due_verdict.ensures c.in_ok-due_verdict.was
    ∙ simp (sym c.joined.ensures ∙ c.if-not-joined.false, sym (rw (c.of-tables.ensures.votes, c.of-tables.ensures.votes_used) at c.has_voted.ensures) ∙ c.if-has_voted.true))

pub returns-then-places-lent : goal.returns-then-places-lent
unfolding vote_tests first node_of places_of
returns-then-places-lent c =
    sym (passed-before _ _ _ _ 4 (vote-front _ _) c.due_verdict.ensures c.in_ok-due_verdict.was
    ∙ simp (
      sym c.joined.ensures ∙ c.if-not-joined.false,
      sym (rw (c.of-tables.ensures.votes, c.of-tables.ensures.votes_used) at c.has_voted.ensures) ∙ c.if-has_voted.false,
      length-rows_of,
      sym c.places.ensures,
      le-leb _ _ c.if-places-lent.true,
    ))

pub returns : goal.returns
unfolding vote_tests first node_of places_of
returns c =
    sym (passed-before _ _ _ _ 4 (vote-front _ _) c.due_verdict.ensures c.in_ok-due_verdict.was
    ∙ simp (
      sym c.joined.ensures ∙ c.if-not-joined.false,
      sym (rw (c.of-tables.ensures.votes, c.of-tables.ensures.votes_used) at c.has_voted.ensures) ∙ c.if-has_voted.false,
      length-rows_of,
      sym c.places.ensures,
      lt-leb _ _ c.if-places-lent.false,
    ))
