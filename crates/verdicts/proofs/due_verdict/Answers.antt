-- `due_verdict` meets its contract. Assumes nothing.
use borrow.Author.Tests.{le-leb, lt-leb, eq-eqb, ne_eqb}
use mathlib.Core.Path.{sym, ◌∙◌}
use Rattle.protocol.specs.Refusal.{first}
use Rattle.protocol.specs.Lent.{node_of}
use Rattle.verdicts.specs.Lent.{due_tests}
use Rattle.verdicts.proofs.Sequence.{refused-at, passed-before, due-front}
use Rattle.verdicts.proofs.due_verdict.Goals as goal

pub returns-in_err-beat_verdict : goal.returns-in_err-beat_verdict
returns-in_err-beat_verdict c = refused-at _ _ _ _ 2 (due-front _ _ _) c.beat_verdict.ensures _ c.from_residual.ensures.1 c.in_err-beat_verdict.was

pub returns-then-beat-phase : goal.returns-then-beat-phase
unfolding due_tests first
returns-then-beat-phase c =
    sym (passed-before _ _ _ _ 2 (due-front _ _ _) c.beat_verdict.ensures c.in_ok-beat_verdict.was
    ∙ simp (ne_eqb _ _ c.if-beat-phase.true))

pub returns-then-beat-lent : goal.returns-then-beat-lent
unfolding due_tests first node_of
returns-then-beat-lent c =
    sym (passed-before _ _ _ _ 2 (due-front _ _ _) c.beat_verdict.ensures c.in_ok-beat_verdict.was
    ∙ simp (eq-eqb _ _ c.if-beat-phase.false, le-leb _ _ c.if-beat-lent.true))

pub returns : goal.returns
unfolding due_tests first node_of
returns c =
    sym (passed-before _ _ _ _ 2 (due-front _ _ _) c.beat_verdict.ensures c.in_ok-beat_verdict.was
    ∙ simp (eq-eqb _ _ c.if-beat-phase.false, lt-leb _ _ c.if-beat-lent.false))
