-- `settled_verdict` meets its contract. Assumes nothing.
use mathlib.Core.Path.{sym, ◌∙◌}
use Rattle.protocol.specs.Refusal.{first}
use Rattle.protocol.specs.Lent.{node_of}
use Rattle.protocol.specs.Calls.Query.{query_tests, settled_tests}
use Rattle.verdicts.proofs.Sequence.{refused-at, passed-before, settled-front}
use Rattle.verdicts.proofs.settled_verdict.Goals as goal

pub returns-in_err-sound_verdict : goal.returns-in_err-sound_verdict
returns-in_err-sound_verdict c = refused-at _ _ _ _ 1 (settled-front _ _ _) c.sound_verdict.ensures _ c.from_residual.ensures.1 c.in_err-sound_verdict.was

pub returns-then-late : goal.returns-then-late
unfolding settled_tests query_tests first node_of
returns-then-late c =
    sym (passed-before _ _ _ _ 1 (settled-front _ _ _) c.sound_verdict.ensures c.in_ok-sound_verdict.was ∙ simp (sym c.slot_out_of_range-late.ensures ∙ c.if-late.true))

pub returns-then-beyond : goal.returns-then-beyond
unfolding settled_tests query_tests first node_of
returns-then-beyond c =
    sym (passed-before _ _ _ _ 1 (settled-front _ _ _) c.sound_verdict.ensures c.in_ok-sound_verdict.was
    ∙ simp (sym c.slot_out_of_range-late.ensures ∙ c.if-late.false, sym c.has_from-beyond.ensures ∙ c.if-beyond.true))

pub returns : goal.returns
unfolding settled_tests query_tests first node_of
returns c =
    sym (passed-before _ _ _ _ 1 (settled-front _ _ _) c.sound_verdict.ensures c.in_ok-sound_verdict.was
    ∙ simp (sym c.slot_out_of_range-late.ensures ∙ c.if-late.false, sym c.has_from-beyond.ensures ∙ c.if-beyond.false))
