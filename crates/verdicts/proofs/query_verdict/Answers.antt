-- `query_verdict` meets its contract. Assumes nothing.
use mathlib.Core.Path.{sym, ◌∙◌}
use Rattle.protocol.specs.Refusal.{first}
use Rattle.protocol.specs.Lent.{node_of}
use Rattle.protocol.specs.Calls.Query.{query_tests}
use Rattle.verdicts.proofs.Sequence.{refused-at, passed-before, query-front}
use Rattle.verdicts.proofs.query_verdict.Goals as goal

pub returns-in_err-sound_verdict : goal.returns-in_err-sound_verdict
returns-in_err-sound_verdict c = refused-at _ _ _ _ 1 (query-front _ _) c.sound_verdict.ensures _ c.from_residual.ensures.1 c.in_err-sound_verdict.was

pub returns-then-slot_out_of_range : goal.returns-then-slot_out_of_range
unfolding query_tests first node_of
returns-then-slot_out_of_range c =
    sym (passed-before _ _ _ _ 1 (query-front _ _) c.sound_verdict.ensures c.in_ok-sound_verdict.was ∙ simp (sym c.slot_out_of_range.ensures ∙ c.if-slot_out_of_range.true))

pub returns : goal.returns
unfolding query_tests first node_of
returns c =
    sym (passed-before _ _ _ _ 1 (query-front _ _) c.sound_verdict.ensures c.in_ok-sound_verdict.was ∙ simp (sym c.slot_out_of_range.ensures ∙ c.if-slot_out_of_range.false))
