-- `write_verdict` meets its contract. Assumes nothing.
use mathlib.Core.Bool.{true, false}
use mathlib.Core.Path.{◌≡◌, sym, ◌∙◌}
use mathlib.Core.Logic.{◌⊎◌, inl, inr}
use Rattle.lent.specs.Memory.{memory}
use Rattle.writer.specs.Sent.{node_in}
use Rattle.verdicts.proofs.Passed.{passed-sound, passed-ready}
use Rattle.verdicts.proofs.Sequence.{refused-at, write-front}
use Rattle.verdicts.proofs.Write.{proposer, readable, header-fields, no-proposal, met-wide, short, enough}
use Rattle.verdicts.proofs.write_verdict.Goals as goal
use Rattle.verdicts.proofs.write_verdict.Goals.{After-header_block-named, else-proposal-via-then-proposal+else-not-proposed_now, else-proposal-via-else-proposal}

pub returns-in_err-sound_verdict : goal.returns-in_err-sound_verdict
returns-in_err-sound_verdict c = refused-at _ _ _ _ 1 (write-front _ _ _ _) c.sound_verdict.ensures _ c.from_residual.ensures.1 c.in_err-sound_verdict.was

pub of-tables-requires : goal.of-tables-requires
of-tables-requires c = passed-sound _ _ _ c.sound_verdict.ensures c.in_ok-sound_verdict.was

pub proposed_now-requires : goal.proposed_now-requires
proposed_now-requires c = (passed-ready _ _ _ c.sound_verdict.ensures c.in_ok-sound_verdict.was).settings.some

pub returns-then-not-proposed_now : goal.returns-then-not-proposed_now
returns-then-not-proposed_now c =
    no-proposal _ _ _ _ _ c.sound_verdict.ensures c.in_ok-sound_verdict.was c.if-proposal.true
    (rw (c.of-tables.ensures.blocks, c.of-tables.ensures.blocks_used) at c.proposed_now.ensures) c.if-not-proposed_now.true

pub invariant_of-sent : goal.invariant_of-sent
invariant_of-sent c = record {
  readable =
      rw (c.of-tables.ensures.blocks, c.of-tables.ensures.blocks_used, c.of-tables.ensures.votes, c.of-tables.ensures.votes_used)
      (readable _ _ (passed-ready _ _ _ c.sound_verdict.ensures c.in_ok-sound_verdict.was));
}

pub too_wide-requires : goal.too_wide-requires
unfolding node_in
too_wide-requires c = (header-fields _ _ _ c.header_block-named.ensures).1

-- the own node proposes now, or gossip is wanted
may : (c : After-header_block-named) → ((c.args.proposal ≡ true) × (proposer c.args.lent.settings (memory c.args.lent) ≡ true)) ⊎ (c.args.proposal ≡ false)
may c =
    elim c.else-proposal.branch [
      | else-proposal-via-then-proposal+else-not-proposed_now w ↦ inl (w.if-proposal.true, sym (rw (c.of-tables.ensures.blocks, c.of-tables.ensures.blocks_used) at w.proposed_now.ensures) ∙ w.if-not-proposed_now.false)
      | else-proposal-via-else-proposal w ↦ inr w.if-proposal.false
    ]

pub returns-then-too_wide : goal.returns-then-too_wide
returns-then-too_wide c =
    met-wide _ _ _ _ _ c.sound_verdict.ensures c.in_ok-sound_verdict.was (may (goal.at.returns-then-too_wide c).After-header_block-named)
    (rw (c.of-tables.ensures.blocks, c.of-tables.ensures.blocks_used, c.of-tables.ensures.votes, c.of-tables.ensures.votes_used) at c.too_wide.ensures) c.if-too_wide.true

pub returns-then-buffer-written_length : goal.returns-then-buffer-written_length
returns-then-buffer-written_length c =
    short _ _ _ _ _ c.sound_verdict.ensures c.in_ok-sound_verdict.was (may (goal.at.returns-then-buffer-written_length c).After-header_block-named)
    (rw (c.of-tables.ensures.blocks, c.of-tables.ensures.blocks_used, c.of-tables.ensures.votes, c.of-tables.ensures.votes_used) at c.too_wide.ensures) c.if-too_wide.false
    (rw (c.of-tables.ensures.blocks, c.of-tables.ensures.blocks_used, c.of-tables.ensures.votes, c.of-tables.ensures.votes_used) at c.written_length.ensures) c.if-buffer-written_length.true

pub returns : goal.returns
returns c =
    enough _ _ _ _ _ c.sound_verdict.ensures c.in_ok-sound_verdict.was (may (goal.at.returns c).After-header_block-named)
    (rw (c.of-tables.ensures.blocks, c.of-tables.ensures.blocks_used, c.of-tables.ensures.votes, c.of-tables.ensures.votes_used) at c.too_wide.ensures) c.if-too_wide.false
    (rw (c.of-tables.ensures.blocks, c.of-tables.ensures.blocks_used, c.of-tables.ensures.votes, c.of-tables.ensures.votes_used) at c.written_length.ensures) c.if-buffer-written_length.false
