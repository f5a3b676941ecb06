-- `viewed_at_once` meets its contract. Assumes nothing.
use mathlib.Core.Path.{sym, ◌∙◌}
use Rattle.protocol.proofs.Basics.Tests.{clashing}
use Rattle.receiving.proofs.Once.{once-all, once-kind, once-phase, once-slot}
use Rattle.receiving.proofs.viewed_at_once.Goals as goal
use Rattle.receiving.proofs.viewed_at_once.Goals.{then-is_proposal, else-is_proposal, then-beat-eq0, else-beat-eq0}

pub returns-then-beat-h : goal.returns-then-beat-h
returns-then-beat-h c =
    elim c.if-beat-eq0.branch [
      | then-beat-eq0 v ↦
          elim c.if-is_proposal.branch [
            | then-is_proposal w ↦
                once-all _ c.args.beat _ c.header_of-h.ensures (sym c.is_proposal.ensures ∙ w.if-is_proposal.true) (sym w.value-is ∙ v.if-beat-eq0.true) (sym v.value-is ∙ c.if-beat-h.true)
            | else-is_proposal w ↦ absurd (clashing v.if-beat-eq0.true (w.value-is ∙ w.if-is_proposal.false))
          ]
      | else-beat-eq0 v ↦ absurd (clashing c.if-beat-h.true (v.value-is ∙ v.if-beat-eq0.false))
    ]

pub returns-else-beat-h : goal.returns-else-beat-h
returns-else-beat-h c =
    c.if-beat-h.false
    ∙ elim c.if-beat-eq0.branch [
      | then-beat-eq0 v ↦ once-slot _ c.args.beat _ c.header_of-h.ensures (sym v.value-is ∙ c.if-beat-h.false)
      | else-beat-eq0 v ↦
          elim c.if-is_proposal.branch [
            | then-is_proposal w ↦ once-phase _ c.args.beat _ c.header_of-h.ensures (sym w.value-is ∙ v.if-beat-eq0.false)
            | else-is_proposal w ↦ once-kind _ c.args.beat _ c.header_of-h.ensures (sym c.is_proposal.ensures ∙ w.if-is_proposal.false)
          ]
    ]
