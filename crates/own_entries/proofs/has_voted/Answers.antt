-- `has_voted` meets its contract. Assumes nothing.
use mathlib.Core.Path.{sym, ◌∙◌}
use borrow.Author.Tests.{eq-eqb, ne_eqb}
use Rattle.protocol.specs.Lent.{make_vote}
use Rattle.rows.proofs.Rows.{any-hit, any-miss, any-end}
use Rattle.rows.proofs.Views.{any-entries}
use Rattle.own_entries.proofs.has_voted.Invariants.{is_row}
use Rattle.own_entries.proofs.has_voted.Goals as goal
use Rattle.own_entries.proofs.has_voted.Goals.{else-vote-voter-via-then-vote-voter+else-vote-slot, else-vote-voter-via-else-vote-voter}

pub loop-i-init : goal.loop-i-init
loop-i-init c = any-entries _ _

pub returns-then-vote-slot : goal.returns-then-vote-slot
returns-then-vote-slot c =
    sym (c.loop-i.invariant ∙ any-hit make_vote (is_row _ _) _ _ _ c.loop-i-test.true c.row.ensures (simp (eq-eqb _ _ c.if-vote-voter.true, eq-eqb _ _ c.if-vote-slot.true)))

pub loop-i-preserved : goal.loop-i-preserved
loop-i-preserved c =
    c.loop-i.invariant ∙ any-miss make_vote (is_row _ _) _ _ _ c.loop-i-test.true c.row.ensures (elim c.else-vote-voter.branch [
      | else-vote-voter-via-then-vote-voter+else-vote-slot w ↦ simp (eq-eqb _ _ w.if-vote-voter.true, ne_eqb _ _ w.if-vote-slot.false)
      | else-vote-voter-via-else-vote-voter w ↦ simp (ne_eqb _ _ w.if-vote-voter.false)
    ])

pub returns : goal.returns
returns c = sym (c.loop-i.invariant ∙ any-end make_vote _ _ _ _ c.loop-i-test.false)
