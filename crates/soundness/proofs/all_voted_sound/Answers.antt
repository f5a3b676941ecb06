-- `all_voted_sound` meets its contract. Assumes nothing.
use mathlib.Core.Path.{sym, ◌∙◌}
use Rattle.protocol.specs.Lent.{make_vote}
use Rattle.rows.proofs.Rows.{all_pass_lem, all-fail, all_end}
use Rattle.soundness.specs.Parts.{voted_sound}
use Rattle.soundness.proofs.all_voted_sound.Goals as goal

pub returns-then-not-voted_sound : goal.returns-then-not-voted_sound
returns-then-not-voted_sound c =
    sym (c.loop-i.invariant ∙ all-fail make_vote (voted_sound _) _ _ _ c.loop-i-test.true c.row.ensures (sym c.if-not-voted_sound.ensures))

pub loop-i-preserved : goal.loop-i-preserved
loop-i-preserved c =
    c.loop-i.invariant ∙ all_pass_lem make_vote (voted_sound _) _ _ _ c.loop-i-test.true c.row.ensures (sym c.if-not-voted_sound.ensures)

pub returns : goal.returns
returns c = sym (c.loop-i.invariant ∙ all_end make_vote (voted_sound _) _ _ _ c.loop-i-test.false)
