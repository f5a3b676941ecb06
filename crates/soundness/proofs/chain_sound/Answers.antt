-- `chain_sound` meets its contract. Assumes nothing.
use native.Mathlib.Omega.{arith}
use mathlib.Core.Path.{sym, ◌∙◌}
use Rattle.soundness.proofs.Turns.{parents-pass, parents-fail, parents-end, chain-none, first-pass, first-fail}
use Rattle.soundness.proofs.chain_sound.Goals as goal
use Rattle.soundness.proofs.chain_sound.Goals.{then-blocks-eq0-via-then-blocks-eq0, then-blocks-eq0-via-else-blocks-eq0+then-not-first_sound}

pub returns-then-blocks-eq0 : goal.returns-then-blocks-eq0
returns-then-blocks-eq0 c =
    elim c.then-blocks-eq0.branch [
      | then-blocks-eq0-via-then-blocks-eq0 w ↦ sym (chain-none _ _ w.if-blocks-eq0.true)
      | then-blocks-eq0-via-else-blocks-eq0+then-not-first_sound w ↦
          sym (first-fail _ _ (omega (arith, w.if-blocks-eq0.false)) w.row.ensures w.first_sound.ensures w.if-not-first_sound.true)
    ]

pub loop-i-init : goal.loop-i-init
loop-i-init c = first-pass _ _ (omega (arith, c.if-blocks-eq0.false)) c.row.ensures c.first_sound.ensures c.if-not-first_sound.false

pub returns-then-not-parent_sound : goal.returns-then-not-parent_sound
returns-then-not-parent_sound c =
    sym (c.loop-i.invariant
    ∙ parents-fail _ _ c.loop-i.i c.loop-i-test.true c.row-in-loop-i.ensures c.parent_sound.ensures c.if-not-parent_sound.true)

pub loop-i-preserved : goal.loop-i-preserved
loop-i-preserved c =
    c.loop-i.invariant
    ∙ parents-pass _ _ c.loop-i.i c.loop-i-test.true c.row-in-loop-i.ensures c.parent_sound.ensures c.if-not-parent_sound.false

pub returns : goal.returns
returns c = sym (c.loop-i.invariant ∙ parents-end _ _ c.loop-i.i c.loop-i-test.false)
