-- `too_wide` meets its contract. Assumes nothing.
use mathlib.Core.Path.{refl, sym, ◌∙◌}
use Rattle.protocol.specs.Words.{value}
use Rattle.writer.proofs.Wide.{wide_enough, narrow-two, narrow-third}
use Rattle.writer.proofs.too_wide.Goals as goal
use Rattle.writer.proofs.too_wide.Goals.{then-is_wide, else-is_wide}

pub returns-in-Wide : goal.returns-in-Wide
returns-in-Wide c = sym (wide_enough _ _ c.in-Wide.is)

pub returns-then-any_wide : goal.returns-then-any_wide
returns-then-any_wide c =
    let s = c.args.sent in
    narrow-two s.proposal s.width s.blocks.words.now s.blocks.used s.votes.words.now s.votes.used s.readable (value c.args.number) c.requires c.in-Narrow.is c.if-is_wide.value
    (elim c.if-is_wide.branch [
      | then-is_wide w ↦ w.value-is ∙ w.if-is_wide.true ∙ sym (rw (sym c.is_wide.ensures ∙ w.if-is_wide.true) refl)
      | else-is_wide w ↦ w.value-is ∙ w.any_wide.ensures ∙ sym (rw (sym c.is_wide.ensures ∙ w.if-is_wide.false) refl)
    ]) c.if-any_wide.true

pub returns-else-any_wide : goal.returns-else-any_wide
returns-else-any_wide c =
    let s = c.args.sent in
    c.any_wide-else-any_wide.ensures ∙ narrow-third s.proposal s.width s.blocks.words.now s.blocks.used s.votes.words.now s.votes.used s.readable (value c.args.number) c.requires c.in-Narrow.is c.if-is_wide.value
    (elim c.if-is_wide.branch [
      | then-is_wide w ↦ w.value-is ∙ w.if-is_wide.true ∙ sym (rw (sym c.is_wide.ensures ∙ w.if-is_wide.true) refl)
      | else-is_wide w ↦ w.value-is ∙ w.any_wide.ensures ∙ sym (rw (sym c.is_wide.ensures ∙ w.if-is_wide.false) refl)
    ]) c.if-any_wide.false
