-- `indexed_verdict` meets its contract. Assumes nothing.
use borrow.Author.Tests.{lt-ltb, le-ltb}
use mathlib.Core.Path.{sym, ◌∙◌}
use Rattle.protocol.specs.Refusal.{first}
use Rattle.protocol.specs.Lent.{node_of}
use Rattle.verdicts.specs.Lent.{beat_tests}
use Rattle.verdicts.proofs.Sequence.{unsound-refuse, sound-pass}
use Rattle.verdicts.proofs.indexed_verdict.Goals as goal
use Rattle.verdicts.proofs.indexed_verdict.Goals.{then-beat-lent-via-then-beat-lent, then-beat-lent-via-else-beat-lent+then-beat-gt-MAX_SLOT}

pub returns-then-not-sound_indexed-clause-verdict : goal.returns-then-not-sound_indexed-clause-verdict
unfolding beat_tests
returns-then-not-sound_indexed-clause-verdict c = unsound-refuse _ _ _ c.sound_indexed.ensures.sound c.if-not-sound_indexed.true

pub returns-then-beat-lent-clause-verdict : goal.returns-then-beat-lent-clause-verdict
unfolding beat_tests first node_of
returns-then-beat-lent-clause-verdict c =
    sym (sound-pass _ _ _ c.sound_indexed.ensures.sound c.if-not-sound_indexed.false
    ∙ elim c.then-beat-lent.branch [
      | then-beat-lent-via-then-beat-lent w ↦ simp (lt-ltb _ _ w.if-beat-lent.true)
      | then-beat-lent-via-else-beat-lent+then-beat-gt-MAX_SLOT w ↦ simp (le-ltb _ _ w.if-beat-lent.false, lt-ltb _ _ w.if-beat-gt-MAX_SLOT.true)
    ])

pub returns-clause-verdict : goal.returns-clause-verdict
unfolding beat_tests first node_of
returns-clause-verdict c =
    sym (sound-pass _ _ _ c.sound_indexed.ensures.sound c.if-not-sound_indexed.false ∙ simp (le-ltb _ _ c.if-beat-lent.false, le-ltb _ _ c.if-beat-gt-MAX_SLOT.false))
