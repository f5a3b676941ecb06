-- `sound_verdict` meets its contract. Assumes nothing.
use mathlib.Core.Path.{sym}
use mathlib.Core.List.{[]}
use Rattle.protocol.specs.Refusal.{first}
use Rattle.verdicts.proofs.Sequence.{unsound-refuse, sound-pass}
use Rattle.verdicts.proofs.sound_verdict.Goals as goal

pub returns-then-not-lent_sound : goal.returns-then-not-lent_sound
returns-then-not-lent_sound c = unsound-refuse _ (λ p x. []) _ c.lent_sound.ensures c.if-not-lent_sound.true

pub returns : goal.returns
unfolding first
returns c = sym (sound-pass _ (λ p x. []) _ c.lent_sound.ensures c.if-not-lent_sound.false)
