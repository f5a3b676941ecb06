-- `open_verdict` meets its contract. Assumes nothing.
use borrow.Author.Tests.{lt-ltb, le-ltb}
use mathlib.Core.Path.{sym, ◌∙◌}
use Rattle.protocol.specs.Refusal.{first}
use Rattle.protocol.specs.Lent.{places_of}
use Rattle.protocol.specs.Calls.Open.{open_tests}
use Rattle.verdicts.proofs.open_verdict.Goals as goal

pub returns-then-not-nodes_sound : goal.returns-then-not-nodes_sound
unfolding open_tests first
returns-then-not-nodes_sound c = simp (sym c.nodes_sound.ensures ∙ c.if-not-nodes_sound.true)

pub returns-then-settings : goal.returns-then-settings
unfolding open_tests first
returns-then-settings c =
    simp (sym c.nodes_sound.ensures ∙ c.if-not-nodes_sound.false, le-ltb _ _ c.if-settings.true)

pub returns-then-not-within : goal.returns-then-not-within
unfolding open_tests first
returns-then-not-within c =
    simp (
      sym c.nodes_sound.ensures ∙ c.if-not-nodes_sound.false,
      lt-ltb _ _ c.if-settings.false,
      sym c.within.ensures ∙ c.if-not-within.true,
    )

pub returns-then-not-within-2 : goal.returns-then-not-within-2
unfolding open_tests first
returns-then-not-within-2 c =
    simp (
      sym c.nodes_sound.ensures ∙ c.if-not-nodes_sound.false,
      lt-ltb _ _ c.if-settings.false,
      sym c.within.ensures ∙ c.if-not-within.false,
      sym c.within-2.ensures ∙ c.if-not-within-2.true,
    )

pub returns-then-not-places_sound : goal.returns-then-not-places_sound
unfolding open_tests first places_of
returns-then-not-places_sound c =
    simp (
      sym c.nodes_sound.ensures ∙ c.if-not-nodes_sound.false,
      lt-ltb _ _ c.if-settings.false,
      sym c.within.ensures ∙ c.if-not-within.false,
      sym c.within-2.ensures ∙ c.if-not-within-2.false,
      sym c.places_sound.ensures ∙ c.if-not-places_sound.true,
    )

pub returns : goal.returns
unfolding open_tests first places_of
returns c =
    simp (
      sym c.nodes_sound.ensures ∙ c.if-not-nodes_sound.false,
      lt-ltb _ _ c.if-settings.false,
      sym c.within.ensures ∙ c.if-not-within.false,
      sym c.within-2.ensures ∙ c.if-not-within-2.false,
      sym c.places_sound.ensures ∙ c.if-not-places_sound.false,
    )
