-- Request 13 of the code: what Settled answers, by the promises of Settled and Head alone, on any memory that a caller may lend. Assumes nothing.
use Rattle.std.specs.Prelude.{ℕ, ◌<◌, ◌≡◌, true, Result}
use Rattle.protocol.specs.declared.Number.{Number}
use Rattle.protocol.specs.declared.Settings.{Settings}
use Rattle.protocol.specs.Words.{value, bit_of}
use Rattle.protocol.specs.Chain.{at_or_above}
use Rattle.protocol.specs.Store.{view_of}
use Rattle.protocol.specs.Refusal.{done}
use Rattle.protocol.specs.Settled.{Farthest}
use Rattle.protocol.specs.Lent.{Lent, node_of}
use Rattle.verdicts.specs.declared.Refusal.{Refusal}
use Rattle.answers.specs.Answers.{answered}
use Rattle.answers.specs.Promises.{IsHead, IsSettled}

module _ (s : Settings) (m : Lent) (t : ℕ) where
  -- Settled answers block r for this set of silent nodes, and Head block h
  abbrev pub Settles : ℕ → ℕ → Type 0
  Settles silent r = (a : Result Number Refusal) × IsSettled s m t silent a × (answered value a ≡ done r)

  abbrev pub Heads : ℕ → Type 0
  Heads h = (a : Result Number Refusal) × IsHead s m t a × (answered value a ≡ done h)

unfoldable pub CodeSettled : Type 0
CodeSettled =
    (s : Settings) (m : Lent) (t : ℕ) →
    -- "the farthest block from block 0 that lies on the head's chain for every such filling"
    ((silent r : ℕ) → Settles s m t silent r →
    Farthest (view_of (node_of m).blocks) (view_of (node_of m).votes) s.nodes s.expiry t (bit_of silent) r)
    -- "With no silent loom it is the head": it answers as Head does, and is refused as Head is
    × ((a a' : Result Number Refusal) → IsSettled s m t 0 a → IsHead s m t a' → answered value a ≡ answered value a')
    -- "Adding a loom to the set never moves the answer farther up": it stays or moves down its own chain
    × ((few many r q : ℕ) → ((v : ℕ) → v < s.nodes → bit_of few v ≡ true → bit_of many v ≡ true) →
    Settles s m t few r → Settles s m t many q → at_or_above (view_of (node_of m).blocks) r q ≡ true)
    -- it is on the head's chain
    × ((silent r h : ℕ) → Settles s m t silent r → Heads s m t h → at_or_above (view_of (node_of m).blocks) h r ≡ true)
