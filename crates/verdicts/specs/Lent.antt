-- The verdict of a call on lent memory. Assumes nothing.
use Rattle.std.specs.Prelude.{ℕ, cond, List, [], ◌∷◌}
use Rattle.std.specs.Borrow.{MutBor}
use denote.Triple.Both.{Both}
use Rattle.protocol.specs.declared.Settings.{Settings}
use Rattle.protocol.specs.declared.Clock.{Clock}
use Rattle.protocol.specs.Store.{Places, Node, fresh_clock}
use Rattle.protocol.specs.Refusal.{by, Test, Verdict, refuse, first, unsound, wrong_beat, wrong_phase, beat_done}
use Rattle.protocol.specs.Lent.{Lent, places_of, node_of, lent_sound}

-- the words of both tables, how many rows of each are used, and the clock
abbrev pub lent : List ℕ → List ℕ → ℕ → ℕ → Clock → Lent
lent blocks votes blocks_used votes_used clock =
    record { blocks = blocks; votes = votes; blocks_used = blocks_used; votes_used = votes_used; clock = clock }

-- the memory that these references lend, with this clock
abbrev pub behind : MutBor (List ℕ) → MutBor ℕ → MutBor (List ℕ) → MutBor ℕ → Clock → Lent
behind blocks blocks_used votes votes_used clock = lent blocks.now votes.now blocks_used.now votes_used.now clock

-- the memory that a call with these arguments finds, and the one that it leaves, with this clock
module _ (blocks : Both (MutBor (List ℕ)) (MutBor (List ℕ))) (blocks_used : Both (MutBor ℕ) (MutBor ℕ)) (votes : Both (MutBor (List ℕ)) (MutBor (List ℕ)))
    (votes_used : Both (MutBor ℕ) (MutBor ℕ)) (clock : Clock) where
  abbrev pub lent_at_entry : Lent
  lent_at_entry = behind blocks.entry blocks_used.entry votes.entry votes_used.entry clock

  abbrev pub lent_at_exit : Lent
  lent_at_exit = behind blocks.exit blocks_used.exit votes.exit votes_used.exit clock

-- the first block alone, with the clock of a fresh node
abbrev pub first_rows : Lent → Lent
first_rows m = lent m.blocks m.votes 1 0 fresh_clock

-- unsound memory is refused by 6, whatever the call; else the call's tests decide
unfoldable pub lent_verdict : Settings → (Places → Node → List Test) → Lent → Verdict
lent_verdict s tests m = cond (lent_sound s m) (first (tests (places_of m) (node_of m))) (refuse (by 6))

-- ---- the tests that several calls begin with

-- every call with a beat
unfoldable pub beat_tests : Settings → ℕ → Places → Node → List Test
beat_tests s beat p x = unsound s p x ∷ wrong_beat x beat ∷ []

-- Propose, Vote and Merge, each in its phase
unfoldable pub due_tests : Settings → ℕ → ℕ → Places → Node → List Test
due_tests s phase beat p x = unsound s p x ∷ wrong_beat x beat ∷ wrong_phase phase beat ∷ beat_done x beat ∷ []
