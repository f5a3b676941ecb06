-- What the functions ask of lent tables: that they are those of a sound node. Assumes nothing.
use Rattle.std.specs.Prelude.{ℕ, ◌*◌, true, List, ◌≡◌}
use Rattle.protocol.specs.declared.Profile.{Profile}
use Rattle.protocol.specs.declared.Settings.{Settings}
use Rattle.protocol.specs.declared.Clock.{Clock}
use Rattle.protocol.specs.Limits.{max_slot, limits_of}
use Rattle.protocol.specs.Store.{Places}
use Rattle.protocol.specs.Sound.{sound}
use Rattle.protocol.specs.Lent.{BlocksFit, VotesFit, rows_of, make_block, make_vote}

-- some number of places and some clock make a sound node of the used rows
pub record TablesSound (s : Settings) (bw : List ℕ) (bu : ℕ) (vw : List ℕ) (vu : ℕ) : Type 0 where
  pub places : Places
  pub clock : Clock
  pub blocks-fit : BlocksFit bu bw
  pub votes-fit : VotesFit vu vw
  pub is-sound : sound s places (record { blocks = rows_of make_block bw bu; votes = rows_of make_vote vw vu; clock = clock }) ≡ true

-- the most places of a profile, and the latest clock: what is sound with any is sound with these
abbrev pub most_places : Profile → Places
most_places p = record { blocks = (limits_of p).blocks; votes = (limits_of p).votes }

abbrev pub latest_clock : Clock
latest_clock = record { seen = 3 * max_slot; done = 3 * max_slot; merged = 0; proposed = 0 }

-- so this is the same as a fact that two proofs of are one
abbrev pub AreSound : Settings → List ℕ → ℕ → List ℕ → ℕ → Type 0
AreSound s bw bu vw vu =
    sound s (most_places s.profile) (record { blocks = rows_of make_block bw bu; votes = rows_of make_vote vw vu; clock = latest_clock }) ≡ true
