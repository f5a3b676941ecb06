-- The voters of each block by the votes kept for a slot, as words by rows, and how many they are. Assumes nothing.
use Rattle.std.specs.Prelude.{ℕ, ◌<◌, Bool, not, ◌&&◌, List, ◌≡◌, get_or}
use Rattle.protocol.specs.Filters.{kept_choice}
use Rattle.protocol.specs.Walk.{count_below, supports}
use Rattle.protocol.specs.Words.{bit_of}
use Rattle.masks.specs.Masks.{mask_of}
use Rattle.vote_filters.specs.Latest.{votes_of}
use Rattle.subtree_voters.specs.Filled.{Filled}
use Rattle.subtree_voters.specs.BlockRows.{block_at, blocks_of}

-- the word at each block's row is the set of the voters whose vote, kept for slot t with expiry period E, is for it or for a block above it
pub record Supporters (whole : Bool) (bw : List ℕ) (bu : ℕ) (vw : List ℕ) (vu E t : ℕ) (masks : List ℕ) : Type 0 where
  pub each : (j : ℕ) → j < bu → get_or masks j 0 ≡ mask_of 64 (λ v. supports (blocks_of whole bw bu) (kept_choice (votes_of whole vw vu) E t v) (block_at bw j).number)

-- how many voters are in the word at row j
abbrev pub weight_at_row : List ℕ → ℕ → ℕ
weight_at_row masks j = count_below (bit_of (get_or masks j 0)) 64

-- and how many of them are not in the set of the silent
abbrev pub heard_at_row : ℕ → List ℕ → ℕ → ℕ
heard_at_row silent masks j = count_below (λ v. bit_of (get_or masks j 0) v && not (bit_of silent v)) 64

-- the weights of the words at the first n rows, without the silent
abbrev pub Counted : ℕ → List ℕ → ℕ → List ℕ → Type 0
Counted silent masks n weights = Filled (λ j. heard_at_row silent masks j) n weights
