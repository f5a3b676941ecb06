-- The voters of each subtree: a pass from the last row to the first, in which each row hands its voters to its parent's row. Assumes nothing.
use Rattle.std.specs.Prelude.{ℕ, zero, suc, ◌<◌, Bool, true, false, ◌&&◌, ◌||◌, Option, Some, None, List, ◌≡◌, eqb, leb, get_or}
use Rattle.protocol.specs.declared.Vote.{Vote}
use Rattle.protocol.specs.Words.{value}
use Rattle.masks.specs.Masks.{mask_of}
use Rattle.subtree_voters.specs.BlockRows.{row_in, parent_row}

-- the parents lead from row x to row j by rows of at least i, in at most f steps
unfoldable pub up_to : (ℕ → ℕ) → ℕ → ℕ → ℕ → ℕ → Bool
up_to up zero i j x = eqb x j
up_to up (suc f) i j x = eqb x j || (leb i x && up_to up f i j (up x))

-- whether there is a vote, and the number of the block that it is for
abbrev pub is_vote : Option Vote → Bool
is_vote None = false
is_vote (Some a) = true

abbrev pub block_of_vote : Option Vote → ℕ
block_of_vote None = 0
block_of_vote (Some a) = value a.number

-- voter v has a vote
abbrev pub voted : List (Option Vote) → ℕ → Bool
voted kept v = is_vote (get_or kept v None)

-- for the block with this number
abbrev pub voted_for : List (Option Vote) → ℕ → ℕ
voted_for kept v = block_of_vote (get_or kept v None)

-- voter v is at row j, once the rows from i on have handed on their voters
abbrev pub reaches : List ℕ → ℕ → List (Option Vote) → ℕ → ℕ → ℕ → Bool
reaches ws n kept i j v = voted kept v && up_to (λ y. parent_row ws y) n i j (row_in ws n (voted_for kept v))

-- the words hold just these voters
pub record Subtrees (ws : List ℕ) (n : ℕ) (kept : List (Option Vote)) (i : ℕ) (masks : List ℕ) : Type 0 where
  pub each : (j : ℕ) → j < n → get_or masks j 0 ≡ mask_of 64 (λ v. reaches ws n kept i j v)
