-- A set of voters as one word: bit v is voter v (`bit_of`, protocol/specs/Words). Assumes nothing.
use Rattle.std.specs.Prelude.{ℕ, zero, suc, ◌+◌, ◌*◌, Bool, ◌||◌, cond, eqb}

-- the number whose bit i, for i below k, is set where p i holds
unfoldable pub mask_of : ℕ → (ℕ → Bool) → ℕ
mask_of zero p = 0
mask_of (suc k) p = mask_of k (λ i. p (suc i)) * 2 + cond (p 0) 1 0

-- one voter more
abbrev pub added : (ℕ → Bool) → ℕ → ℕ → Bool
added p v i = p i || eqb i v
