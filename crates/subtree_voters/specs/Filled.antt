-- An array that is filled from its first element on. Assumes nothing.
use Rattle.std.specs.Prelude.{ℕ, ◌<◌, List, ◌≡◌, get_or}

-- element j of the array is f j, for each j below n
pub record Filled (f : ℕ → ℕ) (n : ℕ) (array : List ℕ) : Type 0 where
  pub each : (j : ℕ) → j < n → get_or array j 0 ≡ f j
