-- Numbers kept in lent words, one behind the other, each its lower half first. Assumes nothing.
use Rattle.std.specs.Prelude.{ℕ, ◌+◌, ◌*◌, ◌≤◌, List, length, get_or, set}
use Rattle.protocol.specs.Words.{from_halves, lower_of, upper_of}

-- n of them fit into these words
abbrev pub NumbersFit : ℕ → List ℕ → Type 0
NumbersFit n ws = 2 * n ≤ length ws

-- number i
unfoldable pub number_in : List ℕ → ℕ → ℕ
number_in ws i = from_halves (get_or ws (2 * i) 0) (get_or ws (2 * i + 1) 0)

-- the words with number i replaced
unfoldable pub kept_in : List ℕ → ℕ → ℕ → List ℕ
kept_in ws i n = set (set ws (2 * i) (lower_of n)) (2 * i + 1) (upper_of n)
