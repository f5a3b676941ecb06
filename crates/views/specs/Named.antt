-- The rows that a packet names come into view. Assumes nothing.
use Rattle.std.specs.Prelude.{ℕ, ◌<◌, Bool, ◌||◌, List, ◌≡◌, leb}
use Rattle.protocol.specs.Store.{Marked, view}
use Rattle.protocol.specs.Lent.{Make, rows_of, stored}
use Rattle.rows.specs.Rows.{row_at}
use Rattle.bitset.specs.Bitset.{in_set}

-- row j is `before` or later, or is in the set
unfoldable pub named_at : ℕ → List ℕ → ℕ → Bool
named_at before set j = leb before j || in_set set j

-- of the first n rows, the entries that pass are those of the rows that pass
abbrev pub Agrees : (A : Type 0) → Make (Marked A) → List ℕ → ℕ → (ℕ → Bool) → (A → Bool) → Type 0
Agrees A make ws n row_test p = (j : ℕ) → j < n → row_test j ≡ p (row_at make ws j).entry

-- the words ws' are those of ws with these rows in view: whichever test of entries agrees with that of rows, those that pass it
abbrev pub ViewedAt : (A : Type 0) → Make (Marked A) → (Marked A → List ℕ) → List ℕ → ℕ → (ℕ → Bool) → List ℕ → Type 0
ViewedAt A make row ws n row_test ws' = (p : A → Bool) → Agrees A make ws n row_test p → ws' ≡ stored row (view p (rows_of make ws n)) ws
