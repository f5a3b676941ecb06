-- A table with a packet's new entries added at its end, waiting. Assumes nothing.
use Rattle.std.specs.Prelude.{ℕ, suc, ◌+◌, ◌≡◌, Bool, ◌&&◌, cond, leb, List, [], ◌∷◌, ◌++◌, length, drop}
use Rattle.protocol.specs.Store.{Marked, entries, all_waiting}
use Rattle.protocol.specs.Lent.{stored}
use Rattle.bitset.specs.Bitset.{in_set}

-- `add` adds entries to a store, as addBlocks and addVotes do
unfoldable pub grown : {A : Type 0} → (List A → List A → List A) → List (Marked A) → List A → List (Marked A)
grown add ms xs = ms ++ all_waiting (drop (length ms) (add (entries ms) xs))

-- entry i of a packet is new if its row, behind the `used` rows, is in the set; it is added if its slot is `from` or later
abbrev pub is_added : {A : Type 0} → List ℕ → ℕ → (A → ℕ) → ℕ → ℕ → A → Bool
is_added set used slot from i x = in_set set (used + i) && leb from (slot x)

-- of these entries, counted from i, those that pass with their number
unfoldable pub chosen : {A : Type 0} → (ℕ → A → Bool) → ℕ → List A → List A
chosen test i [] = []
chosen test i (x ∷ xs) = cond (test i x) (x ∷ chosen test (suc i) xs) (chosen test (suc i) xs)

-- the words ws' and the count are of a table that holds these rows; its other words are those of ws
pub record Holds (A : Type 0) (row : A → List ℕ) (rows : List A) (ws ws' : List ℕ) (count : ℕ) : Type 0 where
  pub words : ws' ≡ stored row rows ws
  pub used : count ≡ length rows
