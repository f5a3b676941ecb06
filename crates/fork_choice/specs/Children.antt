-- The children of each row, linked in the order of their rows; `up` gives the row of a row's parent. Assumes nothing.
use Rattle.std.specs.Prelude.{ℕ, ◌+◌, ◌≤◌, ◌<◌, List, ◌≡◌, get_or, set}
use Rattle.fork_choice.specs.declared.Kin.{Kin}

abbrev pub no_kin : Kin
no_kin = record { child = 0; next = 0 }

-- the first child of row a, and the next child of row c's parent
abbrev pub child_at : List Kin → ℕ → ℕ
child_at kin a = (get_or kin a no_kin).child

abbrev pub next_at : List Kin → ℕ → ℕ
next_at kin c = (get_or kin c no_kin).next

-- the links with another first child of row a, and with another next child after row c
abbrev pub put_child : List Kin → ℕ → ℕ → List Kin
put_child kin a x = set kin a (record { child = x; next = next_at kin a })

abbrev pub put_next : List Kin → ℕ → ℕ → List Kin
put_next kin c x = set kin c (record { child = child_at kin c; next = x })

-- c is the first child of row a from row i on, among n rows; 0 says that there is none
pub record NextChild (up : ℕ → ℕ) (n a i c : ℕ) : Type 0 where
  pub hit : (c ≡ 0 → ⊥) → (i ≤ c) × (c < n) × (up c ≡ a)
  pub none : (k : ℕ) → i ≤ k → k < n → up k ≡ a → (c ≡ 0 → ⊥) × (c ≤ k)

-- the rows from i on are linked: each row's first child among them, and the next child of the same parent
pub record Linked (up : ℕ → ℕ) (n i : ℕ) (kin : List Kin) : Type 0 where
  pub first : (a : ℕ) → a < n → NextChild up n a i (child_at kin a)
  pub next : (c : ℕ) → i ≤ c → c < n → NextChild up n (up c) (c + 1) (next_at kin c)
