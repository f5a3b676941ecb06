-- Weights and best children by rows in the table. Assumes nothing.
use Rattle.std.specs.Prelude.{ℕ, ◌<◌, Bool, false, ◌||◌, ◌&&◌, cond, Option, Some, None, List, eqb, ltb, get_or}
use Rattle.protocol.specs.Chain.{Lookup, found, missing}
use Rattle.protocol.specs.Walk.{is_child}
use Rattle.protocol.specs.Lent.{make_block}
use Rattle.rows.specs.Rows.{row_at}
use Rattle.subtree_voters.specs.BlockRows.{block_at, row_in}

-- the weight of the block with number x; `weights` has the weight of the block at each row
abbrev pub weight_in : List ℕ → ℕ → List ℕ → ℕ → ℕ
weight_in ws n weights x = get_or weights (row_in ws n x) 0

-- the block at row d goes before the one at row c
unfoldable pub beats_at : List ℕ → List ℕ → ℕ → ℕ → Bool
beats_at ws weights d c =
    ltb (get_or weights c 0) (get_or weights d 0)
    || (eqb (get_or weights c 0) (get_or weights d 0) && ltb (block_at ws d).number (block_at ws c).number)

-- the row is among the first n, if there is one
abbrev pub Within : ℕ → Option ℕ → Type 0
Within n None = Unit {0}
Within n (Some b) = b < n

-- the block at the row, if there is one
abbrev pub found_row : List ℕ → Option ℕ → Lookup
found_row ws None = missing
found_row ws (Some b) = found (block_at ws b)

-- whether the row goes before row i, if there is one
abbrev pub beats_row : List ℕ → List ℕ → Option ℕ → ℕ → Bool
beats_row ws weights None i = false
beats_row ws weights (Some b) i = beats_at ws weights b i

-- the better of the child at row `best` and row i, if that is a child of a
unfoldable pub better_row : List ℕ → List ℕ → Bool → ℕ → ℕ → ℕ → Option ℕ → Option ℕ
better_row ws weights whole lim a i best =
    cond ((whole || (row_at make_block ws i).viewed) && is_child lim a (block_at ws i)) (cond (beats_row ws weights best i) best (Some i)) best
