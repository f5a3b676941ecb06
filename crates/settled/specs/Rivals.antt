-- Rivals of a child by rows in the table. Assumes nothing.
use Rattle.std.specs.Prelude.{ℕ, ◌+◌, Bool, not, ◌&&◌, ◌||◌, List, eqb, ltb, get_or}
use Rattle.protocol.specs.Walk.{is_child}
use Rattle.protocol.specs.Lent.{make_block}
use Rattle.rows.specs.Rows.{row_at}
use Rattle.subtree_voters.specs.BlockRows.{block_at}

-- with k voters more the block at row d, another than c, goes before the one at row c
unfoldable pub overtakes_at : List ℕ → List ℕ → ℕ → ℕ → ℕ → Bool
overtakes_at ws weights k d c =
    not (eqb d c)
    && (ltb (get_or weights c 0) (get_or weights d 0 + k) || (eqb (get_or weights c 0) (get_or weights d 0 + k) && ltb (block_at ws d).number (block_at ws c).number))

-- the block at row d is in view, a child of block a of a slot below t, and does so
unfoldable pub rival_at : List ℕ → List ℕ → ℕ → ℕ → ℕ → ℕ → ℕ → Bool
rival_at ws weights k t a c d = (row_at make_block ws d).viewed && (is_child t a (block_at ws d) && overtakes_at ws weights k d c)
