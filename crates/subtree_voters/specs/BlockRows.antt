-- Blocks by their rows in the table. Assumes nothing.
use Rattle.std.specs.Prelude.{ℕ, ◌-◌, Bool, true, List, ◌≡◌}
use Rattle.protocol.specs.Entry.{Block}
use Rattle.protocol.specs.Lent.{rows_of, make_block}
use Rattle.protocol.specs.Sound.{blocks_sound}
use Rattle.rows.specs.Rows.{row_at}
use Rattle.vote_filters.specs.Latest.{selected}
use Rattle.index.specs.Links.{link_to_number}
use Rattle.subtree_voters.specs.Filled.{Filled}

abbrev pub block_at : List ℕ → ℕ → Block
block_at ws i = (row_at make_block ws i).entry

-- the blocks of the first n rows
abbrev pub blocks_of : Bool → List ℕ → ℕ → List Block
blocks_of whole ws n = selected whole (rows_of make_block ws n)

-- the rows are those of a sound table
abbrev pub BlocksSound : List ℕ → ℕ → Type 0
BlocksSound ws n = (slot : ℕ) × (blocks_sound slot (rows_of make_block ws n) ≡ true)

-- the row of number x among the first n rows; row 0, if none has it
abbrev pub row_in : List ℕ → ℕ → ℕ → ℕ
row_in ws n x = link_to_number (rows_of make_block ws n) x - 1

-- a parent stands before its children
abbrev pub parent_row : List ℕ → ℕ → ℕ
parent_row ws i = row_in ws i (block_at ws i).parent

-- the array has the row of each row's parent
abbrev pub Parents : List ℕ → ℕ → List ℕ → Type 0
Parents ws n parents = Filled (λ i. parent_row ws i) n parents
