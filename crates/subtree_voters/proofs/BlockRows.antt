-- The rows of numbers are in the table, a parent's before its child's. Assumes nothing.
use Prim.Native.Nat.{ℕ, ◌-◌, ◌≤◌, ◌<◌}
use mathlib.Core.List.{List}
use native.Mathlib.Omega.{arith}
use lib.Dec.{eqb}
use Rattle.protocol.specs.Entry.{Block}
use Rattle.protocol.specs.Store.{Marked}
use Rattle.protocol.specs.Lent.{rows_of, make_block}
use Rattle.protocol.proofs.Lent.Rows.{length-rows_of}
use Rattle.search_tree.proofs.Lists.{link-within}
use Rattle.index.specs.Links.{link_to_number}
use Rattle.subtree_voters.specs.BlockRows.{block_at, row_in, parent_row}

-- also where there is no row
pub link-low : (ws : List ℕ) (n x : ℕ) → row_in ws n x ≤ n - 1
unfolding link_to_number
link-low ws n x =
    omega (arith, link-within (λ (m : Marked Block). eqb m.entry.number x) (rows_of make_block ws n) 0, length-rows_of make_block ws n)

pub link_lt : (ws : List ℕ) (n x : ℕ) → 0 < n → row_in ws n x < n
link_lt ws n x h = omega (arith, link-low ws n x)

pub parent-lt : (ws : List ℕ) (i : ℕ) → 0 < i → parent_row ws i < i
parent-lt ws i h = link_lt ws i (block_at ws i).parent h
