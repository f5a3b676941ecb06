-- The node of two tables, which a packet is written from, and what the writer asks of them. Assumes nothing.
use Rattle.std.specs.Prelude.{ℕ, ◌≤◌, ◌≡◌, true, List}
use Rattle.protocol.specs.Store.{Node, fresh_clock}
use Rattle.protocol.specs.Lent.{BlocksFit, VotesFit, rows_of, make_block, make_vote}

-- the node that the words of its tables hold; a packet says nothing of its clock
unfoldable pub node_in : List ℕ → ℕ → List ℕ → ℕ → Node
node_in blocks blocks_used votes votes_used =
    record { blocks = rows_of make_block blocks blocks_used; votes = rows_of make_vote votes votes_used; clock = fresh_clock }

-- what the writer asks of the tables, and sound memory has: the rows are there, their counts fit two bytes, and the first block is marked in view
pub record RowsReadable (blocks : List ℕ) (blocks_used : ℕ) (votes : List ℕ) (votes_used : ℕ) : Type 0 where
  pub block_rows : BlocksFit blocks_used blocks
  pub vote_rows : VotesFit votes_used votes
  pub block_count : blocks_used ≤ 65535
  pub vote_count : votes_used ≤ 65535
  pub first : (make_block.of blocks).viewed ≡ true
