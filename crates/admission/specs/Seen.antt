-- The sets of first rows after some entries of a packet: the rows that those name, and which of them are new. Assumes nothing.
use Rattle.std.specs.Prelude.{ℕ, ◌||◌, List, length}
use Rattle.protocol.specs.Packet.{packet_of}
use Rattle.index.specs.Firsts.{News, Names, block_new, is_block, is_voted, vote_new, is_vote}

module _ (ws : List ℕ) (used : ℕ) (bytes : List ℕ) (i : ℕ) (set : List ℕ) where
  -- after the first i blocks
  pub record BlocksSeen : Type 0 where
    pub rows : Names used (is_block ws used bytes i) set
    pub news : News used (block_new ws used bytes) i set

  -- after all blocks, and the blocks of the first i votes
  pub record VotedSeen : Type 0 where
    pub rows : Names used (λ j. is_block ws used bytes (length (packet_of bytes).blocks) j || is_voted ws used bytes i j) set
    pub news : News used (block_new ws used bytes) (length (packet_of bytes).blocks) set

  -- after the first i votes
  pub record VotesSeen : Type 0 where
    pub rows : Names used (is_vote ws used bytes i) set
    pub news : News used (vote_new ws used bytes) i set
