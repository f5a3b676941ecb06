-- The first rows of a packet's entries among the table's rows and then the packet's entries, as a set: the rows that the packet names, and
-- those of its entries that are new. Assumes nothing.
use Rattle.std.specs.Prelude.{ℕ, zero, suc, ◌+◌, ◌≤◌, ◌<◌, Bool, false, not, ◌||◌, List, ◌≡◌, eqb, length, get_or, take}
use Rattle.protocol.specs.Entry.{Block}
use Rattle.protocol.specs.Lists.{any_pass}
use Rattle.protocol.specs.Chain.{genesis, known}
use Rattle.protocol.specs.Store.{entries, same_vote}
use Rattle.protocol.specs.Packet.{Packet, packet_of}
use Rattle.protocol.specs.Lent.{rows_of, make_block, make_vote}
use Rattle.protocol.specs.Calls.Receive.{add_blocks, add_votes}
use Rattle.packets.specs.Header.{no_vote}
use Rattle.rows.specs.Rows.{row_at}
use Rattle.bitset.specs.Bitset.{in_set}

-- the first row of an entry, by the link that was found among the first n, or 0: then it is the entry's own, n
abbrev pub first_row : ℕ → ℕ → ℕ
first_row n zero = n
first_row n (suc p) = p

-- of the first i entries behind `used` rows the new ones are in the set, and no further entry
pub record News (used : ℕ) (new : ℕ → Bool) (i : ℕ) (set : List ℕ) : Type 0 where
  pub seen : (m : ℕ) → m < i → in_set set (used + m) ≡ new m
  pub unseen : (m : ℕ) → i ≤ m → in_set set (used + m) ≡ false

-- the rows that are named are in the set
abbrev pub Names : ℕ → (ℕ → Bool) → List ℕ → Type 0
Names used named set = (j : ℕ) → j < used → in_set set j ≡ named j

-- ---- blocks

module _ (ws : List ℕ) (used : ℕ) (bytes : List ℕ) where
  -- block i is new: its number is neither in the table nor that of an earlier block of the packet
  abbrev pub block_new : ℕ → Bool
  block_new i =
      let bs = (packet_of bytes).blocks in
      not (known (add_blocks (entries (rows_of make_block ws used)) (take i bs)) (get_or bs i genesis).number)

  -- row j is named by one of the packet's first i blocks
  abbrev pub is_block : ℕ → ℕ → Bool
  is_block i j = any_pass (λ c. eqb (row_at make_block ws j).entry.number c.number) (take i (packet_of bytes).blocks)

  -- or one of its first i votes is for it
  abbrev pub is_voted : ℕ → ℕ → Bool
  is_voted i j = any_pass (λ a. eqb (row_at make_block ws j).entry.number a.number) (take i (packet_of bytes).votes)

  abbrev pub BlocksNew : List ℕ → Type 0
  BlocksNew set = (i : ℕ) → i < length (packet_of bytes).blocks → in_set set (used + i) ≡ block_new i

-- a block of the packet, or one that a vote of it is for
unfoldable pub named : Packet → Block → Bool
named p b = any_pass (λ c. eqb b.number c.number) p.blocks || any_pass (λ a. eqb b.number a.number) p.votes

abbrev pub BlocksNamed : List ℕ → ℕ → List ℕ → List ℕ → Type 0
BlocksNamed ws used bytes set = Names used (λ j. named (packet_of bytes) (row_at make_block ws j).entry) set

-- ---- votes

module _ (ws : List ℕ) (used : ℕ) (bytes : List ℕ) where
  -- vote i is new, old or not
  abbrev pub vote_new : ℕ → Bool
  vote_new i =
      let vs = (packet_of bytes).votes in
      not (any_pass (same_vote (get_or vs i no_vote)) (add_votes (entries (rows_of make_vote ws used)) (take i vs)))

  -- row j is one of the packet's first i votes
  abbrev pub is_vote : ℕ → ℕ → Bool
  is_vote i j = any_pass (same_vote (row_at make_vote ws j).entry) (take i (packet_of bytes).votes)

  abbrev pub VotesNew : List ℕ → Type 0
  VotesNew set = (i : ℕ) → i < length (packet_of bytes).votes → in_set set (used + i) ≡ vote_new i

  abbrev pub VotesNamed : List ℕ → Type 0
  VotesNamed set = Names used (λ j. any_pass (same_vote (row_at make_vote ws j).entry) (packet_of bytes).votes) set
