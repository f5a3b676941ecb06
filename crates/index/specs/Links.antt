-- Blocks by number and votes: their rows, whether they differ, and the links that are an index of them. Assumes nothing.
use Rattle.std.specs.Prelude.{ℕ, zero, suc, ◌*◌, Bool, true, false, List, eqb, get_or, drop}
use Rattle.protocol.specs.Entry.{Block, Vote}
use Rattle.protocol.specs.Chain.{Lookup, found, missing, genesis}
use Rattle.protocol.specs.Store.{Marked, same_vote}
use Rattle.protocol.specs.Packet.{packet_of}
use Rattle.protocol.specs.Lent.{vote_words, make_block, make_vote}
use Rattle.packets.specs.Header.{no_vote}
use Rattle.search_tree.specs.Lists.{link_to, distinct}
use Rattle.search_tree.specs.Tree.{Index}
use Rattle.index.specs.declared.Key.{Key}
use Rattle.rows.specs.Rows.{row_at}
use Rattle.index.specs.Keys.{number_key, vote_key, slot_key_of, table_shape, packet_shape}
use Rattle.index.specs.Index.{row_number, row_vote, packet_number, packet_vote, IndexOf, Indexed, rows_then_entries}

-- one more than the row of the first block with number x, or 0
unfoldable pub link_to_number : List (Marked Block) → ℕ → ℕ
link_to_number ms x = link_to (λ m. eqb m.entry.number x) ms

unfoldable pub numbers_differ : List (Marked Block) → Bool
numbers_differ ms = distinct (λ a b. eqb a.entry.number b.entry.number) ms

unfoldable pub votes_differ : List (Marked Vote) → Bool
votes_differ ms = distinct (λ a b. same_vote a.entry b.entry) ms

abbrev pub BlockIndex : List ℕ → ℕ → List ℕ → Type 0
BlockIndex ws n ls = IndexOf (row_number ws) n ls

abbrev pub VoteIndex : List ℕ → ℕ → List ℕ → Type 0
VoteIndex ws n ls = IndexOf (row_vote ws) n ls

-- by voter and slot, of the whole store or of the view: there the mark stands where the number does
abbrev pub slot_key : Bool → List ℕ → ℕ → Key
slot_key true ws j = slot_key_of (row_at make_vote ws j).entry
slot_key false ws j = let v = (row_at make_vote ws j).entry in record { a = get_or (drop (vote_words * j) ws) 4 0; b = v.slot; c = v.voter; d = 0 }

abbrev pub SlotIndex : Bool → List ℕ → ℕ → List ℕ → Type 0
SlotIndex whole ws n ls = IndexOf (slot_key whole ws) n ls

-- ---- of a packet

-- the voter and slot of vote i
abbrev pub packet_slot_keys : List ℕ → ℕ → Key
packet_slot_keys bytes i = slot_key_of (get_or (packet_of bytes).votes i no_vote)

-- links to the first n votes by voter and slot
abbrev pub PacketSlotIndex : ℕ → List ℕ → ℕ → List ℕ → Type 0
PacketSlotIndex salt bytes n ls = Index (packet_shape salt) (λ k. Unit) (packet_slot_keys bytes) n ls

-- ---- of a table and then a packet

abbrev pub known_blocks : List ℕ → ℕ → List ℕ → List Block
known_blocks ws used bytes = rows_then_entries make_block ws used (packet_of bytes).blocks

abbrev pub known_votes : List ℕ → ℕ → List ℕ → List Vote
known_votes ws used bytes = rows_then_entries make_vote ws used (packet_of bytes).votes

-- their keys
abbrev pub block_keys : List ℕ → ℕ → List ℕ → ℕ → Key
block_keys ws used bytes j = number_key (get_or (known_blocks ws used bytes) j genesis).number

abbrev pub vote_keys : List ℕ → ℕ → List ℕ → ℕ → Key
vote_keys ws used bytes j = vote_key (get_or (known_votes ws used bytes) j no_vote)

-- links to the first `used` blocks of a table, and links to the first i of a packet, but for those whose numbers are in the table; the same for votes
abbrev pub BlocksIndexed : ℕ → List ℕ → ℕ → List ℕ → ℕ → List ℕ → List ℕ → Type 0
BlocksIndexed salt ws used bytes i ls ps = Indexed table_shape (row_number ws) used (packet_shape salt) (packet_number bytes) i ls ps

abbrev pub VotesIndexed : ℕ → List ℕ → ℕ → List ℕ → ℕ → List ℕ → List ℕ → Type 0
VotesIndexed salt ws used bytes i ls ps = Indexed table_shape (row_vote ws) used (packet_shape salt) (packet_vote bytes) i ls ps

unfoldable pub link_to_block : List Block → ℕ → ℕ
link_to_block bs x = link_to (λ b. eqb b.number x) bs

unfoldable pub link_to_vote : List Vote → Vote → ℕ
link_to_vote vs a = link_to (λ b. same_vote b a) vs

-- the block there
unfoldable pub lookup_at : List Block → ℕ → Lookup
lookup_at bs zero = missing
lookup_at bs (suc p) = found (get_or bs p genesis)
