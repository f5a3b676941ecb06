-- The key of each row, for each kind of entry, and the links that are an index of the first rows. Assumes nothing.
use Rattle.std.specs.Prelude.{ℕ, zero, suc, ◌+◌, ◌≤◌, ◌<◌, ◌≡◌, Bool, cond, List, [], ◌∷◌, ◌++◌, eqb, length, get_or, set}
use Rattle.protocol.specs.Chain.{genesis}
use Rattle.protocol.specs.Store.{Marked, entries}
use Rattle.protocol.specs.Packet.{packet_of}
use Rattle.protocol.specs.Lent.{Make, rows_of, make_block, make_vote}
use Rattle.packets.specs.Header.{no_vote}
use Rattle.rows.specs.Rows.{row_at}
use Rattle.search_tree.specs.Lists.{distinct}
use Rattle.search_tree.specs.Tree.{Shape, links_of, Index, Points, Descent, Sought}
use Rattle.index.specs.declared.Key.{Key}
use Rattle.index.specs.Keys.{number_key, vote_key, same_key, table_shape, packet_shape}

-- the first `used` rows of a table, and then a packet's entries
unfoldable pub rows_then_entries : {A : Type 0} → Make (Marked A) → List ℕ → ℕ → List A → List A
rows_then_entries make ws used ys = entries (rows_of make ws used) ++ ys

-- ---- the keys of a table's rows

abbrev pub row_number : List ℕ → ℕ → Key
row_number ws j = number_key (row_at make_block ws j).entry.number

abbrev pub row_vote : List ℕ → ℕ → Key
row_vote ws j = vote_key (row_at make_vote ws j).entry

-- ---- the keys of a packet's entries

abbrev pub packet_number : List ℕ → ℕ → Key
packet_number bytes i = number_key (get_or (packet_of bytes).blocks i genesis).number

abbrev pub packet_vote : List ℕ → ℕ → Key
packet_vote bytes i = vote_key (get_or (packet_of bytes).votes i no_vote)

-- ---- links

-- the links are an index of the first n rows of a table
abbrev pub IndexOf : (ℕ → Key) → ℕ → List ℕ → Type 0
IndexOf key n ls = Index table_shape (λ k. Unit) key n ls

-- links with room for n rows, in trees of a table, or of a packet
abbrev pub Room : Shape Key ℕ → ℕ → List ℕ → Type 0
Room w n ls = (n ≤ 65535) × (links_of w n ≤ length ls)

abbrev pub TableRoom : ℕ → List ℕ → Type 0
TableRoom n ls = Room table_shape n ls

abbrev pub PacketRoom : ℕ → ℕ → List ℕ → Type 0
PacketRoom salt n ls = Room (packet_shape salt) n ls

-- row n has joined, by its key, where `old` were the links before and `link` was found: it was put at a free link if there was none
pub record Added (w : Shape Key ℕ) (key : ℕ → Key) (n : ℕ) (old new : List ℕ) (link : ℕ) : Type 0 where
  pub at : ℕ
  pub sought : Sought w key n old (key n) at link
  pub links : new ≡ cond (eqb link 0) (set old at (n + 1)) old

-- the descent for k begins at a link to row p, which has another key
pub record BeginsBelow (w : Shape Key ℕ) (key : ℕ → Key) (n : ℕ) (ls : List ℕ) (k : Key) (p : ℕ) : Type 0 where
  pub at : ℕ
  pub begins : Descent w key n ls k at (w.first k)
  pub leads : get_or ls at 0 ≡ suc p
  pub differs : key p ≡ k → ⊥

-- the keys of the first n rows
unfoldable pub listed : (ℕ → Key) → ℕ → List Key
listed key zero = []
listed key (suc n) = listed key n ++ (key n ∷ [])

abbrev pub keys_differ : (ℕ → Key) → ℕ → Bool
keys_differ key n = distinct same_key (listed key n)

-- ---- of a table and then a packet

-- none of the first n rows has key k
abbrev pub NoneHas : (ℕ → Key) → ℕ → Key → Type 0
NoneHas key n k = (j : ℕ) → j < n → key j ≡ k → ⊥

-- these are the keys of `used` rows, and then those of the entries behind them
pub record Behind (rows : ℕ → Key) (used : ℕ) (entries key : ℕ → Key) : Type 0 where
  pub row : (j : ℕ) → j < used → rows j ≡ key j
  pub entry : (m : ℕ) → entries m ≡ key (used + m)

-- whatever has the keys of the rows and then those of the first i entries, the link is to the first that has key k
abbrev pub PointsBehind : (rows : ℕ → Key) → ℕ → (entries : ℕ → Key) → ℕ → Key → ℕ → Type 0
PointsBehind rows used entries i k link = (key : ℕ → Key) → Behind rows used entries key → Points key (used + i) k link

-- links to the rows of a table, and links to the first i entries of a packet, but for those whose keys are in the table; each in its tree
pub record Indexed (v : Shape Key ℕ) (rows : ℕ → Key) (used : ℕ) (w : Shape Key ℕ) (entries : ℕ → Key) (i : ℕ) (ls ps : List ℕ) : Type 0 where
  pub table : Index v (λ k. Unit) rows used ls
  pub packet : Index w (NoneHas rows used) entries i ps
