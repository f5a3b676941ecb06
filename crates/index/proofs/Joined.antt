-- What an index says of the blocks and votes of a table and then a packet. Assumes nothing.
use Prim.Native.Nat.{ℕ, zero, suc, ◌+◌, ◌-◌, ◌≤◌, ◌<◌}
use mathlib.Core.Bool.{Bool, true, false, not, cond}
use mathlib.Core.List.{List, [], ◌∷◌}
use mathlib.Core.Logic.{◌⊎◌, inl, inr}
use mathlib.Core.Path.{◌≡◌, refl, ap, sym, ◌∙◌}
use native.Mathlib.Omega.{arith}
use native.Mathlib.Decide.{dec_lt}
use lib.Dec.{eqb}
use lib.ListN.{length, get_or, take}
use lib.Seq.{length-take-le, get_or-take}
use Rattle.protocol.specs.Entry.{Block, Vote}
use Rattle.protocol.specs.Lists.{any_pass}
use Rattle.protocol.specs.Chain.{Lookup, found, missing, find, genesis}
use Rattle.protocol.specs.Store.{same_vote, in_view}
use Rattle.protocol.specs.Packet.{packet_of}
use Rattle.protocol.specs.Lent.{rows_of, make_block, make_vote}
use Rattle.packets.specs.Header.{no_vote}
use Rattle.search_tree.specs.Lists.{link_from}
use Rattle.search_tree.specs.Tree.{Blank, Points}
use Rattle.search_tree.proofs.Tree.{index-free}
use Rattle.search_tree.proofs.Lists.{link-past}
use Rattle.index.specs.declared.Key.{Key}
use Rattle.index.specs.Keys.{number_key, vote_key}
use Rattle.index.specs.Index.{row_number, row_vote, packet_number, packet_vote, PacketRoom, NoneHas, Behind, PointsBehind}
use Rattle.index.specs.Links.{BlockIndex, VoteIndex, BlocksIndexed, VotesIndexed, block_keys, vote_keys, numbers_differ, votes_differ, known_blocks, known_votes, link_to_block, link_to_vote, lookup_at}
use Rattle.index.proofs.Known.{length-known, known-row, known_next}
use Rattle.index.proofs.Links.{linked, Differ, keys-differ}
use Rattle.index.proofs.Tables.{number-tells, vote-tells, has-link, numbers-differ, votes-differ}

module _ (ws : List ℕ) (used : ℕ) (bytes : List ℕ) (n : ℕ) where
  pub block-linked : (x : ℕ) {k : Key} {link : ℕ} → n ≤ used + length (packet_of bytes).blocks → k ≡ number_key x
      → Points (block_keys ws used bytes) n k link → link ≡ link_to_block (take n (known_blocks ws used bytes)) x
  unfolding link_to_block
  block-linked x h e s =
      let bs = known_blocks ws used bytes in
      let l : n ≤ length bs = omega (arith, length-known make_block ws used (packet_of bytes).blocks) in
      linked genesis (number-tells (λ b. b.number) x) (rw e at s) (take n bs) (length-take-le n bs l) (λ j m. ap (λ b. number_key b.number) (get_or-take n bs j genesis m))

  pub vote-linked : (v : Vote) {k : Key} {link : ℕ} → n ≤ used + length (packet_of bytes).votes → k ≡ vote_key v
      → Points (vote_keys ws used bytes) n k link → link ≡ link_to_vote (take n (known_votes ws used bytes)) v
  unfolding link_to_vote
  vote-linked v h e s =
      let vs = known_votes ws used bytes in
      let l : n ≤ length vs = omega (arith, length-known make_vote ws used (packet_of bytes).votes) in
      linked no_vote (vote-tells (λ b. b) v) (rw e at s) (take n vs) (length-take-le n vs l) (λ j m. ap vote_key (get_or-take n vs j no_vote m))

-- ---- the rows of the table come first

-- what was found among the rows, or else among the first i entries behind them
module _ {rows entries : ℕ → Key} {used : ℕ} (i : ℕ) {k : Key} where
  pub early : {p : ℕ} → Points rows used k (suc p) → PointsBehind rows used entries i k (suc p)
  early {p} s key b =
      record {
        hit = λ q e.
            let g = s.hit q e in
            let l : q < used = g.is_row in
            record { is_row = omega arith; has = sym (b.row q l) ∙ g.has; fresh = λ m h u. g.fresh m h (b.row m (omega arith) ∙ u) };
        none = λ e. absurd (omega arith);
      }

  -- no row before entry m has the key
  before : {key : ℕ → Key} {m : ℕ} → Behind rows used entries key → NoneHas rows used k → NoneHas entries m k → NoneHas key (used + m) k
  before {key} b f g j h e = go (dec_lt j used)
    where
      go : Dec (j < used) → ⊥
      go (yes l) = f j l (b.row j l ∙ e)
      go (no l) = let z : used + (j - used) ≡ j = omega arith in g (j - used) (omega arith) (b.entry (j - used) ∙ ap key z ∙ e)

  pub late_none : Points rows used k 0 → Points entries i k 0 → PointsBehind rows used entries i k 0
  late_none s t key b = record { hit = λ p q. absurd (omega arith); none = λ q. before b (s.none refl) (t.none refl) }

  pub late-some : {m : ℕ} → Points rows used k 0 → Points entries i k (suc m) → PointsBehind rows used entries i k (suc (used + m))
  late-some {m} s t key b =
      let g = t.hit m refl in
      record {
        hit = λ p q.
            let z : used + m ≡ p = omega arith in
            let l : m < i = g.is_row in
            record { is_row = omega arith; has = ap key (sym z) ∙ sym (b.entry m) ∙ g.has; fresh = λ r h. before b (s.none refl) g.fresh r (omega arith) };
        none = λ q. absurd (omega arith);
      }

module _ (ws : List ℕ) (used : ℕ) (bytes : List ℕ) where
  pub block_row : (j : ℕ) → j < used → row_number ws j ≡ block_keys ws used bytes j
  block_row j h = ap (λ (b : Block). number_key b.number) (known-row make_block ws used (packet_of bytes).blocks j (in_view genesis) h refl)

  pub vote-row : (j : ℕ) → j < used → row_vote ws j ≡ vote_keys ws used bytes j
  vote-row j h = ap vote_key (known-row make_vote ws used (packet_of bytes).votes j (in_view no_vote) h refl)

  pub block-past : (m : ℕ) → packet_number bytes m ≡ block_keys ws used bytes (used + m)
  block-past m = ap (λ (b : Block). number_key b.number) (sym (known_next make_block ws used (packet_of bytes).blocks m genesis))

  pub vote-past : (m : ℕ) → packet_vote bytes m ≡ vote_keys ws used bytes (used + m)
  vote-past m = ap vote_key (sym (known_next make_vote ws used (packet_of bytes).votes m no_vote))

  -- of no entry of the packet there is an index where the links are free
  pub blocks-begin : (salt : ℕ) {ls ps : List ℕ} → BlockIndex ws used ls → Blank ps → PacketRoom salt 0 ps → BlocksIndexed salt ws used bytes 0 ls ps
  blocks-begin salt x e h = record { table = x; packet = index-free _ e h.1 }

  pub votes-begin : (salt : ℕ) {ls ps : List ℕ} → VoteIndex ws used ls → Blank ps → PacketRoom salt 0 ps → VotesIndexed salt ws used bytes 0 ls ps
  votes-begin salt x e h = record { table = x; packet = index-free _ e h.1 }

  pub blocks_behind : Behind (row_number ws) used (packet_number bytes) (block_keys ws used bytes)
  blocks_behind = record { row = block_row; entry = block-past }

  pub votes_behind : Behind (row_vote ws) used (packet_vote bytes) (vote_keys ws used bytes)
  votes_behind = record { row = vote-row; entry = vote-past }

  pub blocks-apart : numbers_differ (rows_of make_block ws used) ≡ true → Differ (block_keys ws used bytes) used
  blocks-apart e i j h l q =
      keys-differ (row_number ws) used (numbers-differ ws used ∙ e) i j h l (block_row i (omega arith) ∙ q ∙ sym (block_row j l))

  pub votes-apart : votes_differ (rows_of make_vote ws used) ≡ true → Differ (vote_keys ws used bytes) used
  votes-apart e i j h l q =
      keys-differ (row_vote ws) used (votes-differ ws used ∙ e) i j h l (vote-row i (omega arith) ∙ q ∙ sym (vote-row j l))

-- a vote is there if it has a row
pub vote-among : (vs : List Vote) (a : Vote) {link : ℕ} → link ≡ link_to_vote vs a → not (eqb link 0) ≡ any_pass (same_vote a) vs
unfolding link_to_vote
vote-among vs a e = ap (λ (k : ℕ). not (eqb k 0)) e ∙ sym (has-link (λ b. b) vs a)

-- places counted from o
abbrev found_from : ℕ → List Block → ℕ → Lookup
found_from o bs zero = missing
found_from o bs (suc p) = found (get_or bs (p - o) genesis)

module _ (x : ℕ) where
  abbrev is : Block → Bool
  is b = eqb b.number x

  found-from : (n o : ℕ) (bs : List Block) → find (take n bs) x ≡ found_from o bs (link_from is o (take n bs))
  unfolding find link_from
  found-from zero o bs = refl
  found-from (suc n) o [] = refl
  found-from (suc n) o (b ∷ bs) = go (is b) (found-from n (suc o) bs)
    where
      further : (p : ℕ) → (p ≡ 0) ⊎ (suc o < p) → found_from (suc o) bs p ≡ found_from o (b ∷ bs) p
      further zero h = refl
      further (suc p) (inl e) = absurd (omega arith)
      further (suc p) (inr l) = let z : p - o ≡ suc (p - suc o) = omega arith in rw z

      go : (t : Bool) → find (take n bs) x ≡ found_from (suc o) bs (link_from is (suc o) (take n bs))
          → cond t (found b) (find (take n bs) x) ≡ found_from o (b ∷ bs) (cond t (suc o) (link_from is (suc o) (take n bs)))
      go true e = let z : o - o ≡ 0 = omega arith in rw z
      go false e = e ∙ further (link_from is (suc o) (take n bs)) (link-past is (take n bs) (suc o))

pub link-found : (bs : List Block) (n x : ℕ) → lookup_at bs (link_to_block (take n bs) x) ≡ find (take n bs) x
unfolding lookup_at link_to_block
link-found bs n x = go (link_to_block (take n bs) x) ∙ sym (found-from x n 0 bs)
  where
    go : (p : ℕ) → lookup_at bs p ≡ found_from 0 bs p
    go zero = refl
    go (suc p) = let z : p - 0 ≡ p = omega arith in rw z
