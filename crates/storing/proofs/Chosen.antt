-- Which entries of a packet are added, by their rows in the set of new entries and their slots: those that the definitions add.
-- Assumes nothing.
use Prim.Native.Nat.{ℕ, ◌+◌, ◌*◌, ◌≤◌, ◌<◌}
use mathlib.Core.Bool.{Bool, true, false, not, ◌&&◌, ◌||◌, and-true, and-false}
use mathlib.Core.List.{List}
use mathlib.Core.Path.{◌≡◌, refl, ap, sym, ◌∙◌}
use native.Mathlib.Omega.{arith}
use borrow.Author.Tests.{le-leb, lt-leb}
use lib.Dec.{leb}
use lib.ListN.{length, get_or, take, length-append}
use Rattle.protocol.specs.Entry.{Block, Vote}
use Rattle.protocol.specs.Chain.{genesis}
use Rattle.protocol.specs.Store.{Marked, entries, since}
use Rattle.protocol.specs.Packet.{packet_of}
use Rattle.protocol.specs.Lent.{Make, rows_of, make_block, make_vote}
use Rattle.protocol.specs.Calls.Receive.{add_blocks, add_votes, add_since}
use Rattle.protocol.proofs.Store.New.{new_of, Adding, adds-new, knows_block, knows_vote, adding-blocks}
use Rattle.protocol.proofs.Store.Since.{knows_since, adding-since, knows-since}
use Rattle.protocol.proofs.Store.Views.{length-entries}
use Rattle.protocol.proofs.Lent.Rows.{length-rows_of}
use Rattle.packets.specs.Header.{no_vote}
use Rattle.bitset.specs.Bitset.{in_set}
use Rattle.index.specs.Firsts.{BlocksNew, VotesNew}
use Rattle.storing.specs.Grown.{is_added, chosen}
use Rattle.storing.proofs.Adding.{chosen-new}

-- entry i, x, was read as a, of slot r, and whether its row is in the set as `new`
module _ {A : Type 0} (set : List ℕ) (used : ℕ) (slot : A → ℕ) (from i : ℕ) (x : A) {new : Bool} (n : new ≡ in_set set (used + i)) where
  pub known-left : new ≡ false → is_added set used slot from i x ≡ false
  known-left e = rw (← n, e) refl

  module _ {a : A} {r : ℕ} (e : a ≡ x) (s : r ≡ slot a) where
    pub late-added : new ≡ true → from ≤ r → is_added set used slot from i x ≡ true
    late-added t h = rw (← n, t, ← e, ← s) (le-leb from r h)

    pub early-left : r < from → is_added set used slot from i x ≡ false
    early-left h = rw (← e, ← s, lt-leb from r h) (and-false (in_set set (used + i)))

-- ---- those that the definitions add

module _ (ws : List ℕ) (u : ℕ) (bytes set : List ℕ) where
  pub blocks-chosen : BlocksNew ws u bytes set
      → chosen (is_added set u (λ (b : Block). b.slot) 0) 0 (packet_of bytes).blocks ≡ new_of knows_block (entries (rows_of make_block ws u)) (packet_of bytes).blocks
  blocks-chosen f =
      chosen-new knows_block add_blocks adding-blocks (is_added set u (λ (b : Block). b.slot) 0) 0 (entries (rows_of make_block ws u)) (packet_of bytes).blocks genesis
      (λ i h. let z : 0 + i ≡ i = omega arith in rw (z, le-leb 0 (get_or (packet_of bytes).blocks i genesis).slot (omega arith)) (and-true (in_set set (u + i)) ∙ f i h))

  -- of votes where old ones, of slots below `from`, are left out: an old vote counts as known
  pub votes-chosen : (from : ℕ) → VotesNew ws u bytes set
      → chosen (is_added set u (λ (a : Vote). a.slot) from) 0 (packet_of bytes).votes ≡ new_of (knows_since from) (entries (rows_of make_vote ws u)) (packet_of bytes).votes
  unfolding since
  votes-chosen from f =
      chosen-new (knows_since from) (add_since from) (adding-since from) (is_added set u (λ (a : Vote). a.slot) from) 0 old (packet_of bytes).votes no_vote
      (λ i h. let z : 0 + i ≡ i = omega arith in rw (z, f i h) (new (take i (packet_of bytes).votes) (get_or (packet_of bytes).votes i no_vote)))
    where
      old : List Vote
      old = entries (rows_of make_vote ws u)

      new : (vs : List Vote) (a : Vote) → (not (knows_vote (add_votes old vs) a) && leb from a.slot) ≡ not (knows_since from (add_since from old vs) a)
      new vs a = go (since from a) (knows_vote (add_votes old vs) a) ∙ ap not (sym (knows-since from old vs a))
        where
          go : (s k : Bool) → (not k && s) ≡ not (not s || k)
          go true true = refl
          go true false = refl
          go false true = refl
          go false false = refl

-- where there is room for all that is there then
pub chosen-room : {A : Type 0} (has : List A → A → Bool) (add : List A → List A → List A) → Adding has add → (make : Make (Marked A)) (ws : List ℕ) (u : ℕ) (xs : List A) {cs : List A}
    → cs ≡ new_of has (entries (rows_of make ws u)) xs → make.words * length (add (entries (rows_of make ws u)) xs) ≤ length ws → make.words * (u + length cs) ≤ length ws
chosen-room has add is make ws u xs {cs} e h =
    let old = entries (rows_of make ws u) in
    let n : length (add old xs) ≡ u + length cs
    = ap length (adds-new has add is old xs) ∙ length-append old (new_of has old xs) ∙ omega (arith, length-entries (rows_of make ws u) ∙ length-rows_of make ws u, ap length e) in
    rw (← n) h
