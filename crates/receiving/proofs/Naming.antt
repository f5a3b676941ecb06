-- After a packet's new entries were added, the rows that it names are those of the set and those behind the old rows.
-- Assumes nothing.
use Prim.Native.Nat.{ℕ, zero, suc, ◌+◌, ◌-◌, ◌<◌}
use mathlib.Core.Bool.{Bool, true, false, ◌||◌}
use mathlib.Core.List.{List, [], ◌∷◌, ◌++◌, Memᴰ}
use mathlib.Core.Path.{◌≡◌, refl, ap, sym, ◌∙◌}
use native.Mathlib.Omega.{arith}
use borrow.Author.Tests.{leb-true, leb-false, eq-eqb}
use lib.Dec.{eqb, leb}
use lib.ListN.{length, get_or, length-append, get_or-append}
use lib.Seq.{get_or-append-add}
use Rattle.protocol.specs.Entry.{Block, Vote}
use Rattle.protocol.specs.Lists.{any_pass, passing}
use Rattle.protocol.specs.Store.{Marked, all_waiting, entries, same_vote, since}
use Rattle.protocol.specs.Packet.{packet_of}
use Rattle.protocol.specs.Lent.{Make, rows_of, make_block, make_vote, block_row, vote_row}
use Rattle.protocol.specs.Calls.Receive.{add_blocks, add_votes, add_since}
use Rattle.protocol.proofs.Basics.Tests.{or_left}
use Rattle.protocol.proofs.Basics.Members.{any-holds}
use Rattle.protocol.proofs.Store.New.{knows_block, knows_vote, new_blocks_of, new_votes_of, adding-blocks, adding-votes, blocks_from, votes-from}
use Rattle.protocol.proofs.Store.Since.{since-in}
use Rattle.protocol.proofs.Store.Views.{length-entries, entries-waiting, same-vote}
use Rattle.protocol.proofs.Lent.Rows.{Codec, block-codec, vote-codec, length-rows_of}
use Rattle.rows.specs.Rows.{row_at}
use Rattle.rows.proofs.Rows.{get_d-rows_of}
use Rattle.bitset.specs.Bitset.{in_set}
use Rattle.index.specs.Firsts.{named, BlocksNamed, VotesNamed}
use Rattle.storing.specs.Grown.{grown, Holds}
use Rattle.storing.proofs.Adding.{grown-new}
use Rattle.views.specs.Named.{named_at, Agrees}
use Rattle.receiving.proofs.Held.{rows-held}

-- ---- entries xs that wait behind the rows in ws₀; p passes them, and those of the rows that are in the set

module _ {A : Type 0} {make : Make (Marked A)} {row : Marked A → List ℕ} (codec : Codec (Marked A) make row) (p : A → Bool) where
  waiting-passes : (xs : List A) (k : ℕ) (d : Marked A) → ((a : A) → Memᴰ a xs → p a ≡ true) → k < length xs → p (get_or (all_waiting xs) k d).entry ≡ true
  unfolding all_waiting
  waiting-passes [] k d f h = absurd (omega arith)
  waiting-passes (x ∷ xs) zero d f h = f x (Memᴰ.head refl)
  waiting-passes (x ∷ xs) (suc k) d f h = waiting-passes xs k d (λ a m. f a (Memᴰ.tail m)) (omega arith)

  agrees-held : (ws₀ : List ℕ) (u₀ : ℕ) (set : List ℕ) (xs : List A) {ws : List ℕ} {u : ℕ}
      → Holds (Marked A) row (rows_of make ws₀ u₀ ++ all_waiting xs) ws₀ ws u → ((j : ℕ) → j < u₀ → in_set set j ≡ p (row_at make ws₀ j).entry)
      → ((a : A) → Memᴰ a xs → p a ≡ true) → Agrees A make ws u (named_at u₀ set) p
  unfolding named_at
  agrees-held ws₀ u₀ set xs {ws} {u} H f g j h = go (leb u₀ j) refl
    where
      R : List (Marked A)
      R = rows_of make ws₀ u₀

      d : Marked A
      d = row_at make ws j

      long : length R ≡ u₀
      long = length-rows_of make ws₀ u₀

      all : u ≡ u₀ + length xs
      all = H.used ∙ length-append R (all_waiting xs) ∙ omega (arith, long, length-entries (all_waiting xs), ap length (entries-waiting xs))

      -- row j
      is : get_or (R ++ all_waiting xs) j d ≡ d
      is = ap (λ (r : List (Marked A)). get_or r j d) (sym (rows-held codec (R ++ all_waiting xs) ws₀ H)) ∙ get_d-rows_of make ws u j d h

      go : (t : Bool) → leb u₀ j ≡ t → (t || in_set set j) ≡ p d.entry
      go true e =
          let k : j ≡ length R + (j - u₀) = omega (arith, long, leb-true u₀ j e) in
          let i : j - u₀ < length xs = omega (arith, leb-true u₀ j e, all) in
          sym (ap (λ (m : Marked A). p m.entry) (sym is ∙ ap (λ (o : ℕ). get_or (R ++ all_waiting xs) o d) k ∙ get_or-append-add R (all_waiting xs) (j - u₀) d)
          ∙ waiting-passes xs (j - u₀) d g i)
      go false e =
          let i : j < u₀ = leb-false u₀ j e in
          f j i ∙ ap (λ (m : Marked A). p m.entry) (sym (get_d-rows_of make ws₀ u₀ j d i) ∙ sym (get_or-append R (all_waiting xs) d j (omega (arith, long))) ∙ is)

-- ---- a packet's

module _ (ws₀ : List ℕ) (u₀ : ℕ) (bytes set : List ℕ) {ws : List ℕ} {u : ℕ} where
  pub blocks-agree : Holds (Marked Block) block_row (grown add_blocks (rows_of make_block ws₀ u₀) (packet_of bytes).blocks) ws₀ ws u → BlocksNamed ws₀ u₀ bytes set
      → Agrees Block make_block ws u (named_at u₀ set) (named (packet_of bytes))
  blocks-agree H f =
      agrees-held block-codec (named (packet_of bytes)) ws₀ u₀ set (new_blocks_of (entries R) bs) (rw (grown-new knows_block add_blocks adding-blocks R bs) at H) f
      (λ c m. own c (blocks_from (entries R) bs c m))
    where
      R : List (Marked Block)
      R = rows_of make_block ws₀ u₀

      bs : List Block
      bs = (packet_of bytes).blocks

      own : (c : Block) → Memᴰ c bs → named (packet_of bytes) c ≡ true
      own c m = unfold named in (or_left (any_pass (λ o. eqb c.number o.number) bs) _ (any-holds (λ o. eqb c.number o.number) c m (eq-eqb c.number c.number refl)))

  pub votes-agree : (from : ℕ) → Holds (Marked Vote) vote_row (grown (add_since from) (rows_of make_vote ws₀ u₀) (packet_of bytes).votes) ws₀ ws u → VotesNamed ws₀ u₀ bytes set
      → Agrees Vote make_vote ws u (named_at u₀ set) (λ a. any_pass (same_vote a) (packet_of bytes).votes)
  votes-agree from H f =
      agrees-held vote-codec (λ a. any_pass (same_vote a) vs) ws₀ u₀ set (new_votes_of (entries R) (passing (since from) vs)) (rw new at H) f
      (λ a m. any-holds (same_vote a) a (since-in from vs a (votes-from (entries R) (passing (since from) vs) a m)).0 (same-vote a a refl))
    where
      R : List (Marked Vote)
      R = rows_of make_vote ws₀ u₀

      vs : List Vote
      vs = (packet_of bytes).votes

      new : grown (add_since from) R vs ≡ R ++ all_waiting (new_votes_of (entries R) (passing (since from) vs))
      new = unfold grown in (grown-new knows_vote add_votes adding-votes R (passing (since from) vs))
