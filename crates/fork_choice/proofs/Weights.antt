-- The voters of a row's word are those that support the block there, so the word's weight is the block's weight. Assumes nothing.
use Prim.Native.Nat.{ℕ, zero, suc, ◌≤◌, ◌<◌, zero-le}
use mathlib.Core.Bool.{Bool, true, false, not, ◌&&◌, cond, and-true}
use Rattle.std.specs.Prelude.{Option, Some, None}
use mathlib.Core.List.{List}
use mathlib.Core.Logic.{◌⊎◌, inl, inr}
use mathlib.Core.Path.{◌≡◌, refl, ap, sym, ◌∙◌}
use native.Mathlib.Omega.{arith}
use lib.Dec.{eqb, leb, ltb}
use lib.ListN.{get_or}
use borrow.Author.Tests.{eqb-true, eq-eqb, leb-true, le-leb, ltb-true, ltb-false}
use Rattle.protocol.specs.Limits.{loom}
use Rattle.protocol.specs.Entry.{Block}
use Rattle.protocol.specs.Chain.{at_or_above}
use Rattle.protocol.specs.Filters.{Choice, chosen, nothing, choice_of}
use Rattle.protocol.specs.Walk.{count_below, supports, weight, weight_at}
use Rattle.protocol.proofs.Basics.Counting.{count-ext}
use Rattle.protocol.proofs.Basics.Tests.{and_left, and_right, either, both, or_left, or_right, same_test}
use Rattle.protocol.proofs.Chain.Above.{above-cast, above-true, above_holds}
use Rattle.protocol.proofs.Chain.Relations.{Known, Above, here, up}
use Rattle.protocol.specs.declared.Vote.{Vote}
use Rattle.protocol.specs.Words.{bit_of, value}
use Rattle.masks.specs.Masks.{mask_of}
use Rattle.masks.proofs.Masks.{bit_mask, mask-ext, none_from}
use Rattle.vote_filters.specs.Latest.{votes_of, held_vote, last_at}
use Rattle.subtree_voters.specs.BlockRows.{block_at, blocks_of, row_in, parent_row}
use Rattle.subtree_voters.specs.Subtrees.{up_to, is_vote, block_of_vote, reaches, Subtrees}
use Rattle.fork_choice.specs.Weights.{weight_at_row}
use Rattle.fork_choice.proofs.Held.{Held, is_in, Stands, listed, lists, row_is, parent_is, number-pos, row-pos, parent_in, by_number}

module _ {w : Bool} {ws : List ℕ} {n : ℕ} (H : Held w ws n) where
  -- ---- by rows, and by parents

  up_above : (f x j : ℕ) → x < n → is_in w ws x ≡ true → up_to (λ y. parent_row ws y) f 1 j x ≡ true → Above (blocks_of w ws n) (block_at ws j).number (block_at ws x).number
  unfolding up_to
  up_above zero x j l s e = here (ap (λ (y : ℕ). (block_at ws y).number) (eqb-true x j e))
  up_above (suc f) x j l s e =
      go (either (eqb x j) (leb 1 x && up_to (λ y. parent_row ws y) f 1 j (parent_row ws x)) e) (λ a b c. up_above f (parent_row ws x) j a b c)
    where
      go : (eqb x j ≡ true) ⊎ ((leb 1 x && up_to (λ y. parent_row ws y) f 1 j (parent_row ws x)) ≡ true)
          → (parent_row ws x < n → is_in w ws (parent_row ws x) ≡ true → up_to (λ y. parent_row ws y) f 1 j (parent_row ws x) ≡ true
          → Above (blocks_of w ws n) (block_at ws j).number (block_at ws (parent_row ws x)).number)
          → Above (blocks_of w ws n) (block_at ws j).number (block_at ws x).number
      go (inl q) rec = here (ap (λ (y : ℕ). (block_at ws y).number) (eqb-true x j q))
      go (inr q) rec =
          let z = leb-true 1 x (and_left (leb 1 x) _ q) in
          let p = parent_is H x z l in
          up (block_at ws x) (lists w ws n x l s) refl (number-pos H x l z)
          (above-cast p.1 (rec (omega (arith, p.0)) (parent_in H x z l s) (and_right (leb 1 x) _ q)))

  above-up : {b y : ℕ} → Above (blocks_of w ws n) b y → (f x j : ℕ) → (block_at ws x).number ≡ y → (block_at ws j).number ≡ b → x < n → j < n → x ≤ f
      → up_to (λ y. parent_row ws y) f 1 j x ≡ true
  unfolding up_to
  above-up (here q) zero x j e g l m h = eq-eqb x j (H.differ x j l m (e ∙ q ∙ sym g))
  above-up (here q) (suc f) x j e g l m h = or_left (eqb x j) _ (eq-eqb x j (H.differ x j l m (e ∙ q ∙ sym g)))
  above-up (up c k q z r) zero x j e g l m h = absurd (omega (arith, row-pos H x (rw (sym e) at z)))
  above-up (up c k q z r) (suc f) x j e g l m h =
      let t : 0 < x = row-pos H x (rw (sym e) at z) in
      let p = parent_is H x t l in
      let o = by_number H c x k l (q ∙ sym e) in
      or_right (eqb x j) _ (both (le-leb 1 x t)
      (above-up r f (parent_row ws x) j (p.1 ∙ ap (λ o. o.parent) (sym o.0)) g (omega (arith, p.0)) m (omega (arith, p.0))))

  -- the rows that lead to j are those of the blocks at or above the block there
  up_is : (x j : ℕ) → Known (blocks_of w ws n) x → j < n → up_to (λ y. parent_row ws y) n 1 j (row_in ws n x) ≡ at_or_above (blocks_of w ws n) x (block_at ws j).number
  up_is x j k l = go (listed w ws n k.0 k.1)
    where
      go : Stands w ws n k.0 → up_to (λ y. parent_row ws y) n 1 j (row_in ws n x) ≡ at_or_above (blocks_of w ws n) x (block_at ws j).number
      go (i, h, s, e) =
          let a : (block_at ws i).number ≡ x = ap (λ o. o.number) (sym e) ∙ k.2 in
          let p : row_in ws n x ≡ i = ap (λ (y : ℕ). row_in ws n y) (sym a) ∙ row_is H i h in
          rw p (same_test (up_to (λ y. parent_row ws y) n 1 j i) (at_or_above (blocks_of w ws n) x (block_at ws j).number)
          (λ t. above_holds H.sound (above-cast a (up_above n i j h s t)))
          (λ t. above-up (above-true H.sound x (block_at ws j).number t) n i j a refl h l (omega arith)))

  -- ---- voters

  pub reaches-supports : (kept : List (Option Vote)) (j v : ℕ) → j < n
      → ((x : ℕ) → choice_of (last_at kept v) ≡ chosen x → Known (blocks_of w ws n) x)
      → reaches ws n kept 1 j v ≡ supports (blocks_of w ws n) (choice_of (last_at kept v)) (block_at ws j).number
  unfolding last_at choice_of supports
  reaches-supports kept j v l K = go (get_or kept v None) K
    where
      go : (o : Option Vote) → ((x : ℕ) → choice_of (held_vote o) ≡ chosen x → Known (blocks_of w ws n) x)
          → (is_vote o && up_to (λ y. parent_row ws y) n 1 j (row_in ws n (block_of_vote o))) ≡ supports (blocks_of w ws n) (choice_of (held_vote o)) (block_at ws j).number
      go None K = refl
      go (Some a) K = up_is (value a.number) j (K (value a.number) refl) l

-- ---- weights

-- no voter from n on: the count goes no further
pub count-wide : (p : ℕ → Bool) (n m : ℕ) → n ≤ m → ((v : ℕ) → n ≤ v → v < m → p v ≡ false) → count_below p m ≡ count_below p n
unfolding count_below
count-wide p n zero h f = let e : n ≡ 0 = omega arith in rw e
count-wide p n (suc m) h f = go (ltb m n) refl (λ q. count-wide p n m q (λ v a b. f v a (omega arith)))
  where
    go : (b : Bool) → ltb m n ≡ b → (n ≤ m → count_below p m ≡ count_below p n) → cond (p m) (suc (count_below p m)) (count_below p m) ≡ count_below p n
    go true e rec = let l = ltb-true m n e in let q : n ≡ suc m = omega arith in rw q
    go false e rec = let l = ltb-false m n e in rw (f m l (omega arith)) (rec l)

-- k says each voter's choice, for a selected block
module _ {w : Bool} {ws : List ℕ} {n : ℕ} (H : Held w ws n) (k : ℕ → Choice) {kept : List (Option Vote)} {masks : List ℕ} where
  -- the word at a row is the set of those that support the block there
  pub row-voters : Subtrees ws n kept 1 masks → ((v : ℕ) → v < loom.nodes → choice_of (last_at kept v) ≡ k v)
      → ((v x : ℕ) → k v ≡ chosen x → Known (blocks_of w ws n) x)
      → (j : ℕ) → j < n → get_or masks j 0 ≡ mask_of 64 (λ v. supports (blocks_of w ws n) (k v) (block_at ws j).number)
  row-voters S K kn j l =
      S.each j l ∙ mask-ext 64 (λ v. reaches ws n kept 1 j v) (λ v. supports (blocks_of w ws n) (k v) (block_at ws j).number) (λ v h. one v h)
    where
      one : (v : ℕ) → v < loom.nodes → reaches ws n kept 1 j v ≡ supports (blocks_of w ws n) (k v) (block_at ws j).number
      one v h =
          reaches-supports H kept j v l (λ x e. kn v x (sym (K v h) ∙ e))
          ∙ ap (λ (o : Choice). supports (blocks_of w ws n) o (block_at ws j).number) (K v h)

-- the bits of a mask, counted
pub count-mask : (p : ℕ → Bool) {m : ℕ} → m ≡ mask_of 64 p → count_below (bit_of m) 64 ≡ count_below p 64
count-mask p {m} e = count-ext (bit_of m) p 64 (λ v l. ap (λ (x : ℕ). bit_of x v) e ∙ bit_mask 64 p v l)

-- a word that is the set of those that support b, if only the first `voters` have a choice: those of them that pass q
pub word_count : (bs : List Block) (k : ℕ → Choice) (voters b : ℕ) (q : ℕ → Bool) {m : ℕ} → m ≡ mask_of 64 (λ v. supports bs (k v) b) → voters ≤ 64
    → ((v x : ℕ) → k v ≡ chosen x → v < voters) → count_below (λ v. bit_of m v && q v) 64 ≡ count_below (λ v. supports bs (k v) b && q v) voters
word_count bs k voters b q {m} e h f =
    count-ext (λ v. bit_of m v && q v) (λ v. supports bs (k v) b && q v) 64
    (λ v l. ap (λ (x : Bool). x && q v) (ap (λ (x : ℕ). bit_of x v) e ∙ bit_mask 64 (λ u. supports bs (k u) b) v l))
    ∙ count-wide (λ v. supports bs (k v) b && q v) voters 64 h (λ v a l. ap (λ (x : Bool). x && q v) (silent-from v a (k v) refl))
  where
    silent-from : (v : ℕ) → voters ≤ v → (o : Choice) → k v ≡ o → supports bs o b ≡ false
    silent-from v a nothing z = unfold supports in refl
    silent-from v a (chosen x) z = absurd (omega (arith, f v x z))

-- it weighs as b does
pub word-weight : (bs : List Block) (k : ℕ → Choice) (voters b : ℕ) {m : ℕ} → m ≡ mask_of 64 (λ v. supports bs (k v) b) → voters ≤ 64
    → ((v x : ℕ) → k v ≡ chosen x → v < voters) → count_below (bit_of m) 64 ≡ weight bs k voters b
unfolding weight
word-weight bs k voters b {m} e h f =
    count-ext (bit_of m) (λ v. bit_of m v && true) 64 (λ v l. sym (and-true (bit_of m v)))
    ∙ word_count bs k voters b (λ v. true) e h f
    ∙ count-ext (λ v. supports bs (k v) b && true) (λ v. supports bs (k v) b) voters (λ v l. and-true (supports bs (k v) b))

-- the empty set leaves nobody out
pub all-heard : (m : ℕ) → count_below (λ v. bit_of m v && not (bit_of 0 v)) 64 ≡ count_below (bit_of m) 64
all-heard m =
    count-ext (λ v. bit_of m v && not (bit_of 0 v)) (bit_of m) 64 (λ v l. ap (λ (x : Bool). bit_of m v && not x) (none_from 0 0 v (omega arith) zero-le) ∙ and-true (bit_of m v))

-- the words weigh as the blocks do, by the votes of n voters kept for slot t with expiry period E
pub record Weighed (whole : Bool) (bw : List ℕ) (bu : ℕ) (vw : List ℕ) (vu n E t : ℕ) (masks : List ℕ) : Type 0 where
  pub each : (j : ℕ) → j < bu → weight_at_row masks j ≡ weight_at (blocks_of whole bw bu) (votes_of whole vw vu) n E t (block_at bw j).number
