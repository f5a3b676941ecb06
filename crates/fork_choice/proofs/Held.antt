-- A sound table's blocks by their rows. Assumes nothing.
use Prim.Native.Nat.{ℕ, zero, suc, ◌+◌, ◌≤◌, ◌<◌}
use mathlib.Core.Bool.{Bool, true, false, ◌||◌, or-true}
use mathlib.Core.List.Memᴰ
use mathlib.Core.List.{List, [], ◌∷◌, ◌++◌, append-nil, append_assoc, head-eq_of_cons-eq, tail-eq_of_cons-eq}
use mathlib.Core.Logic.{◌⊎◌, inl, inr}
use mathlib.Core.Path.{◌≡◌, refl, ap, sym, ◌∙◌}
use native.Mathlib.Decide.{dec_lt}
use native.Mathlib.Nat.{eq-zero-or-pos}
use native.Mathlib.Omega.{arith}
use lib.Dec.{eqb}
use lib.ListN.{get_or, take, drop, take-append-drop}
use borrow.Author.Tests.{eq-eqb, ne_eqb}
use Rattle.protocol.specs.Entry.{Block}
use Rattle.protocol.specs.Chain.{genesis}
use Rattle.protocol.specs.Store.{Marked, entries, view_of, in_view}
use Rattle.protocol.specs.Lent.{block_words, rows_of, make_block}
use Rattle.protocol.proofs.Basics.Tests.{and_left, and_right}
use Rattle.protocol.proofs.Chain.Relations.{In, Sound}
use Rattle.protocol.proofs.Store.Follow.{all_follow, block_follows, Follows, follows-true}
use Rattle.protocol.proofs.Store.Tables.{Table, table-true, table-sound, closed-sound, table-front, Closed}
use Rattle.protocol.proofs.Store.Views.{entries-append}
use Rattle.protocol.proofs.Lent.Rows.{length-rows_of}
use Rattle.rows.specs.Rows.{row_at}
use Rattle.rows.proofs.Rows.{get_d-rows_of, drop-rows_of, rows-front}
use Rattle.search_tree.proofs.Lists.{link-hit}
use Rattle.index.specs.Links.{link_to_number}
use Rattle.vote_filters.specs.Latest.{selected}
use Rattle.vote_filters.proofs.Selected.{row_of, entry_in}
use Rattle.subtree_voters.specs.BlockRows.{block_at, blocks_of, row_in, parent_row, BlocksSound}

-- row i is selected
abbrev pub is_in : Bool → List ℕ → ℕ → Bool
is_in w ws i = w || (row_at make_block ws i).viewed

-- a block has a row
abbrev pub Stands : Bool → List ℕ → ℕ → Block → Type 0
Stands w ws n c = (i : ℕ) × (i < n) × (is_in w ws i ≡ true) × (c ≡ block_at ws i)

pub listed : (w : Bool) (ws : List ℕ) (n : ℕ) (c : Block) → In c (blocks_of w ws n) → Stands w ws n c
listed w ws n c m = row_of make_block w ws n c m

-- a row has its block
pub lists : (w : Bool) (ws : List ℕ) (n i : ℕ) → i < n → is_in w ws i ≡ true → In (block_at ws i) (blocks_of w ws n)
lists w ws n i l s = entry_in make_block w ws n i l s

-- ---- each row follows the rows before it

follow-split : (slot : ℕ) (e xs : List Block) (b : Block) (ys : List Block) → all_follow slot e (xs ++ (b ∷ ys)) ≡ true → block_follows slot (e ++ xs) b ≡ true
unfolding all_follow
follow-split slot e [] b ys h = rw (append-nil e) (and_left (block_follows slot e b) (all_follow slot (e ++ (b ∷ [])) ys) h)
follow-split slot e (x ∷ xs) b ys h =
    rw (append_assoc e (x ∷ []) xs) at (follow-split slot (e ++ (x ∷ [])) xs b ys (and_right (block_follows slot e x) (all_follow slot (e ++ (x ∷ [])) (xs ++ (b ∷ ys))) h))

rows_split : (ws : List ℕ) (n i : ℕ) → i < n → entries (rows_of make_block ws n) ≡ entries (rows_of make_block ws i) ++ (block_at ws i ∷ entries (drop (i + 1) (rows_of make_block ws n)))
unfolding entries
rows_split ws n i h =
    let R = rows_of make_block ws n in
    let l : i ≤ n = omega arith in
    ap entries (sym (take-append-drop i R)) ∙ entries-append (take i R) (drop i R)
    ∙ rw (rows-front make_block ws n i l, drop-rows_of make_block ws n i h)

module _ (slot : ℕ) (ws : List ℕ) (n : ℕ) (T : Table slot (rows_of make_block ws n)) where
  follows-at : (i : ℕ) → 0 < i → i < n → Follows slot (entries (rows_of make_block ws i)) (block_at ws i)
  unfolding rows_of entries
  follows-at zero z h = absurd (omega arith)
  follows-at (suc k) z h = go (entries (rows_of make_block (drop block_words ws) k)) (entries (drop (suc k + 1) (rows_of make_block ws n))) (sym (rows_split ws n (suc k) h) ∙ T.is)
    where
      go : (xs ys : List Block) → (block_at ws 0 ∷ xs) ++ (block_at ws (suc k) ∷ ys) ≡ genesis ∷ T.rest → Follows slot (block_at ws 0 ∷ xs) (block_at ws (suc k))
      go xs ys e =
          let q : xs ++ (block_at ws (suc k) ∷ ys) ≡ T.rest = tail-eq_of_cons-eq e in
          let g : block_at ws 0 ≡ genesis = head-eq_of_cons-eq e in
          follows-true slot (block_at ws 0 ∷ xs) (block_at ws (suc k)) (rw g (follow-split slot (genesis ∷ []) xs (block_at ws (suc k)) ys (rw q T.follow)))

-- ---- the table by rows

pub record Held (w : Bool) (ws : List ℕ) (n : ℕ) : Type 0 where
  pub some : 0 < n
  pub first : block_at ws 0 ≡ genesis
  pub top : is_in w ws 0 ≡ true
  pub differ : (i j : ℕ) → i < n → j < n → (block_at ws i).number ≡ (block_at ws j).number → i ≡ j
  pub parents : (i : ℕ) → 0 < i → i < n → (p : ℕ) × (p < i) × ((block_at ws p).number ≡ (block_at ws i).parent)
  pub sound : Sound (blocks_of w ws n)

module _ (slot : ℕ) (ws : List ℕ) (n : ℕ) (T : Table slot (rows_of make_block ws n)) (C : Closed (view_of (rows_of make_block ws n))) where
  all_sound : (w : Bool) → Sound (blocks_of w ws n)
  unfolding selected
  all_sound true = table-sound T
  all_sound false = closed-sound T C

  stored-in : (k : ℕ) → entries (rows_of make_block ws k) ≡ blocks_of true ws k
  unfolding selected
  stored-in k = refl

  apart : (i j : ℕ) → i < j → j < n → (block_at ws i).number ≡ (block_at ws j).number → ⊥
  apart i j l h e = (follows-at slot ws n T j (omega arith) h).new (block_at ws i) (rw (stored-in j) (lists true ws j i l refl)) e

  pub held_by : (w : Bool) → Held w ws n
  held_by w = record {
    some = (front n T.viewed refl).0;
    first = (front n T.viewed refl).1;
    top = ap (λ (b : Bool). w || b) (front n T.viewed refl).2 ∙ or-true w;
    differ = λ i j a b e. one i j a b e (dec_lt i j) (dec_lt j i);
    parents = λ i z h. under i (follows-at slot ws n T i z h).on;
    sound = all_sound w;
  }
    where
      front : (k : ℕ) → In genesis (view_of (rows_of make_block ws k)) → n ≡ k → (0 < n) × (block_at ws 0 ≡ genesis) × ((row_at make_block ws 0).viewed ≡ true)
      front zero m e = unfold rows_of view_of in (absurd (Memᴰ.not-nil m))
      front (suc k) m e = unfold rows_of in (
          let f = table-front slot (row_at make_block ws 0) (rows_of make_block (drop block_words ws) k) (rw e at T) in
          (omega arith, f.0, f.1))

      one : (i j : ℕ) → i < n → j < n → (block_at ws i).number ≡ (block_at ws j).number → Dec (i < j) → Dec (j < i) → i ≡ j
      one i j a b e (yes l) d = absurd (apart i j l b e)
      one i j a b e (no l) (yes m) = absurd (apart j i m a (sym e))
      one i j a b e (no l) (no m) = omega arith

      under : (i : ℕ) → (p : Block) × In p (entries (rows_of make_block ws i)) × (p.number ≡ (block_at ws i).parent) × (p.slot < (block_at ws i).slot)
          → (p : ℕ) × (p < i) × ((block_at ws p).number ≡ (block_at ws i).parent)
      under i (p, m, e, l) =
          let q = listed true ws i p (rw (stored-in i) at m) in
          (q.0, q.1, ap (λ o. o.number) (sym q.3) ∙ e)

pub held : (w : Bool) (ws : List ℕ) (n : ℕ) → BlocksSound ws n → Held w ws n
held w ws n (slot, e) = let t = table-true slot (rows_of make_block ws n) e in held_by slot ws n t.0 t.1 w

-- ---- rows of numbers and of parents

module _ {w : Bool} {ws : List ℕ} {n : ℕ} (H : Held w ws n) where
  row-in : (k j : ℕ) → j < k → k ≤ n → row_in ws k (block_at ws j).number ≡ j
  unfolding link_to_number
  row-in k j l h =
      let e = link-hit (in_view genesis) has R 0 j (omega (arith, length-rows_of make_block ws k)) here before in
      omega arith
    where
      R : List (Marked Block)
      R = rows_of make_block ws k

      has : Marked Block → Bool
      has m = eqb m.entry.number (block_at ws j).number

      at : (i : ℕ) → i < k → has (get_or R i (in_view genesis)) ≡ eqb (block_at ws i).number (block_at ws j).number
      at i q = ap has (get_d-rows_of make_block ws k i (in_view genesis) q)

      here : has (get_or R j (in_view genesis)) ≡ true
      here = at j l ∙ eq-eqb (block_at ws j).number (block_at ws j).number refl

      before : (i : ℕ) → i < j → has (get_or R i (in_view genesis)) ≡ false
      before i q = at i (omega arith) ∙ ne_eqb (block_at ws i).number (block_at ws j).number (λ e. absurd (omega (arith, H.differ i j (omega arith) (omega arith) e)))

  -- the row of a block's number is its row
  pub row_is : (j : ℕ) → j < n → row_in ws n (block_at ws j).number ≡ j
  row_is j l = row-in n j l (omega arith)

  -- at a parent's row stands the parent
  pub parent_is : (i : ℕ) → 0 < i → i < n → (parent_row ws i < i) × ((block_at ws (parent_row ws i)).number ≡ (block_at ws i).parent)
  parent_is i z h =
      let p = H.parents i z h in
      let e : parent_row ws i ≡ p.0 = ap (λ (x : ℕ). row_in ws i x) (sym p.2) ∙ row-in i p.0 p.1 (omega arith) in
      rw e (p.1, p.2)

  -- only block 0 has number 0
  pub number-pos : (i : ℕ) → i < n → 0 < i → 0 < (block_at ws i).number
  number-pos i h z = go (eq-zero-or-pos (block_at ws i).number)
    where
      go : ((block_at ws i).number ≡ 0) ⊎ (0 < (block_at ws i).number) → 0 < (block_at ws i).number
      go (inl e) = absurd (omega (arith, H.differ i 0 h H.some (e ∙ ap (λ o. o.number) (sym H.first))))
      go (inr l) = l

  pub row-pos : (i : ℕ) → 0 < (block_at ws i).number → 0 < i
  row-pos i h = go (eq-zero-or-pos i)
    where
      go : (i ≡ 0) ⊎ (0 < i) → 0 < i
      go (inl e) = absurd (omega (arith, ap (λ (x : ℕ). (block_at ws x).number) e ∙ ap (λ o. o.number) H.first))
      go (inr l) = l

  -- a selected block's parent is selected
  pub parent_in : (i : ℕ) → 0 < i → i < n → is_in w ws i ≡ true → is_in w ws (parent_row ws i) ≡ true
  parent_in i z h s =
      let p = H.sound.parents (block_at ws i) (lists w ws n i h s) (number-pos i h z) in
      let q = listed w ws n p.0 p.1 in
      let r = parent_is i z h in
      let e : q.0 ≡ parent_row ws i = H.differ q.0 (parent_row ws i) q.1 (omega (arith, r.0)) (ap (λ o. o.number) (sym q.3) ∙ p.2 ∙ sym r.1) in
      rw e at q.2

  -- a selected block by its number
  pub by_number : (c : Block) (i : ℕ) → In c (blocks_of w ws n) → i < n → c.number ≡ (block_at ws i).number → (c ≡ block_at ws i) × (is_in w ws i ≡ true)
  by_number c i m h e =
      let q = listed w ws n c m in
      let d : q.0 ≡ i = H.differ q.0 i q.1 h (ap (λ o. o.number) (sym q.3) ∙ e) in
      (q.3 ∙ ap (block_at ws) d, rw d at q.2)
