-- The best child by rows is the best child, and the walk by rows is the walk. Assumes nothing.
use Prim.Native.Nat.{ℕ, zero, suc, ◌+◌, ◌≤◌, ◌<◌}
use mathlib.Core.Bool.{Bool, true, false, ◌||◌, ◌&&◌, cond, or-false}
use Rattle.std.specs.Prelude.{Option, Some, None}
use mathlib.Core.List.{List}
use mathlib.Core.Path.{◌≡◌, refl, ap, sym, ◌∙◌, subst}
use native.Mathlib.Omega.{arith}
use lib.Dec.{ltb}
use lib.ListN.{get_or}
use borrow.Author.Tests.{eq-eqb, ne_eqb, le-ltb}
use Rattle.protocol.specs.Entry.{Block}
use Rattle.protocol.specs.Chain.{found, missing}
use Rattle.protocol.specs.Walk.{is_child, beats, better, best_child, walk}
use Rattle.protocol.specs.Store.{Marked}
use Rattle.protocol.specs.Lent.{make_block}
use Rattle.protocol.proofs.Basics.Members.{adds-end}
use Rattle.protocol.proofs.Walk.Relations.{IsChild, IsBest, Walk, stop, step}
use Rattle.protocol.proofs.Walk.Best.{child-true, BestIs, best-next, best-is, best_of, walk_of}
use Rattle.rows.specs.Rows.{row_at}
use Rattle.vote_filters.proofs.Selected.{selected-in, selected-out}
use Rattle.subtree_voters.specs.BlockRows.{block_at, blocks_of, parent_row}
use Rattle.fork_choice.specs.Walks.{weight_in, beats_at, Within, found_row, beats_row, better_row}
use Rattle.fork_choice.proofs.Held.{Held, is_in, Stands, listed, row_is, parent_is, row-pos}

-- ---- which of two goes first, as code finds it

module _ (ws weights : List ℕ) (d c : ℕ) where
  pub beats-apart : (get_or weights c 0 ≡ get_or weights d 0 → ⊥) → ltb (get_or weights c 0) (get_or weights d 0) ≡ beats_at ws weights d c
  unfolding beats_at
  beats-apart ne = rw (ne_eqb (get_or weights c 0) (get_or weights d 0) ne, or-false (ltb (get_or weights c 0) (get_or weights d 0)))

  pub beats-tie : (a b : Marked Block) → a ≡ row_at make_block ws d → b ≡ row_at make_block ws c → get_or weights c 0 ≡ get_or weights d 0
      → ltb a.entry.number b.entry.number ≡ beats_at ws weights d c
  unfolding beats_at
  beats-tie a b f g e =
      rw (le-ltb (get_or weights c 0) (get_or weights d 0) (omega arith), eq-eqb (get_or weights c 0) (get_or weights d 0) e, ap (λ o. o.entry.number) f, ap (λ o. o.entry.number) g)

module _ (ws weights : List ℕ) (w : Bool) (lim a i : ℕ) (best : Option ℕ) (m : Marked Block) (read : m ≡ row_at make_block ws i) where
  better-by : (b c e : Bool) → (w || m.viewed) ≡ b → is_child lim a m.entry ≡ c → beats_row ws weights best i ≡ e
      → cond (b && c) (cond e best (Some i)) best ≡ better_row ws weights w lim a i best
  unfolding better_row
  better-by b c e p q s =
      let by : cond (b && c) (cond e best (Some i)) best
      ≡ cond ((w || m.viewed) && is_child lim a m.entry) (cond (beats_row ws weights best i) best (Some i)) best
      = rw (p, q, s) in
      by ∙ ap (λ (x : Marked Block). cond ((w || x.viewed) && is_child lim a x.entry) (cond (beats_row ws weights best i) best (Some i)) best) read

  pub better-hidden : (w || m.viewed) ≡ false → best ≡ better_row ws weights w lim a i best
  better-hidden p = better-by false (is_child lim a m.entry) (beats_row ws weights best i) p refl refl

  pub better-other : (w || m.viewed) ≡ true → is_child lim a m.entry ≡ false → best ≡ better_row ws weights w lim a i best
  better-other p q = better-by true false (beats_row ws weights best i) p q refl

  pub better-stays : (w || m.viewed) ≡ true → is_child lim a m.entry ≡ true → beats_row ws weights best i ≡ true → best ≡ better_row ws weights w lim a i best
  better-stays p q s = better-by true true true p q s

  pub better-new : (w || m.viewed) ≡ true → is_child lim a m.entry ≡ true → beats_row ws weights best i ≡ false → Some i ≡ better_row ws weights w lim a i best
  better-new p q s = better-by true true false p q s

-- from row a the walk goes where the walk from block 0 goes
pub record Way (w : Bool) (ws : List ℕ) (n : ℕ) (weights : List ℕ) (lim a : ℕ) : Type 0 where
  pub inside : a < n
  pub on : (r : ℕ) → Walk (weight_in ws n weights) (blocks_of w ws n) lim r (block_at ws a).number → Walk (weight_in ws n weights) (blocks_of w ws n) lim r 0

pub better-within : (ws weights : List ℕ) (w : Bool) (lim a i n : ℕ) (best : Option ℕ) → i < n → Within n best → Within n (better_row ws weights w lim a i best)
unfolding better_row
better-within ws weights w lim a i n best h l = go (is_in w ws i && is_child lim a (block_at ws i)) (beats_row ws weights best i)
  where
    go : (b c : Bool) → Within n (cond b (cond c best (Some i)) best)
    go true true = l
    go true false = h
    go false c = l

module _ {w : Bool} {ws : List ℕ} {n : ℕ} (H : Held w ws n) (weights : List ℕ) (lim : ℕ) where
  pub weight_is : (j : ℕ) → j < n → weight_in ws n weights (block_at ws j).number ≡ get_or weights j 0
  weight_is j l = ap (λ (i : ℕ). get_or weights i 0) (row_is H j l)

  -- ---- children

  -- a child of the block at a has its parent's row at a
  pub child-of : (a i : ℕ) → a < n → i < n → IsChild lim (block_at ws a).number (block_at ws i) → parent_row ws i ≡ a
  child-of a i h l k =
      let p = parent_is H i (row-pos H i k.late) l in
      H.differ (parent_row ws i) a (omega (arith, p.0)) h (p.1 ∙ k.under)

  -- and stands after it
  pub child-after : (a i : ℕ) → a < n → i < n → IsChild lim (block_at ws a).number (block_at ws i) → a < i
  child-after a i h l k = omega (arith, child-of a i h l k, (parent_is H i (row-pos H i k.late) l).0)

  -- block 0 is no child
  pub best-start : (x : ℕ) → BestIs (weight_in ws n weights) lim x (blocks_of w ws 1) missing
  best-start x = λ d m k. none d k (listed w ws 1 d m)
    where
      none : (d : Block) → IsChild lim x d → Stands w ws 1 d → ⊥
      none d k (i, l, s, e) = omega (arith, row-pos H i (rw e at k.late))

  -- ---- one row more

  pub best-turn : (a i : ℕ) (best : Option ℕ) {r : Option ℕ} → BestIs (weight_in ws n weights) lim a (blocks_of w ws i) (found_row ws best) → r ≡ better_row ws weights w lim a i best
      → i < n → Within n best → BestIs (weight_in ws n weights) lim a (blocks_of w ws (i + 1)) (found_row ws r)
  unfolding better_row
  best-turn a i best {r} B e h l = rw e (go (is_in w ws i) refl)
    where
      same : (b : ℕ) → b < n → beats (weight_in ws n weights) (block_at ws b) (block_at ws i) ≡ beats_at ws weights b i
      same b q = unfold beats beats_at in (rw (weight_is i h, weight_is b q))

      over : (o : Option ℕ) → Within n o → found_row ws (cond (beats_row ws weights o i) o (Some i)) ≡ better (weight_in ws n weights) (block_at ws i) (found_row ws o)
      over None q = unfold better in refl
      over (Some b) q = unfold better in (rw (same b q) (pick (beats_at ws weights b i)))
        where
          pick : (t : Bool) → found_row ws (cond t (Some b) (Some i)) ≡ cond t (found (block_at ws b)) (found (block_at ws i))
          pick true = refl
          pick false = refl

      turn : (b : Bool) → is_child lim a (block_at ws i) ≡ b
          → found_row ws (cond b (cond (beats_row ws weights best i) best (Some i)) best)
          ≡ cond b (better (weight_in ws n weights) (block_at ws i) (found_row ws best)) (found_row ws best)
      turn true q = over best l
      turn false q = refl

      go : (s : Bool) → is_in w ws i ≡ s
          → BestIs (weight_in ws n weights) lim a (blocks_of w ws (i + 1)) (found_row ws (cond (s && is_child lim a (block_at ws i)) (cond (beats_row ws weights best i) best (Some i)) best))
      go true s =
          rw (selected-in make_block w ws i (row_at make_block ws i) refl s, turn (is_child lim a (block_at ws i)) refl)
          (best-next (weight_in ws n weights) lim a (adds-end Block (block_at ws i) (blocks_of w ws i)) (found_row ws best) B)
      go false s = rw (selected-out make_block w ws i (row_at make_block ws i) refl s) B

  -- rows that are no children of the block at a
  pub best-skip : (a x i k : ℕ) (best : Option ℕ) → x ≡ (block_at ws a).number → a < n → i + k ≤ n → Within n best → ((j : ℕ) → i ≤ j → j < i + k → parent_row ws j ≡ a → ⊥)
      → BestIs (weight_in ws n weights) lim x (blocks_of w ws i) (found_row ws best) → BestIs (weight_in ws n weights) lim x (blocks_of w ws (i + k)) (found_row ws best)
  best-skip a x i zero best f h l b g B = let e : i + 0 ≡ i = omega arith in rw e B
  best-skip a x i (suc k) best f h l b g B =
      let e : i + suc k ≡ i + k + 1 = omega arith in
      rw e (best-turn x (i + k) best (best-skip a x i k best f h (omega arith) b (λ j p q. g j p (omega arith)) B) stays (omega arith) b)
    where
      no-child : is_child lim x (block_at ws (i + k)) ≡ false
      no-child = go (is_child lim x (block_at ws (i + k))) refl
        where
          go : (t : Bool) → is_child lim x (block_at ws (i + k)) ≡ t → t ≡ false
          go true q = absurd (g (i + k) (omega arith) (omega arith) (child-of a (i + k) h (omega arith) (rw f at (child-true lim x (block_at ws (i + k)) q))))
          go false q = refl

      stays : best ≡ better_row ws weights w lim x (i + k) best
      stays = go (is_in w ws (i + k)) refl
        where
          go : (t : Bool) → is_in w ws (i + k) ≡ t → best ≡ better_row ws weights w lim x (i + k) best
          go true q = better-other ws weights w lim x (i + k) best (row_at make_block ws (i + k)) refl q no-child
          go false q = better-hidden ws weights w lim x (i + k) best (row_at make_block ws (i + k)) refl q

  pub best-end : (a x : ℕ) (best : Option ℕ) → x ≡ (block_at ws a).number → BestIs (weight_in ws n weights) lim x (blocks_of w ws n) (found_row ws best)
      → best_child (weight_in ws n weights) lim (block_at ws a).number (blocks_of w ws n) ≡ found_row ws best
  best-end a x best f B =
      ap (λ (y : ℕ). best_child (weight_in ws n weights) lim y (blocks_of w ws n)) (sym f)
      ∙ best_of (weight_in ws n weights) H.sound lim x (found_row ws best) B

  -- ---- the walk

  pub way-start : Way w ws n weights lim 0
  way-start = record { inside = H.some; on = λ r t. subst (λ (x : ℕ). Walk (weight_in ws n weights) (blocks_of w ws n) lim r x) (ap (λ o. o.number) H.first) t }

  module _ (a : ℕ) (W : Way w ws n weights lim a) where
    -- the best child is at row c
    module _ (c : ℕ) (B : best_child (weight_in ws n weights) lim (block_at ws a).number (blocks_of w ws n) ≡ found (block_at ws c)) (l : c < n) where
      best-at : IsBest (weight_in ws n weights) (blocks_of w ws n) lim (block_at ws a).number (block_at ws c)
      best-at = rw B at (best-is (weight_in ws n weights) lim (block_at ws a).number (blocks_of w ws n))

      pub way-deeper : a < c
      way-deeper = child-after a c W.inside l best-at.child

      pub way_on : Way w ws n weights lim c
      way_on = record { inside = l; on = λ r t. W.on r (step (block_at ws c) best-at t) }

    -- there is none
    pub way_end : best_child (weight_in ws n weights) lim (block_at ws a).number (blocks_of w ws n) ≡ missing → (block_at ws a).number ≡ walk (weight_in ws n weights) (blocks_of w ws n) lim
    way_end e =
        sym (walk_of (weight_in ws n weights) H.sound lim (W.on (block_at ws a).number
        (stop refl (rw e at (best-is (weight_in ws n weights) lim (block_at ws a).number (blocks_of w ws n))))))
