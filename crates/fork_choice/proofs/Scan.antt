-- The search for the heaviest child along the linked children of a row: rows between two of them are passed over. Assumes nothing.
use Prim.Native.Nat.{ℕ, ◌+◌, ◌-◌, ◌≤◌, ◌<◌}
use mathlib.Core.Bool.{Bool, cond}
use Rattle.std.specs.Prelude.{Option, None}
use mathlib.Core.List.{List}
use mathlib.Core.Path.{◌≡◌}
use native.Mathlib.Decide.{ℕ_discrete}
use native.Mathlib.Omega.{arith}
use lib.Dec.{eqb}
use borrow.Author.Tests.{eq-eqb, ne_eqb}
use Rattle.protocol.specs.Walk.{best_child}
use Rattle.protocol.proofs.Walk.Best.{BestIs}
use Rattle.subtree_voters.specs.BlockRows.{block_at, blocks_of, parent_row}
use Rattle.fork_choice.specs.declared.Kin.{Kin}
use Rattle.fork_choice.specs.Walks.{weight_in, Within, found_row, better_row}
use Rattle.fork_choice.specs.Children.{child_at, next_at, NextChild, Linked}
use Rattle.fork_choice.proofs.Held.{Held}
use Rattle.fork_choice.proofs.Best.{better-within, best-start, best-turn, best-skip, best-end}

-- `best` is the best of the children of the block at a in the rows before `from`, and c is the next child; x is the block's number
pub record Scan (w : Bool) (ws : List ℕ) (n : ℕ) (weights : List ℕ) (lim a x c : ℕ) (best : Option ℕ) : Type 0 where
  pub from : ℕ
  pub some : 0 < from
  pub within : from ≤ n
  pub low : Within n best
  pub next : NextChild (λ i. parent_row ws i) n a from c
  pub is : BestIs (weight_in ws n weights) lim x (blocks_of w ws from) (found_row ws best)

-- how many rows are left from child c on
abbrev pub left : ℕ → ℕ → ℕ
left n c = cond (eqb c 0) 0 (n - c)

module _ {ws : List ℕ} {n : ℕ} {kin : List Kin} (L : Linked (λ i. parent_row ws i) n 1 kin) {w : Bool} {weights : List ℕ} {lim a x : ℕ} where
  -- the next child stands after child c
  pub scan-less : {c d : ℕ} {best : Option ℕ} → Scan w ws n weights lim a x c best → (c ≡ 0 → ⊥) → d ≡ next_at kin c → left n d < left n c
  scan-less {c} {d} S z g = go (ℕ_discrete d 0)
    where
      t : (S.from ≤ c) × (c < n) × (parent_row ws c ≡ a)
      t = S.next.hit z

      N : NextChild (λ i. parent_row ws i) n (parent_row ws c) (c + 1) d
      N = rw g (L.next c (omega (arith, S.some, t.0)) t.1)

      go : Dec (d ≡ 0) → left n d < left n c
      go (yes q) = rw (eq-eqb d 0 q, ne_eqb c 0 z) (omega (arith, t.1))
      go (no q) = rw (ne_eqb d 0 q, ne_eqb c 0 z) (omega (arith, (N.hit q).0, (N.hit q).1))

  module _ (H : Held w ws n) (f : x ≡ (block_at ws a).number) (h : a < n) where
    pub scan-start : {c : ℕ} → c ≡ child_at kin a → Scan w ws n weights lim a x c None
    scan-start e = record { from = 1; some = omega arith; within = H.some; low = tt; next = rw e (L.first a h); is = best-start H weights lim x }

    module _ {c : ℕ} {best : Option ℕ} (S : Scan w ws n weights lim a x c best) where
      pub scan-turn : {d : ℕ} {r : Option ℕ} → (c ≡ 0 → ⊥) → r ≡ better_row ws weights w lim x c best → d ≡ next_at kin c → Scan w ws n weights lim a x d r
      scan-turn z e g =
          let t = S.next.hit z in
          let p : 0 < c = omega (arith, S.some, t.0) in
          let q : S.from + (c - S.from) ≡ c = omega (arith, t.0) in
          record {
            from = c + 1;
            some = omega arith;
            within = omega (arith, t.1);
            low = rw e (better-within ws weights w lim x c n best t.1 S.low);
            next = rw (g, ← t.2) (L.next c p t.1);
            is = best-turn H weights lim x c best
                (rw q at (best-skip H weights lim a x S.from (c - S.from) best f h (omega (arith, t.0, t.1)) S.low
                (λ j i k r. let m = S.next.none j i (omega (arith, t.0, t.1)) r in omega (arith, m.1, t.0)) S.is))
                e t.1 S.low;
          }

      pub scan-end : c ≡ 0 → best_child (weight_in ws n weights) lim (block_at ws a).number (blocks_of w ws n) ≡ found_row ws best
      scan-end z =
          let e : S.from + (n - S.from) ≡ n = omega (arith, S.within) in
          best-end H weights lim a x best f
          (rw e at (best-skip H weights lim a x S.from (n - S.from) best f h (omega (arith, S.within)) S.low
          (λ j p q r. (S.next.none j p (omega (arith, S.within)) r).0 z) S.is))
