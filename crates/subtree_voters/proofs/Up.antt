-- One step of handing voters to the parents' rows, from the last row down: what is at row j once row i has handed on is what was there before,
-- and, where j is the row of i's parent, what was at row i. Assumes nothing.
use Prim.Native.Nat.{ℕ, zero, suc, ◌+◌, ◌≤◌, ◌<◌}
use mathlib.Core.Bool.{false, ◌||◌, ◌&&◌, and-true, and-false, or_assoc, or-false}
use mathlib.Core.Path.{◌≡◌, refl, sym}
use native.Mathlib.Omega.{arith}
use native.Mathlib.Decide.{dec_lt}
use borrow.Author.Tests.{le-leb, lt-leb, eq-eqb, ne_eqb}
use lib.Dec.{eqb, leb}
use Rattle.subtree_voters.specs.Subtrees.{up_to}

module _ (up : ℕ → ℕ) (lower : (x : ℕ) → 0 < x → up x < x) where
  -- from below i no step is taken
  pub up-low : (f i j x : ℕ) → x < i → up_to up f i j x ≡ eqb x j
  unfolding up_to
  up-low zero i j x h = refl
  up-low (suc f) i j x h = rw (lt-leb i x h) (or-false (eqb x j))

  pub up_step : (f i j x : ℕ) → 0 < i → x ≤ f → up_to up f i j x ≡ (up_to up f (i + 1) j x || (eqb (up i) j && up_to up f (i + 1) i x))
  unfolding up_to
  up_step zero i j x p h =
      let e : eqb x i ≡ false = ne_eqb x i (λ q. omega arith) in
      rw (e, and-false (eqb (up i) j), or-false (eqb x j))
  up_step (suc f) i j x p h = go (λ q. up_step f i j (up x) p q) (dec_lt x i) (dec_lt i x)
    where
      go : (up x ≤ f → up_to up f i j (up x) ≡ (up_to up f (i + 1) j (up x) || (eqb (up i) j && up_to up f (i + 1) i (up x))))
          → Dec (x < i) → Dec (i < x) → (eqb x j || (leb i x && up_to up f i j (up x)))
          ≡ ((eqb x j || (leb (i + 1) x && up_to up f (i + 1) j (up x))) || (eqb (up i) j && (eqb x i || (leb (i + 1) x && up_to up f (i + 1) i (up x)))))
      go rec (yes l) d =
          let e : eqb x i ≡ false = ne_eqb x i (λ q. omega arith) in
          let m : x < i + 1 = omega arith in
          rw (lt-leb i x l, lt-leb (i + 1) x m, e, and-false (eqb (up i) j), or-false (eqb x j), or-false (eqb x j))
      go rec (no l) (yes m) =
          let e : eqb x i ≡ false = ne_eqb x i (λ q. omega arith) in
          let a : i ≤ x = omega arith in
          let b : i + 1 ≤ x = omega arith in
          let d : up x ≤ f = omega (arith, lower x (omega arith)) in
          rw (le-leb i x a, le-leb (i + 1) x b, e, rec d) (sym (or_assoc (eqb x j) (up_to up f (i + 1) j (up x)) (eqb (up i) j && up_to up f (i + 1) i (up x))))
      go rec (no l) (no m) =
          let q : x ≡ i = omega arith in
          let b : i < i + 1 = omega arith in
          let a : i ≤ i = omega arith in
          let d : up i < i = lower i p in
          rw (q, le-leb i i a, lt-leb (i + 1) i b, eq-eqb i i refl, up-low f i j (up i) d, or-false (eqb i j), and-true (eqb (up i) j))
