-- The order of voters and slots: by voters, then by slots. Assumes nothing.
use Prim.Native.Nat.{ℕ, ◌≤◌, ◌<◌}
use mathlib.Core.Path.{◌≡◌, sym, ◌∙◌}
use mathlib.Core.Logic.{◌⊎◌, inl, inr}
use mathlib.Core.Bool.{Bool, true, false, ◌&&◌}
use native.Mathlib.Nat.{le_antisymm}
use native.Mathlib.Omega.{arith}
use lib.Dec.{ltb, eqb}
use borrow.Author.Tests.{ltb-true, ltb-false, lt-ltb, eq-eqb}
use Rattle.protocol.specs.Equivocation.{ranks_before}
use Rattle.protocol.proofs.Basics.Tests.{facts, both, either, or_left, or_right, clashing, not-passes}

pub lower-voter : (v s u t : ℕ) → v < u → ranks_before v s u t ≡ true
unfolding ranks_before
lower-voter v s u t h = or_left (ltb v u) _ (lt-ltb v u h)

pub earlier-slot : (v s u t : ℕ) → v ≡ u → s < t → ranks_before v s u t ≡ true
unfolding ranks_before
earlier-slot v s u t e h = or_right (ltb v u) _ (both (eq-eqb v u e) (lt-ltb s t h))

rank-cases : (v s u t : ℕ) → ranks_before v s u t ≡ true → (v < u) ⊎ ((v ≡ u) × (s < t))
unfolding ranks_before
rank-cases v s u t h = go (either (ltb v u) _ h)
  where
    go : (ltb v u ≡ true) ⊎ ((eqb v u && ltb s t) ≡ true) → (v < u) ⊎ ((v ≡ u) × (s < t))
    go (inl e) = inl (ltb-true v u e)
    go (inr e) = inr (search facts)

pub rank-trans : (v s u t w r : ℕ) → ranks_before v s u t ≡ true → ranks_before u t w r ≡ true → ranks_before v s w r ≡ true
rank-trans v s u t w r h k = go (rank-cases v s u t h) (rank-cases u t w r k)
  where
    go : (v < u) ⊎ ((v ≡ u) × (s < t)) → (u < w) ⊎ ((u ≡ w) × (t < r)) → ranks_before v s w r ≡ true
    go (inl a) (inl b) = lower-voter v s w r (omega arith)
    go (inl a) (inr b) = lower-voter v s w r (omega arith)
    go (inr a) (inl b) = lower-voter v s w r (omega arith)
    go (inr a) (inr b) = earlier-slot v s w r (a.0 ∙ b.0) (omega arith)

pub rank-irrefl : (v s : ℕ) → ranks_before v s v s ≡ true → ⊥
rank-irrefl v s h = go (rank-cases v s v s h)
  where
    go : (v < v) ⊎ ((v ≡ v) × (s < s)) → ⊥
    go (inl a) = omega arith
    go (inr a) = omega arith

-- one of two ranks before the other, or they are the same
pub rank_same : (v s u t : ℕ) → ranks_before v s u t ≡ false → ranks_before u t v s ≡ false → (v ≡ u) × (s ≡ t)
rank_same v s u t h k =
    let e : v ≡ u = le_antisymm (below u v (lower-voter u t v s) k) (below v u (lower-voter v s u t) h) in
    (e, le_antisymm (below t s (earlier-slot u t v s (sym e)) k) (below s t (earlier-slot v s u t e) h))
  where
    below : {b : Bool} (x y : ℕ) → (x < y → b ≡ true) → b ≡ false → y ≤ x
    below x y f n = ltb-false x y (not-passes (λ l. clashing (f (ltb-true x y l)) n))
