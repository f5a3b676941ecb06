-- Numbers as two halves: both ways, and compared by the upper half first. Assumes nothing.
use Prim.Native.Nat.{ℕ, suc, ◌*◌, ◌^◌, ◌<◌}
use mathlib.Core.Path.{◌≡◌}
use mathlib.Core.Bool.{false}
use native.Mathlib.Nat.{lt_of_lt_of_le, mul-le-mul_left}
use native.Mathlib.Omega.{arith}
use lib.Dec.{eqb, ltb}
use borrow.Author.Tests.{eqb-true, ltb-true, eq-eqb, ne_eqb, lt-ltb}
use Rattle.protocol.specs.Words.{from_halves, lower_of, upper_of}
use Rattle.protocol.proofs.Basics.Tests.{same_test}

pub join-halves : (n : ℕ) → from_halves (lower_of n) (upper_of n) ≡ n
unfolding from_halves lower_of upper_of
join-halves n = omega arith

pub lower-join : (a b : ℕ) → a < 2 ^ 64 → lower_of (from_halves a b) ≡ a
unfolding from_halves lower_of
lower-join a b h = omega arith

pub upper-join : (a b : ℕ) → a < 2 ^ 64 → upper_of (from_halves a b) ≡ b
unfolding from_halves upper_of
upper-join a b h = omega arith

pub lower-below : (n : ℕ) → lower_of n < 2 ^ 64
unfolding lower_of
lower-below n = omega arith

-- two words make a number of 128 bits
pub join-below : (a b : ℕ) → a < 2 ^ 64 → b < 2 ^ 64 → from_halves a b < 2 ^ 128
unfolding from_halves
join-below a b h l = lt_of_lt_of_le {m = 2 ^ 64 * suc b} (omega arith) (mul-le-mul_left (2 ^ 64) l)

-- ---- two numbers, by their halves

module _ (a b c d : ℕ) where
  -- the upper halves are the same
  pub same-upper : b ≡ d → eqb a c ≡ eqb (from_halves a b) (from_halves c d)
  same-upper e = same_test _ _ (λ p. eq-eqb _ _ (to (eqb-true a c p))) (λ p. eq-eqb _ _ (from (eqb-true (from_halves a b) (from_halves c d) p)))
    where
      to : a ≡ c → from_halves a b ≡ from_halves c d
      to q = unfold from_halves in omega arith

      from : from_halves a b ≡ from_halves c d → a ≡ c
      from q = unfold from_halves in omega arith

  pub below-upper : b ≡ d → ltb a c ≡ ltb (from_halves a b) (from_halves c d)
  below-upper e = same_test _ _ (λ p. lt-ltb _ _ (to (ltb-true a c p))) (λ p. lt-ltb _ _ (from (ltb-true (from_halves a b) (from_halves c d) p)))
    where
      to : a < c → from_halves a b < from_halves c d
      to q = unfold from_halves in omega arith

      from : from_halves a b < from_halves c d → a < c
      from q = unfold from_halves in omega arith

  -- or not, and the lower halves are words
  module _ (h : a < 2 ^ 64) (l : c < 2 ^ 64) where
    pub join-injective : from_halves a b ≡ from_halves c d → (a ≡ c) × (b ≡ d)
    unfolding from_halves
    join-injective e = (omega arith, omega arith)

    pub other-upper : (b ≡ d → ⊥) → eqb (from_halves a b) (from_halves c d) ≡ false
    other-upper n = ne_eqb _ _ (λ e. n (join-injective e).1)

    pub below_other : (b ≡ d → ⊥) → ltb b d ≡ ltb (from_halves a b) (from_halves c d)
    below_other n = same_test _ _ (λ p. lt-ltb _ _ (to (ltb-true b d p))) (λ p. lt-ltb _ _ (from (ltb-true (from_halves a b) (from_halves c d) p)))
      where
        to : b < d → from_halves a b < from_halves c d
        to q = unfold from_halves in omega arith

        from : from_halves a b < from_halves c d → b < d
        from q = unfold from_halves in omega (arith, n)

-- ---- a number of one word

pub join-narrow : (a : ℕ) → from_halves a 0 ≡ a
unfolding from_halves
join-narrow a = omega arith
