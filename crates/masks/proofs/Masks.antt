-- Laws of voters' words: union, what two have in common, the others, one voter more, the bits of a word, and its number of ones as a count.
-- Assumes nothing.
use Prim.Native.Nat.{ℕ, zero, suc, ◌+◌, ◌-◌, ◌*◌, ◌/◌, ◌%◌, ◌^◌, ◌≤◌, ◌<◌, max, min}
use mathlib.Core.Bool.{Bool, true, false, not, ◌&&◌, ◌||◌, cond}
use mathlib.Core.Path.{◌≡◌, refl, sym, ap, ◌∙◌, fun_ext}
use native.Mathlib.Nat.{pow-suc, div-div-eq-div-mul, mul_comm, div-one, one-mul, mod-eq_of_lt, div-eq_of_lt, div-le_self, le-div_iff_mul-le, one-le-pow, lt_of_lt_of_le, lt_of_le_of_lt}
use native.Mathlib.Omega.{arith}
use lib.Pow.{pow-lt, pow_mono, pow-add}
use lib.Dec.{eqb, ltb, leb, eqb-suc-zero, eqb-suc-suc, eqb-zero-suc}
use lib.Arith.{lt-one}
use borrow.Author.Tests.{ltb-true, lt-ltb, leb-true, le-leb, lt-leb, eqb-false, ne_eqb, not-true}
use Rattle.protocol.proofs.Basics.Tests.{same_test}
use lib.Bits.{bit_and, bit_or, and_step, or_step}
use lib.Count.{ones, ones_step}
use Rattle.protocol.specs.Walk.{count_below}
use Rattle.protocol.specs.Words.{bit_of}
use Rattle.masks.specs.Masks.{mask_of, added}

bit-lt : (b : Bool) → cond b 1 0 < 2
bit-lt true = omega arith
bit-lt false = omega arith

-- the lowest bit, and the rest
mask_low : (k : ℕ) (p : ℕ → Bool) → mask_of (suc k) p % 2 ≡ cond (p 0) 1 0
unfolding mask_of
mask_low k p = omega (arith, bit-lt (p 0))

mask-high : (k : ℕ) (p : ℕ → Bool) → mask_of (suc k) p / 2 ≡ mask_of k (λ i. p (suc i))
unfolding mask_of
mask-high k p = omega (arith, bit-lt (p 0))

-- counted from the lowest
count_low : (p : ℕ → Bool) (k : ℕ) → count_below p (suc k) ≡ cond (p 0) 1 0 + count_below (λ i. p (suc i)) k
unfolding count_below
count_low p zero = go (p 0)
  where
    go : (b : Bool) → cond b 1 0 ≡ cond b 1 0 + 0
    go true = refl
    go false = refl
count_low p (suc k) = go (p (suc k)) (count_below p (suc k)) (count_below (λ i. p (suc i)) k) (count_low p k)
  where
    go : (b : Bool) (x y : ℕ) → x ≡ cond (p 0) 1 0 + y → cond b (suc x) x ≡ cond (p 0) 1 0 + cond b (suc y) y
    go true x y e = omega arith
    go false x y e = e

-- the number of ones is the number of voters
pub ones-mask : (k : ℕ) (p : ℕ → Bool) → ones (mask_of k p) ≡ count_below p k
unfolding mask_of count_below ones
ones-mask zero p = refl
ones-mask (suc k) p =
    ones_step (mask_of (suc k) p) ∙ rw (mask_low, mask-high, ones-mask k (λ i. p (suc i))) (sym (count_low p k))

max-bit : (a b : Bool) → max (cond a 1 0) (cond b 1 0) ≡ cond (a || b) 1 0
max-bit true true = refl
max-bit true false = refl
max-bit false true = refl
max-bit false false = refl

-- the union of two sets
pub or-mask : (k : ℕ) (p q : ℕ → Bool) → bit_or (mask_of k p) (mask_of k q) ≡ mask_of k (λ i. p i || q i)
unfolding mask_of
or-mask zero p q = refl
or-mask (suc k) p q =
    or_step (mask_of (suc k) p) (mask_of (suc k) q)
    ∙ rw (mask_low k p, mask_low k q, mask-high k p, mask-high k q, max-bit, or-mask k (λ i. p (suc i)) (λ i. q (suc i)))

min-bit : (a b : Bool) → min (cond a 1 0) (cond b 1 0) ≡ cond (a && b) 1 0
min-bit true true = refl
min-bit true false = refl
min-bit false true = refl
min-bit false false = refl

-- what two sets have in common
pub and_mask : (k : ℕ) (p q : ℕ → Bool) → bit_and (mask_of k p) (mask_of k q) ≡ mask_of k (λ i. p i && q i)
unfolding mask_of
and_mask zero p q = refl
and_mask (suc k) p q =
    and_step (mask_of (suc k) p) (mask_of (suc k) q)
    ∙ rw (mask_low k p, mask_low k q, mask-high k p, mask-high k q, min-bit, and_mask k (λ i. p (suc i)) (λ i. q (suc i)))

not-bit : (b : Bool) → cond b 1 0 + cond (not b) 1 0 ≡ 1
not-bit true = refl
not-bit false = refl

-- a set and all others
mask-sum : (k : ℕ) (p : ℕ → Bool) → mask_of k p + mask_of k (λ i. not (p i)) + 1 ≡ 2 ^ k
unfolding mask_of
mask-sum zero p = refl
mask-sum (suc k) p =
    let h = mask-sum k (λ i. p (suc i)) in
    let b = not-bit (p 0) in
    rw pow-suc (omega (arith, h, b))

-- `!` as the machine has it
pub mask-not : (k : ℕ) (p : ℕ → Bool) → 2 ^ k - 1 - mask_of k p ≡ mask_of k (λ i. not (p i))
mask-not k p = omega (arith, mask-sum k p)

-- bit i + 1 of m is bit i of its half
bit-half : (m i : ℕ) → bit_of m (suc i) ≡ bit_of (m / 2) i
bit-half m i =
    let e : m / 2 ^ suc i ≡ m / 2 / 2 ^ i = rw (pow-suc, mul_comm (2 ^ i) 2) (sym (div-div-eq-div-mul m 2 (2 ^ i))) in
    rw e

-- the lowest bit as a test
bit-back : (r : ℕ) → r < 2 → cond (eqb r 1) 1 0 ≡ r
bit-back zero h = refl
bit-back (suc zero) h = refl
bit-back (suc (suc r)) h = absurd (omega arith)

bit-low : (m : ℕ) → cond (bit_of m 0) 1 0 ≡ m % 2
bit-low m = rw div-one (bit-back (m % 2) (omega arith))

-- a number below 2 ^ k is the mask of its bits
pub mask-bits : (k m : ℕ) → m < 2 ^ k → mask_of k (bit_of m) ≡ m
unfolding mask_of
mask-bits zero m h = sym (lt-one h)
mask-bits (suc k) m h =
    let e : ◌≡◌ {A = ℕ → Bool} (λ i. bit_of m (suc i)) (bit_of (m / 2)) = fun_ext (λ i. bit-half m i) in
    let h' : m < 2 ^ k * 2 = rw pow-suc at h in
    let l : m / 2 < 2 ^ k = omega arith in
    rw (e, mask-bits k (m / 2) l, bit-low) (omega arith)

pub mask-none : (k : ℕ) → mask_of k (λ i. false) ≡ 0
unfolding mask_of
mask-none zero = refl
mask-none (suc k) = rw (mask-none k)

-- one bit alone
mask_one : (k v : ℕ) → v < k → mask_of k (λ i. eqb i v) ≡ 2 ^ v
unfolding mask_of
mask_one zero v h = absurd (omega arith)
mask_one (suc k) zero h =
    let e : ◌≡◌ {A = ℕ → Bool} (λ i. eqb (suc i) 0) (λ i. false) = fun_ext (λ i. eqb-suc-zero i) in
    rw (e, mask-none k)
mask_one (suc k) (suc v) h =
    let e : ◌≡◌ {A = ℕ → Bool} (λ i. eqb (suc i) (suc v)) (λ i. eqb i v) = fun_ext (λ i. eqb-suc-suc i v) in
    rw (e, mask_one k v (omega arith), eqb-zero-suc v, pow-suc) (omega arith)

-- tests that agree below k have one mask
pub mask-ext : (k : ℕ) (p q : ℕ → Bool) → ((i : ℕ) → i < k → p i ≡ q i) → mask_of k p ≡ mask_of k q
unfolding mask_of
mask-ext zero p q h = refl
mask-ext (suc k) p q h =
    rw (mask-ext k (λ i. p (suc i)) (λ i. q (suc i)) (λ i l. h (suc i) (omega arith)), h 0 (omega arith))

-- one voter more
pub mask-with : (k : ℕ) (p : ℕ → Bool) (v : ℕ) → v < k → bit_or (mask_of k p) (2 ^ v) ≡ mask_of k (added p v)
mask-with k p v h = rw (← mask_one k v h) (or-mask k p (λ i. eqb i v))

-- bit v of a mask
pub bit_mask : (k : ℕ) (p : ℕ → Bool) (v : ℕ) → v < k → bit_of (mask_of k p) v ≡ p v
bit_mask zero p v h = absurd (omega arith)
bit_mask (suc k) p zero h = rw (div-one, mask_low) (go (p 0))
  where
    go : (b : Bool) → eqb (cond b 1 0) 1 ≡ b
    go true = refl
    go false = refl
bit_mask (suc k) p (suc v) h = bit-half (mask_of (suc k) p) v ∙ rw mask-high (bit_mask k (λ i. p (suc i)) v (omega arith))

-- `1 << v` as the machine has it
pub shl_one : (v : ℕ) → v < 64 → 1 * 2 ^ v % 2 ^ 64 ≡ 2 ^ v
shl_one v h = rw one-mul (mod-eq_of_lt (pow-lt h))

-- a voter other than k is below k + 1 if it is below k
pub below_more : (v k : ℕ) → (v ≡ k → ⊥) → ltb v (k + 1) ≡ ltb v k
below_more v k q =
    same_test (ltb v (k + 1)) (ltb v k) (λ z. let a = ltb-true v (k + 1) z in lt-ltb v k (omega arith))
    (λ z. let a = ltb-true v k z in lt-ltb v (k + 1) (omega arith))

-- ---- the voters from n on

bit-rest : (m n i : ℕ) → bit_of m (n + i) ≡ bit_of (m / 2 ^ n) i
bit-rest m n i =
    let e : m / 2 ^ (n + i) ≡ m / 2 ^ n / 2 ^ i = rw pow-add (sym (div-div-eq-div-mul m (2 ^ n) (2 ^ i))) in
    rw e

-- a set that is a number below 2 ^ n has none of them
pub none_from : (n m v : ℕ) → m < 2 ^ n → n ≤ v → bit_of m v ≡ false
none_from n m v h l =
    let e : m / 2 ^ v ≡ 0 = div-eq_of_lt (lt_of_lt_of_le h (pow_mono l)) in
    rw e

-- and any other set has one
pub some-from : (n m k : ℕ) → 2 ^ n ≤ m → m < 2 ^ k → ((v : ℕ) → n ≤ v → bit_of m v ≡ false) → ⊥
some-from n m k h l f =
    let e : mask_of k (bit_of (m / 2 ^ n)) ≡ 0 = mask-ext k (bit_of (m / 2 ^ n)) (λ i. false) (λ i q. sym (bit-rest m n i) ∙ f (n + i) (omega arith)) ∙ mask-none k in
    let z : m / 2 ^ n ≡ 0 = sym (mask-bits k (m / 2 ^ n) (lt_of_le_of_lt (div-le_self m (2 ^ n)) l)) ∙ e in
    let p : 1 ≤ m / 2 ^ n = (le-div_iff_mul-le (one-le-pow n 2 (omega arith))).1 (rw one-mul h) in
    omega arith

-- whether it has one, by its rest above bit n, or for a word without looking
pub from-word : (n m : ℕ) → not (eqb (m / 2 ^ n) 0) ≡ leb (2 ^ n) m
from-word n m =
    same_test (not (eqb (m / 2 ^ n) 0)) (leb (2 ^ n) m)
    (λ e. le-leb (2 ^ n) m (rw one-mul at ((le-div_iff_mul-le (one-le-pow n 2 (omega arith))).0 (not-zero (m / 2 ^ n) (eqb-false (m / 2 ^ n) 0 (not-true (eqb (m / 2 ^ n) 0) e))))))
    (λ e. ap not (ne_eqb (m / 2 ^ n) 0 (λ z. absurd (omega (arith, z, some (leb-true (2 ^ n) m e))))))
  where
    not-zero : (x : ℕ) → (x ≡ 0 → ⊥) → 1 ≤ x
    not-zero zero f = absurd (f refl)
    not-zero (suc x) f = omega arith

    some : 2 ^ n ≤ m → 1 ≤ m / 2 ^ n
    some h = (le-div_iff_mul-le (one-le-pow n 2 (omega arith))).1 (rw one-mul h)

pub from-none : (n m : ℕ) → m < 2 ^ 64 → 64 ≤ n → false ≡ leb (2 ^ n) m
from-none n m h l = sym (lt-leb (2 ^ n) m (lt_of_lt_of_le h (pow_mono l)))
