-- A field byte by byte, one more at each turn. Assumes nothing.
use Prim.Native.Nat.{ℕ, zero, suc, ◌+◌, ◌*◌, ◌%◌, ◌^◌, ◌<◌, ◌≤◌}
use mathlib.Core.Path.{◌≡◌, refl, ap, ◌∙◌}
use mathlib.Core.List.{List}
use native.Mathlib.Nat.{pow-succ', mul_assoc, mul_comm, mul-le-mul_left, mul-le-mul_right, mod-eq_of_lt, pow-le-pow_right}
use native.Mathlib.Omega.{arith}
use lib.ListN.{get_or}
use Rattle.std.specs.Int.Bits.{bit_or, or_shifted_r}
use Rattle.protocol.specs.Words.{from_halves}
use Rattle.protocol.specs.Packet.{number_of, number_at}
use Rattle.packets.specs.Sections.{field_low}

pub field_none : (bs : List ℕ) (at : ℕ) → number_at bs at 0 ≡ 0
unfolding number_at number_of
field_none bs at = refl

pub field-one : (bs : List ℕ) (at : ℕ) → number_at bs at 1 ≡ get_or bs at 0
field-one bs at = rw (field_low bs at 0, field_none bs (suc at)) (omega arith)

-- a field is its first bytes and then the others
pub field-parts : (m n at : ℕ) (bs : List ℕ) → number_at bs at (m + n) ≡ number_at bs at m + 256 ^ m * number_at bs (at + m) n
field-parts zero n at bs =
    let size : 0 + n ≡ n = omega arith in
    let position : at + 0 ≡ at = omega arith in
    rw (size, position, field_none bs at) (omega arith)
field-parts (suc m) n at bs =
    let size : suc m + n ≡ suc (m + n) = omega arith in
    let position : at + suc m ≡ suc at + m = omega arith in
    let p : 256 ^ suc m * number_at bs (suc at + m) n ≡ 256 * (256 ^ m * number_at bs (suc at + m) n)
    = ap (λ (k : ℕ). k * number_at bs (suc at + m) n) (pow-succ' 256 m) ∙ mul_assoc 256 (256 ^ m) (number_at bs (suc at + m) n) in
    rw (size, position, field_low bs at (m + n), field_low bs at m, field-parts m n (suc at) bs) (omega (arith, p))

-- the lower half of a number, and then its upper half; of 8 bytes the upper half has none
pub field-halves : (h at : ℕ) (bs : List ℕ) → number_at bs at (8 + h) ≡ from_halves (number_at bs at 8) (number_at bs (at + 8) h)
unfolding from_halves
field-halves h at bs = field-parts 8 h at bs

eight_more : (k : ℕ) → 2 ^ suc (suc (suc (suc (suc (suc (suc (suc k))))))) ≡ 256 * 2 ^ k
eight_more k = simp pow-succ' (omega arith)

bytes_bits : (i : ℕ) → 2 ^ (8 * i) ≡ 256 ^ i
bytes_bits zero = refl
bytes_bits (suc i) =
    let e : 8 * suc i ≡ suc (suc (suc (suc (suc (suc (suc (suc (8 * i)))))))) = omega arith in
    rw (e, eight_more (8 * i), bytes_bits i, pow-succ' 256 i) refl

-- one byte more: b shifted to its place, and the others before it
module _ (i sum b : ℕ) (most : i < 8) (below : sum < 256 ^ i) (byte : b < 256) where
  joined : bit_or sum (b * 2 ^ (8 * i) % 18446744073709551616) ≡ sum + 256 ^ i * b
  joined =
      let place : b * 2 ^ (8 * i) ≡ b * 256 ^ i = ap (λ (k : ℕ). b * k) (bytes_bits i) in
      let most_sum : b * 256 ^ i ≤ 255 * 256 ^ i = mul-le-mul_right (256 ^ i) (omega arith) in
      let word : 256 ^ suc i ≤ 256 ^ 8 = pow-le-pow_right {n = 256} (omega arith) {j = 8} (omega arith) in
      let fits : b * 2 ^ (8 * i) < 18446744073709551616 = omega (arith, place, most_sum, word, pow-succ' 256 i, below) in
      let under : sum < 2 ^ (8 * i) = omega (arith, below, bytes_bits i) in
      ap (bit_or sum) (mod-eq_of_lt fits) ∙ or_shifted_r b (8 * i) sum under ∙ omega (arith, place, mul_comm b (256 ^ i))

  pub field-next-below : bit_or sum (b * 2 ^ (8 * i) % 18446744073709551616) < 256 ^ (i + 1)
  field-next-below =
      let next : i + 1 ≡ suc i = omega arith in
      let most_sum : 256 ^ i * b ≤ 256 ^ i * 255 = mul-le-mul_left (256 ^ i) (omega arith) in
      rw (joined, next, pow-succ' 256 i) (omega (arith, most_sum, below))

  pub field-next : (bs : List ℕ) (at : ℕ) → sum ≡ number_at bs at i → b ≡ get_or bs (at + i) 0 → bit_or sum (b * 2 ^ (8 * i) % 18446744073709551616) ≡ number_at bs at (i + 1)
  field-next bs at e f = rw (field-parts i 1 at bs, field-one bs (at + i), ← e, ← f, joined) refl
