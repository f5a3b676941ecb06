-- A number's bytes are those of its lower half and then those of its upper half, for either width: with 8 bytes the upper half has none.
-- Assumes nothing.
use Prim.Native.Nat.{ℕ, zero, suc, ◌+◌, ◌*◌, ◌/◌, ◌%◌, ◌^◌, ◌<◌}
use mathlib.Core.Path.{◌≡◌, ap, ◌∙◌}
use mathlib.Core.List.{List, ◌∷◌, ◌++◌}
use native.Mathlib.Nat.{pow-succ', mul_assoc}
use native.Mathlib.Omega.{arith}
use Rattle.protocol.specs.Words.{from_halves}
use Rattle.protocol.specs.Packet.{bytes_of}

bytes-part : (k h a b : ℕ) → a < 256 ^ k → bytes_of (k + h) (a + 256 ^ k * b) ≡ bytes_of k a ++ bytes_of h b
unfolding bytes_of
bytes-part zero h a b l =
    let e : 0 + h ≡ h = omega arith in
    let f : a + 256 ^ 0 * b ≡ b = omega arith in
    rw (e, f)
bytes-part (suc k) h a b l =
    let p : 256 ^ suc k * b ≡ 256 * (256 ^ k * b) = ap (λ (n : ℕ). n * b) (pow-succ' 256 k) ∙ mul_assoc 256 (256 ^ k) b in
    let e : suc k + h ≡ suc (k + h) = omega arith in
    let low : (a + 256 ^ suc k * b) % 256 ≡ a % 256 = omega arith in
    let high : (a + 256 ^ suc k * b) / 256 ≡ a / 256 + 256 ^ k * b = omega arith in
    let m : a / 256 < 256 ^ k = omega (arith, pow-succ' 256 k) in
    rw (e, low, high) (ap (λ (t : List ℕ). a % 256 ∷ t) (bytes-part k h (a / 256) b m))

pub bytes_halves : (h a b : ℕ) → a < 2 ^ 64 → bytes_of (8 + h) (from_halves a b) ≡ bytes_of 8 a ++ bytes_of h b
unfolding from_halves
bytes_halves h a b l = bytes-part 8 h a b l
