-- Bytes written at a position, one behind the other, and into the lent rest of a buffer. Assumes nothing.
use Prim.Native.Nat.{ℕ, suc, ◌+◌, ◌-◌, ◌/◌, ◌%◌, ◌^◌, ◌<◌, ◌≤◌}
use mathlib.Core.Path.{◌≡◌, refl, ◌∙◌}
use mathlib.Core.List.{List, [], ◌∷◌, ◌++◌, append_assoc, append-nil}
use native.Mathlib.Nat.{le_of_eq}
use native.Mathlib.Omega.{arith}
use lib.ListN.{length, set, take, drop, length-append, length-drop, drop_of_length-le}
use lib.Seq.{sets, sets-eq, drop-drop, take_at, drop_at, take_all}
use Rattle.protocol.specs.Words.{from_halves}
use Rattle.protocol.specs.Packet.{bytes_of}
use Rattle.protocol.specs.Calls.Write.{over}
use Rattle.protocol.proofs.Packet.Numbers.{le-length}
use Rattle.protocol.proofs.Packet.Halves.{bytes_halves}

-- ---- a number byte by byte

pub number-turn : (ys : List ℕ) (at width i n : ℕ) → i < width
    → sets ys (at + i) (bytes_of (width - i) n) ≡ sets (set ys (at + i) (n % 256)) (at + (i + 1)) (bytes_of (width - (i + 1)) (n / 256))
unfolding bytes_of
number-turn ys at width i n h =
    let more : width - i ≡ suc (width - (i + 1)) = omega arith in
    let next : suc (at + i) ≡ at + (i + 1) = omega arith in
    rw (more, ← next)

pub number-end : (ys : List ℕ) (at width i n : ℕ) → width ≤ i → sets ys (at + i) (bytes_of (width - i) n) ≡ ys
unfolding bytes_of
number-end ys at width i n h = let none : width - i ≡ 0 = omega arith in rw none

-- ---- one behind the other

pub sets_behind : (ys : List ℕ) (at n : ℕ) (xs zs : List ℕ) → length xs ≡ n → sets (sets ys at xs) (at + n) zs ≡ sets ys at (xs ++ zs)
sets_behind ys at n [] zs e = let none : at + n ≡ at = omega arith in rw none
sets_behind ys at n (x ∷ xs) zs e =
    let sum : at + n ≡ suc at + length xs = omega arith in
    rw sum (sets_behind (set ys at x) (suc at) (length xs) xs zs refl)

-- the lower half of a number, and then its upper half
pub halves-behind : (lower half upper at : ℕ) (ys us zs : List ℕ) → lower < 2 ^ 64 → us ≡ sets ys at (bytes_of 8 lower) → zs ≡ sets us (at + 8) (bytes_of upper half)
    → zs ≡ sets ys at (bytes_of (8 + upper) (from_halves lower half))
halves-behind lower half upper at ys us zs h e f =
    f ∙ rw (e, bytes_halves upper lower half h) (sets_behind ys at 8 (bytes_of 8 lower) (bytes_of upper half) (le-length 8 lower))

-- three fields, of which the first two take m and n bytes
pub three-behind : (m n at : ℕ) (a b c ys us vs zs : List ℕ) → length a ≡ m → length b ≡ n → us ≡ sets ys at a → vs ≡ sets us (at + m) b → zs ≡ sets vs (at + (m + n)) c
    → zs ≡ sets ys at (a ++ (b ++ c))
three-behind m n at a b c ys us vs zs k l e f g =
    let sum : at + (m + n) ≡ at + m + n = omega arith in
    g ∙ rw (sum, f, sets_behind us (at + m) n b c l, e) (sets_behind ys at m a (b ++ c) k)

-- bytes from the start, and then the old rest
pub sets_over : (ys bs : List ℕ) → length bs ≤ length ys → sets ys 0 bs ≡ over bs ys
unfolding over
sets_over ys bs h =
    let sum : 0 + length bs ≡ length bs = omega arith in
    rw sum at (sets-eq bs ys 0 (omega arith))

-- ---- the rest of a buffer lent

over-behind : (xs zs ys us : List ℕ) (n : ℕ) → length xs ≡ n → us ≡ over zs (drop n (over xs ys)) → take n (over xs ys) ++ us ≡ over (xs ++ zs) ys
unfolding over
over-behind xs zs ys us n e f =
    rw (take_at xs (drop (length xs) ys) n e, f, drop_at xs (drop (length xs) ys) n e, drop-drop, length-append, append_assoc)

-- xs stood at the start of us, the rest from n on was lent and came back as vs, with zs at its start
pub lent-rest : (xs zs ys us vs : List ℕ) (n : ℕ) → length xs ≡ n → us ≡ over xs ys → vs ≡ over zs (take (length us - n) (drop n us))
    → take n us ++ (vs ++ drop (length us - n) (drop n us)) ≡ over (xs ++ zs) ys
lent-rest xs zs ys us vs n l e f =
    let whole : length (drop n us) ≤ length us - n = le_of_eq (length-drop n us) in
    let g : vs ≡ over zs (drop n us) = rw (take_all (length us - n) (drop n us) whole) at f in
    let h : vs ≡ over zs (drop n (over xs ys)) = rw e at g in
    rw (drop_of_length-le (drop n us) whole, append-nil, e) (over-behind xs zs ys vs n l h)

-- what fits behind a position fits into the lent rest
pub part_room : (n : ℕ) (us : List ℕ) (k : ℕ) → n + k ≤ length us → k ≤ length (take (length us - n) (drop n us))
part_room n us k h =
    let l = length-drop n us in
    let whole : take (length us - n) (drop n us) ≡ drop n us = take_all (length us - n) (drop n us) (omega (arith, l)) in
    rw whole (omega (arith, h, l))
