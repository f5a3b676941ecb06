-- Four words mixed with a salt by four rounds of SipHash, with its constants. Assumes nothing.
use Rattle.std.specs.Prelude.{ℕ, ◌+◌, ◌-◌, ◌*◌, ◌/◌, ◌%◌, ◌^◌, bit_or, bit_xor}
use Rattle.mixing.specs.declared.Words.{Words}

-- a word turned to the left by k bits
abbrev pub rotated : ℕ → ℕ → ℕ
rotated k x = bit_or (x * 2 ^ k % 2 ^ 64) (x / 2 ^ (64 - k))

-- one round
unfoldable pub stir : Words → Words
stir w =
    let e = (w.a + w.b) % 2 ^ 64 in
    let f = bit_xor (rotated 13 w.b) e in
    let g = (w.c + w.d) % 2 ^ 64 in
    let h = bit_xor (rotated 16 w.d) g in
    let a = (rotated 32 e + h) % 2 ^ 64 in
    let d = bit_xor (rotated 21 h) a in
    let t = (g + f) % 2 ^ 64 in
    let b = bit_xor (rotated 17 f) t in
    record { a = a; b = b; c = rotated 32 t; d = d }

-- what the rounds start from: the key's words, with a salt
unfoldable pub seeded : ℕ → ℕ → ℕ → ℕ → ℕ → Words
seeded salt a b c d =
    record {
      a = bit_xor (bit_xor a salt) 8317987319222330741;
      b = bit_xor b 7237128888997146477;
      c = bit_xor (bit_xor c salt) 7816392313619706465;
      d = bit_xor d 8387220255154660723;
    }

unfoldable pub mix : ℕ → ℕ → ℕ → ℕ → ℕ → ℕ
mix salt a b c d = let w = stir (stir (stir (stir (seeded salt a b c d)))) in bit_xor w.a w.c
