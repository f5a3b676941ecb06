-- What is in a set with one number more, and in a set of zero words. Assumes nothing.
use Prim.Native.Nat.{ℕ, ◌*◌, ◌/◌, ◌%◌, ◌<◌}
use mathlib.Core.Bool.{Bool, false, ◌||◌, or-false}
use mathlib.Core.List.{List}
use mathlib.Core.Path.{◌≡◌, ap, sym, ◌∙◌}
use native.Mathlib.Decide.{ℕ_discrete}
use native.Mathlib.Omega.{arith}
use borrow.Author.Tests.{eq-eqb, ne_eqb}
use lib.Dec.{eqb}
use lib.ListN.{length, get_or, set, replicate}
use lib.Seq.{get_or-set_same, get_or-set_other}
use Rattle.protocol.proofs.Basics.Members.{get_d-zeros}
use Rattle.protocol.specs.Words.{bit_of}
use Rattle.masks.specs.Masks.{mask_of, added}
use Rattle.masks.proofs.Masks.{bit_mask, mask-none}
use Rattle.bitset.specs.Bitset.{in_set, inserted}

pub in-inserted : (ws : List ℕ) (i j : ℕ) → i < 64 * length ws → in_set (inserted ws i) j ≡ (in_set ws j || eqb j i)
unfolding in_set inserted
in-inserted ws i j h = go (ℕ_discrete (j / 64) (i / 64))
  where
    new : ℕ
    new = mask_of 64 (added (bit_of (get_or ws (i / 64) 0)) (i % 64))

    same : j / 64 ≡ i / 64 → eqb (j % 64) (i % 64) ≡ eqb j i
    same e = pick (ℕ_discrete j i)
      where
        pick : Dec (j ≡ i) → eqb (j % 64) (i % 64) ≡ eqb j i
        pick (yes q) = let r : j % 64 ≡ i % 64 = rw q in eq-eqb _ _ r ∙ sym (eq-eqb _ _ q)
        pick (no q) = ne_eqb (j % 64) (i % 64) (λ r. let z : j ≡ i = omega arith in q z) ∙ sym (ne_eqb j i q)

    go : Dec (j / 64 ≡ i / 64) → bit_of (get_or (set ws (i / 64) new) (j / 64) 0) (j % 64) ≡ (bit_of (get_or ws (j / 64) 0) (j % 64) || eqb j i)
    go (yes e) =
        let k : i / 64 < length ws = omega arith in
        let l : j % 64 < 64 = omega arith in
        ap (λ (q : ℕ). bit_of (get_or (set ws (i / 64) new) q 0) (j % 64)) e
        ∙ ap (λ (w : ℕ). bit_of w (j % 64)) (get_or-set_same ws (i / 64) new 0 k)
        ∙ bit_mask 64 (added (bit_of (get_or ws (i / 64) 0)) (i % 64)) (j % 64) l
        ∙ ap (λ (b : Bool). bit_of (get_or ws (i / 64) 0) (j % 64) || b) (same e)
        ∙ ap (λ (q : ℕ). bit_of (get_or ws q 0) (j % 64) || eqb j i) (sym e)
    go (no e) =
        ap (λ (w : ℕ). bit_of w (j % 64)) (get_or-set_other ws (i / 64) (j / 64) new 0 e)
        ∙ sym (ap (λ (b : Bool). bit_of (get_or ws (j / 64) 0) (j % 64) || b) (ne_eqb j i (λ q. let z : j / 64 ≡ i / 64 = rw q in e z)) ∙ or-false (bit_of (get_or ws (j / 64) 0) (j % 64)))

pub none_in : (n i : ℕ) → in_set (replicate n 0) i ≡ false
unfolding in_set
none_in n i =
    let l : i % 64 < 64 = omega arith in
    ap (λ (w : ℕ). bit_of w (i % 64)) (get_d-zeros n (i / 64) ∙ sym (mask-none 64)) ∙ bit_mask 64 (λ k. false) (i % 64) l
