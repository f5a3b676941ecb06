-- Kept numbers: a number put is read back, and the others stay. Assumes nothing.
use Prim.Native.Nat.{ℕ, ◌+◌, ◌*◌}
use mathlib.Core.Path.{◌≡◌, ◌∙◌}
use mathlib.Core.List.{List}
use native.Mathlib.Omega.{arith}
use lib.ListN.{length, set, length-set}
use lib.Seq.{get_or-set_same, get_or-set_other}
use Rattle.protocol.specs.Words.{from_halves, lower_of, upper_of}
use Rattle.protocol.proofs.Words.{join-halves}
use Rattle.numbers.specs.NumberWords.{NumbersFit, number_in, kept_in}

module _ (ws : List ℕ) (i n : ℕ) where
  abbrev lowered : List ℕ
  lowered = set ws (2 * i) (lower_of n)

  pub length-kept : length (kept_in ws i n) ≡ length ws
  unfolding kept_in
  length-kept = length-set lowered (2 * i + 1) (upper_of n) ∙ length-set ws (2 * i) (lower_of n)

  pub kept_same : NumbersFit (i + 1) ws → number_in (kept_in ws i n) i ≡ n
  unfolding kept_in number_in
  kept_same h =
      let l = get_or-set_other lowered (2 * i + 1) (2 * i) (upper_of n) 0 (λ e. omega arith) ∙ get_or-set_same ws (2 * i) (lower_of n) 0 (omega arith) in
      let u = get_or-set_same lowered (2 * i + 1) (upper_of n) 0 (omega (arith, length-set ws (2 * i) (lower_of n))) in
      (λ t. from_halves (l t) (u t)) ∙ join-halves n

  pub kept-other : (j : ℕ) → (j ≡ i → ⊥) → number_in (kept_in ws i n) j ≡ number_in ws j
  unfolding kept_in number_in
  kept-other j h =
      let l = get_or-set_other lowered (2 * i + 1) (2 * j) (upper_of n) 0 (λ e. omega arith) ∙ get_or-set_other ws (2 * i) (2 * j) (lower_of n) 0 (λ e. h (omega arith)) in
      let u = get_or-set_other lowered (2 * i + 1) (2 * j + 1) (upper_of n) 0 (λ e. h (omega arith)) ∙ get_or-set_other ws (2 * i) (2 * j + 1) (lower_of n) 0 (λ e. omega arith) in
      λ t. from_halves (l t) (u t)
