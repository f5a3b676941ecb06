-- A row takes at least one word, so that as many rows as fit are no more than the words. Assumes nothing.
use Prim.Native.Nat.{ℕ, zero, suc, ◌*◌, ◌≤◌, ◌<◌}
use mathlib.Core.Bool.{Bool, true, false}
use mathlib.Core.List.{List, [], ◌∷◌, ◌++◌}
use mathlib.Core.Path.{◌≡◌, refl, ap, sym, ◌∙◌}
use native.Mathlib.Nat.{mul-le-mul_left}
use native.Mathlib.Omega.{arith}
use lib.ListN.{length}
use Rattle.protocol.specs.Store.{Marked}
use Rattle.protocol.specs.Lent.{Make}
use Rattle.protocol.proofs.Lent.Rows.{Codec}

no-words : (l : List ℕ) → length l ≡ 0 → l ≡ []
no-words [] e = refl
no-words (x ∷ l) e = absurd (omega arith)

module _ {A : Type 0} {make : Make (Marked A)} {row : Marked A → List ℕ} (codec : Codec (Marked A) make row) where
  -- the words tell an entry in view from the same that waits
  pub words-some : 0 < make.words
  words-some = go make.words refl
    where
      with_mark : Bool → Marked A
      with_mark b = record { entry = (make.of []).entry; viewed = b }

      read : (b : Bool) → make.words ≡ 0 → make.of [] ≡ with_mark b
      read b e = let q : row (with_mark b) ≡ [] = no-words _ (codec.size (with_mark b) ∙ e) in (rw q at (codec.reads (with_mark b) []))

      go : (w : ℕ) → make.words ≡ w → 0 < w
      go zero e =
          let q : true ≡ false = ap (λ (m : Marked A). m.viewed) (sym (read true e) ∙ read false e) in
          let z : ◌≡◌ {A = ℕ} 0 1 = cc in
          absurd (omega arith)
      go (suc w) e = omega arith

  pub rows-most : (n : ℕ) → n ≤ make.words * n
  rows-most n = omega (arith, mul-le-mul_left n words-some)
