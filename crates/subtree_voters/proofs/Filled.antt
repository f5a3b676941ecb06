-- An array that is filled from its first element on, one more. Assumes nothing.
use Prim.Native.Nat.{ℕ, ◌+◌, ◌<◌}
use mathlib.Core.List.{List}
use mathlib.Core.Path.{◌≡◌, ap, ◌∙◌}
use native.Mathlib.Decide.{dec_lt}
use native.Mathlib.Omega.{arith}
use lib.ListN.{length, get_or, set}
use lib.Seq.{get_or-set_same, get_or-set_other}
use Rattle.subtree_voters.specs.Filled.{Filled}

pub filled_none : (f : ℕ → ℕ) (array : List ℕ) → Filled f 0 array
filled_none f array = record { each = λ j l. absurd (omega arith) }

pub filled_more : (f : ℕ → ℕ) (i : ℕ) {array next : List ℕ} {x : ℕ} → Filled f i array → next ≡ set array i x → x ≡ f i → i < length array → Filled f (i + 1) next
filled_more f i {array} {next} {x} F e q h = record { each = λ j l. ap (λ (s : List ℕ). get_or s j 0) e ∙ go j l (dec_lt j i) }
  where
    go : (j : ℕ) → j < i + 1 → Dec (j < i) → get_or (set array i x) j 0 ≡ f j
    go j l (yes k) = get_or-set_other array i j x 0 (λ o. omega arith) ∙ F.each j k
    go j l (no k) = let o : j ≡ i = omega arith in rw o (get_or-set_same array i x 0 h ∙ q)
