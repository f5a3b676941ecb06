-- Laws of what holds of one of any k consecutive slots. Assumes nothing.
use Prim.Native.Nat.{ℕ, ◌+◌, ◌*◌, ◌≤◌, ◌<◌}
use native.Mathlib.Nat.{le_refl}
use native.Mathlib.Omega.{arith}
use Rattle.resilience.specs.Run.{World}
use Rattle.resilience.specs.DeepAgreement.{OneOfEvery}

-- what holds of each slot holds of the first of k
pub each-one : (k : ℕ) (Slot : ℕ → Type 0) (s : ℕ) (w : World) → 0 < k → ((q : ℕ) → s ≤ q → 3 * q + 1 < w.beat → Slot q) → OneOfEvery k Slot s w
unfolding OneOfEvery
each-one k Slot s w some each r l over = (r, le_refl r, omega arith, each r l (over r (le_refl r) (omega arith)))

-- what it implies holds likewise
pub one-by : (k : ℕ) (Slot Other : ℕ → Type 0) (s t : ℕ) (w : World) → s ≤ t → ((q : ℕ) → t ≤ q → 3 * q + 1 < w.beat → Slot q → Other q)
    → OneOfEvery k Slot s w → OneOfEvery k Other t w
unfolding OneOfEvery
one-by k Slot Other s t w n f every r l over =
    let e = every r (omega arith) over in
    (e.0, e.1, omega (arith, e.2), f e.0 (omega (arith, e.1)) (over e.0 e.1 (omega (arith, e.2))) e.3)
