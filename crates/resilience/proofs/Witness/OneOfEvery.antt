-- The test for what holds of one of any k consecutive slots. Assumes nothing.
use Prim.Native.Nat.{ℕ, zero, suc, ◌+◌, ◌*◌, ◌-◌, ◌≤◌, ◌<◌}
use mathlib.Core.Path.{◌≡◌}
use mathlib.Core.Logic.{◌⊎◌, inl, inr}
use mathlib.Core.Bool.{Bool, true, false, ◌&&◌, ◌||◌, false≢true}
use native.Mathlib.Omega.{arith}
use lib.Dec.{leb, ltb}
use borrow.Author.Tests.{le-leb, lt-ltb}
use Rattle.protocol.proofs.Basics.Tests.{both, either}
use Rattle.resilience.specs.Run.{World, all_below}
use Rattle.resilience.specs.DeepAgreement.{OneOfEvery}
use Rattle.resilience.proofs.Witness.Tests.{implies, implied, below_true}

-- one of the k slots from r on passes
unfoldable some_test : (ℕ → Bool) → ℕ → ℕ → Bool
some_test p r zero = false
some_test p r (suc k) = p (r + k) || some_test p r k

some-true : (p : ℕ → Bool) (r k : ℕ) → some_test p r k ≡ true → (q : ℕ) × (r ≤ q) × (q < r + k) × (p q ≡ true)
unfolding some_test
some-true p r zero h = absurd (false≢true h)
some-true p r (suc k) h = go (either (p (r + k)) _ h) (λ e. some-true p r k e)
  where
    go : (p (r + k) ≡ true) ⊎ (some_test p r k ≡ true) → (some_test p r k ≡ true → (q : ℕ) × (r ≤ q) × (q < r + k) × (p q ≡ true))
        → (q : ℕ) × (r ≤ q) × (q < r + suc k) × (p q ≡ true)
    go (inl e) rec = (r + k, omega arith, omega arith, e)
    go (inr e) rec = let x = rec e in (x.0, x.1, omega (arith, x.2), x.3)

unfoldable pub one_of_test : (ℕ → Bool) → ℕ → ℕ → World → Bool
unfolding some_test all_below
one_of_test p k s w = all_below (λ r. implies (leb s r && ltb (3 * (r + k)) (w.beat + 2)) (some_test p r k)) w.beat

pub one-of-true : (p : ℕ → Bool) (Slot : ℕ → Type 0) → ((q : ℕ) → p q ≡ true → Slot q) → (k s : ℕ) (w : World) → 0 < k → one_of_test p k s w ≡ true
    → OneOfEvery k Slot s w
unfolding one_of_test OneOfEvery
one-of-true p Slot f k s w z h r l over =
    let o = over (r + k - 1) (omega arith) (omega arith) in
    let x = some-true p r k (implied (leb s r && ltb (3 * (r + k)) (w.beat + 2)) _ (below_true _ w.beat h r (omega arith))
    (both (le-leb s r l) (lt-ltb (3 * (r + k)) (w.beat + 2) (omega arith)))) in
    (x.0, x.1, x.2, f x.0 x.3)
