-- Two lists of tests that differ only where the first may refuse by given numbers, and the second is milder there: as long as the first does not
-- refuse so, they have one verdict. Assumes nothing.
use Prim.Native.Nat.{ℕ}
use mathlib.Core.Path.{◌≡◌, refl}
use mathlib.Core.Bool.{Bool, true, false, cond, true≢false}
use mathlib.Core.List.{List, [], ◌∷◌}
use Rattle.protocol.specs.Refusal.{by, Test, test, refuse, first}
use Rattle.protocol.proofs.Basics.Tests.{clashing}
use Rattle.protocol.proofs.CallList.{NotBy}

module _ (these : ℕ → Bool) where
  pub data Milder : List Test → List Test → Type 0 where
    end : Milder [] []
    same : {ts us : List Test} (t : Test) → Milder ts us → Milder (t ∷ ts) (t ∷ us)
    less : {ts us : List Test} (k : ℕ) (a b : Bool) → (a ≡ false → b ≡ false) → (a ≡ true → these k ≡ true) → Milder ts us → Milder (test k a ∷ ts) (test k b ∷ us)

  pub milder : {ts us : List Test} → Milder ts us → NotBy these (first ts) → first ts ≡ first us
  unfolding first
  milder end n = refl
  milder (same {ts} {us} t m) n = go t.applies n (λ h. milder m h)
    where
      go : (b : Bool) → NotBy these (cond b (refuse t.refusal) (first ts)) → (NotBy these (first ts) → first ts ≡ first us)
          → cond b (refuse t.refusal) (first ts) ≡ cond b (refuse t.refusal) (first us)
      go true h rec = refl
      go false h rec = rec h
  milder (less {ts} {us} k a b f g m) n = go a b f g n (λ h. milder m h)
    where
      go : (c d : Bool) → (c ≡ false → d ≡ false) → (c ≡ true → these k ≡ true) → NotBy these (cond c (refuse (by k)) (first ts))
          → (NotBy these (first ts) → first ts ≡ first us) → cond c (refuse (by k)) (first ts) ≡ cond d (refuse (by k)) (first us)
      go true d p q h rec = absurd (clashing (q refl) (h (by k) refl))
      go false true p q h rec = absurd (true≢false (p refl))
      go false false p q h rec = rec h
