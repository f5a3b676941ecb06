-- The links of the children, a row more from the last row down. Assumes nothing.
use Prim.Native.Nat.{ℕ, ◌+◌, ◌≤◌, ◌<◌}
use mathlib.Core.List.{List}
use mathlib.Core.Path.{◌≡◌, refl, ap, sym, ◌∙◌, subst}
use native.Mathlib.Decide.{ℕ_discrete}
use native.Mathlib.Omega.{arith}
use lib.ListN.{length, length-set, replicate, length-replicate, get_or-replicate}
use lib.Seq.{get_or-set_same, get_or-set_other}
use Rattle.protocol.specs.Limits.{loom}
use Rattle.fork_choice.specs.declared.Kin.{Kin}
use Rattle.fork_choice.specs.Children.{no_kin, child_at, next_at, put_child, put_next, NextChild, Linked}

-- as many links as the largest table has rows, all free
pub unlinked : let kin = replicate {A = Kin} loom.blocks no_kin in (length kin ≡ loom.blocks) × ((a : ℕ) → a < loom.blocks → child_at kin a ≡ 0)
unlinked = (length-replicate {A = Kin} loom.blocks no_kin, λ a l. ap (λ (o : Kin). o.child) (get_or-replicate {A = Kin} loom.blocks a no_kin no_kin l))

-- ---- one link changes

module _ (kin : List Kin) (k x : ℕ) (h : k < length kin) where
  child-same : child_at (put_child kin k x) k ≡ x
  child-same = ap (λ (o : Kin). o.child) (get_or-set_same {A = Kin} kin k _ no_kin h)

  child-other : (a : ℕ) → (a ≡ k → ⊥) → child_at (put_child kin k x) a ≡ child_at kin a
  child-other a ne = ap (λ (o : Kin). o.child) (get_or-set_other {A = Kin} kin k a _ no_kin ne)

  next-kept : (c : ℕ) → next_at (put_child kin k x) c ≡ next_at kin c
  next-kept c = go (ℕ_discrete c k)
    where
      go : Dec (c ≡ k) → next_at (put_child kin k x) c ≡ next_at kin c
      go (yes q) = rw q (ap (λ (o : Kin). o.next) (get_or-set_same {A = Kin} kin k _ no_kin h))
      go (no q) = ap (λ (o : Kin). o.next) (get_or-set_other {A = Kin} kin k c _ no_kin q)

  next-same : next_at (put_next kin k x) k ≡ x
  next-same = ap (λ (o : Kin). o.next) (get_or-set_same {A = Kin} kin k _ no_kin h)

  next-other : (c : ℕ) → (c ≡ k → ⊥) → next_at (put_next kin k x) c ≡ next_at kin c
  next-other c ne = ap (λ (o : Kin). o.next) (get_or-set_other {A = Kin} kin k c _ no_kin ne)

  child-kept : (a : ℕ) → child_at (put_next kin k x) a ≡ child_at kin a
  child-kept a = go (ℕ_discrete a k)
    where
      go : Dec (a ≡ k) → child_at (put_next kin k x) a ≡ child_at kin a
      go (yes q) = rw q (ap (λ (o : Kin). o.child) (get_or-set_same {A = Kin} kin k _ no_kin h))
      go (no q) = ap (λ (o : Kin). o.child) (get_or-set_other {A = Kin} kin k a _ no_kin q)

-- ---- one row more

module _ (up : ℕ → ℕ) (n : ℕ) where
  -- past the last row there is no child
  none-past : (a c : ℕ) → c ≡ 0 → NextChild up n a n c
  none-past a c e = record { hit = λ f. absurd (f e); none = λ k l h q. absurd (omega arith) }

  pub linked-none : {kin : List Kin} → ((a : ℕ) → a < loom.blocks → child_at kin a ≡ 0) → n ≤ loom.blocks → Linked up n n kin
  linked-none {kin} z h = record {
    first = λ a l. none-past a _ (z a (omega arith));
    next = λ c l m. absurd (omega arith);
  }

  -- row i becomes its parent's first child, before the one that was
  pub linked-more : (i : ℕ) {kin next : List Kin} → Linked up n (i + 1) kin → next ≡ put_child (put_next kin i (child_at kin (up i))) (up i) i
      → 0 < i → i < n → up i < n → n ≤ length kin → Linked up n i next
  linked-more i {kin} {next} L e z h u ln = rw e (record { first = λ a l. first-at a l (ℕ_discrete a (up i)); next = λ c l m. next-after c l m (ℕ_discrete c i) })
    where
      mid : List Kin
      mid = put_next kin i (child_at kin (up i))

      li : i < length kin
      li = omega arith

      lu : up i < length mid
      lu = omega (arith, length-set {A = Kin} kin i (record { child = child_at kin i; next = child_at kin (up i) }))

      first-at : (a : ℕ) → a < n → Dec (a ≡ up i) → NextChild up n a i (child_at (put_child mid (up i) i) a)
      first-at a l (yes q) =
          subst (λ (x : ℕ). NextChild up n a i x) (sym (ap (child_at (put_child mid (up i) i)) q ∙ child-same mid (up i) i lu))
          (rw q (record { hit = λ g. (omega arith, h, refl); none = λ k m b p. (λ o. omega arith, m) }))
      first-at a l (no q) =
          let N = L.first a l in
          subst (λ (x : ℕ). NextChild up n a i x) (sym (child-other mid (up i) i lu a q ∙ child-kept kin i (child_at kin (up i)) li a))
          (record { hit = λ g. let t = N.hit g in (omega arith, t.1, t.2); none = λ k m b p. later k m b p (ℕ_discrete k i) })
        where
          later : (k : ℕ) → i ≤ k → k < n → up k ≡ a → Dec (k ≡ i) → (child_at kin a ≡ 0 → ⊥) × (child_at kin a ≤ k)
          later k m b p (yes o) = absurd (q (sym p ∙ ap up o))
          later k m b p (no o) = (L.first a l).none k (omega arith) b p

      next-after : (c : ℕ) → i ≤ c → c < n → Dec (c ≡ i) → NextChild up n (up c) (c + 1) (next_at (put_child mid (up i) i) c)
      next-after c l m (yes q) =
          subst (λ (x : ℕ). NextChild up n (up c) (c + 1) x) (sym (next-kept mid (up i) i lu c ∙ ap (next_at mid) q ∙ next-same kin i (child_at kin (up i)) li))
          (rw q (L.first (up i) u))
      next-after c l m (no q) =
          subst (λ (x : ℕ). NextChild up n (up c) (c + 1) x) (sym (next-kept mid (up i) i lu c ∙ next-other kin i (child_at kin (up i)) li c q))
          (L.next c (omega arith) m)

-- by another function that gives the same parents
pub linked-by : {up on : ℕ → ℕ} {n i : ℕ} {kin : List Kin} → ((j : ℕ) → j < n → up j ≡ on j) → Linked up n i kin → Linked on n i kin
linked-by {up} {on} {n} s L = record {
  first = λ a l. by (L.first a l);
  next = λ c l m. rw (← s c m) (by (L.next c l m));
}
  where
    by : {a k c : ℕ} → NextChild up n a k c → NextChild on n a k c
    by N = record { hit = λ f. let t = N.hit f in (t.0, t.1, sym (s _ t.1) ∙ t.2); none = λ k m b p. N.none k m b (s k b ∙ p) }
