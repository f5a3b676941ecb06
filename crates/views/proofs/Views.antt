-- What comes into view twice, by equal tests, or not at all. Assumes nothing.
use Prim.Native.Nat.{ℕ, zero, suc}
use mathlib.Core.Bool.{Bool, true, false, ◌||◌, or_assoc, or-true}
use mathlib.Core.List.{List, [], ◌∷◌, Memᴰ}
use mathlib.Core.Path.{◌≡◌, refl, sym, ◌∙◌}
use lib.ListN.{drop}
use Rattle.protocol.specs.Store.{Marked, entries, view, view_all}

module _ {A : Type 0} where
  pub viewing-both : (p q : A → Bool) (ms : List (Marked A)) → view q (view p ms) ≡ view (λ a. p a || q a) ms
  unfolding view
  viewing-both p q [] = refl
  viewing-both p q (m ∷ ms) = rw (or_assoc m.viewed (p m.entry) (q m.entry), viewing-both p q ms)

  pub viewing-ext : (p q : A → Bool) (ms : List (Marked A)) → ((a : A) → Memᴰ a (entries ms) → p a ≡ q a) → view p ms ≡ view q ms
  unfolding view entries
  viewing-ext p q [] f = refl
  viewing-ext p q (m ∷ ms) f =
      rw (f m.entry (Memᴰ.head refl), viewing-ext p q ms (λ a n. f a (Memᴰ.tail n)))

  -- the same for tests that agree on what waits
  pub viewing-agree : (p q : A → Bool) (ms : List (Marked A)) → ((m : Marked A) → Memᴰ m ms → m.viewed ≡ false → p m.entry ≡ q m.entry) → view p ms ≡ view q ms
  unfolding view
  viewing-agree p q [] f = refl
  viewing-agree p q (m ∷ ms) f = rw (go m.viewed (f m (Memᴰ.head refl)), viewing-agree p q ms (λ o n. f o (Memᴰ.tail n)))
    where
      go : (t : Bool) → (t ≡ false → p m.entry ≡ q m.entry) → (t || p m.entry) ≡ (t || q m.entry)
      go true h = refl
      go false h = h refl

  -- what passes is in view already
  pub viewing-idle : (p : A → Bool) (ms : List (Marked A)) → ((m : Marked A) → Memᴰ m ms → p m.entry ≡ true → m.viewed ≡ true) → view p ms ≡ ms
  unfolding view
  viewing-idle p [] f = refl
  viewing-idle p (m ∷ ms) f = rw (go m.viewed (p m.entry) (f m (Memᴰ.head refl)), viewing-idle p ms (λ o n. f o (Memᴰ.tail n)))
    where
      go : (s t : Bool) → (t ≡ true → s ≡ true) → (s || t) ≡ s
      go true t h = refl
      go false true h = sym (h refl)
      go false false h = refl

  pub drop-viewing : (p : A → Bool) (i : ℕ) (ms : List (Marked A)) → drop i (view p ms) ≡ view p (drop i ms)
  unfolding view
  drop-viewing p zero ms = refl
  drop-viewing p (suc i) [] = refl
  drop-viewing p (suc i) (m ∷ ms) = drop-viewing p i ms

  pub drop-entries : (i : ℕ) (ms : List (Marked A)) → entries (drop i ms) ≡ drop i (entries ms)
  unfolding entries
  drop-entries zero ms = refl
  drop-entries (suc i) [] = refl
  drop-entries (suc i) (m ∷ ms) = drop-entries i ms

  pub all-viewing : (p : A → Bool) (ms : List (Marked A)) → view_all (view p ms) ≡ view_all ms
  unfolding view_all
  all-viewing p ms = viewing-both p (λ a. true) ms ∙ viewing-ext (λ a. p a || true) (λ a. true) ms (λ a n. or-true (p a))
