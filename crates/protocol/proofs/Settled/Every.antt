-- What a silent voter may count for, and that the test of every filling passes exactly if each filling passes. Assumes nothing.
use Prim.Native.Nat.{ℕ, zero, suc, ◌<◌}
use mathlib.Core.Path.{◌≡◌, refl, sym, ap, ◌∙◌}
use mathlib.Core.Logic.{◌⊎◌, inl, inr}
use mathlib.Core.Bool.{Bool, true, false, cond, true≢false}
use mathlib.Core.List.Memᴰ
use mathlib.Core.List.{List, [], ◌∷◌, Memᴰ}
use native.Mathlib.Decide.{ℕ_discrete}
use native.Mathlib.Nat.{le_refl}
use native.Mathlib.Omega.{arith}
use lib.Dec.{ltb}
use borrow.Author.Tests.{ltb-true, lt-ltb, eq-eqb, ne_eqb}
use Rattle.protocol.specs.Entry.{Block}
use Rattle.protocol.specs.Lists.{all_pass}
use Rattle.protocol.specs.Filters.{Choice, chosen, nothing}
use Rattle.protocol.specs.Settled.{fillers, giving, every_filling}
use Rattle.protocol.proofs.Basics.Members.{all_true, all-holds}
use Rattle.protocol.proofs.Basics.Tests.{clashing}
use Rattle.protocol.proofs.Chain.Relations.{In}
use Rattle.protocol.proofs.Filters.Kept.{chosen-inj, not_chosen}

-- ---- what a silent voter may count for

pub filler-nothing : (t : ℕ) (bs : List Block) → Memᴰ nothing (fillers t bs)
unfolding fillers
filler-nothing t [] = Memᴰ.head refl
filler-nothing t (c ∷ cs) = go (ltb c.slot t) (filler-nothing t cs)
  where
    go : (b : Bool) → Memᴰ nothing (fillers t cs) → Memᴰ nothing (cond b (chosen c.number ∷ fillers t cs) (fillers t cs))
    go true m = Memᴰ.tail m
    go false m = m

pub filler-block : (t : ℕ) (bs : List Block) (c : Block) → In c bs → c.slot < t → Memᴰ (chosen c.number) (fillers t bs)
unfolding fillers
filler-block t [] c m l = absurd (Memᴰ.not-nil m)
filler-block t (b ∷ bs) c m l = go (ltb b.slot t) refl (Memᴰ.cases_cons m) (λ n. filler-block t bs c n l)
  where
    go : (o : Bool) → ltb b.slot t ≡ o → (c ≡ b) ⊎ In c bs → (In c bs → Memᴰ (chosen c.number) (fillers t bs))
        → Memᴰ (chosen c.number) (cond o (chosen b.number ∷ fillers t bs) (fillers t bs))
    go true q (inl e) rec = Memᴰ.head (ap (λ (x : Block). chosen x.number) e)
    go true q (inr n) rec = Memᴰ.tail (rec n)
    go false q (inl e) rec = absurd (clashing (lt-ltb b.slot t (rw (sym (ap (λ (x : Block). x.slot) e)) l)) q)
    go false q (inr n) rec = rec n

pub filler-true : (t : ℕ) (bs : List Block) (x : ℕ) → Memᴰ (chosen x) (fillers t bs) → (c : Block) × In c bs × (c.number ≡ x) × (c.slot < t)
unfolding fillers
filler-true t [] x m = absurd (not_chosen (sym (Memᴰ.eq_of_singleton m)))
filler-true t (c ∷ cs) x m = go (ltb c.slot t) refl m (λ n. let r = filler-true t cs x n in (r.0, Memᴰ.tail r.1, r.2, r.3))
  where
    go : (o : Bool) → ltb c.slot t ≡ o → Memᴰ (chosen x) (cond o (chosen c.number ∷ fillers t cs) (fillers t cs))
        → (Memᴰ (chosen x) (fillers t cs) → (d : Block) × In d (c ∷ cs) × (d.number ≡ x) × (d.slot < t))
        → (d : Block) × In d (c ∷ cs) × (d.number ≡ x) × (d.slot < t)
    go true q n rec = at (Memᴰ.cases_cons n)
      where
        at : (chosen x ≡ chosen c.number) ⊎ Memᴰ (chosen x) (fillers t cs) → (d : Block) × In d (c ∷ cs) × (d.number ≡ x) × (d.slot < t)
        at (inl e) = (c, Memᴰ.head refl, sym (chosen-inj e), ltb-true c.slot t q)
        at (inr k) = rec k
    go false q n rec = rec n

-- ---- one voter more

given : (f : ℕ → Choice) (v : ℕ) (o : Choice) → giving f v o v ≡ o
unfolding giving
given f v o = rw (eq-eqb v v refl)

given-other : (f : ℕ → Choice) (v : ℕ) (o : Choice) (u : ℕ) → (u ≡ v → ⊥) → giving f v o u ≡ f u
unfolding giving
given-other f v o u ne = rw (ne_eqb u v ne)

-- ---- every filling

module _ (os : List Choice) (silent : ℕ → Bool) where
  -- the fillings of the silent voters below n
  abbrev Gives : ℕ → (ℕ → Choice) → Type 0
  Gives n f = (v : ℕ) → v < n → silent v ≡ true → Memᴰ (f v) os

  -- f and g agree on the silent voters below n
  abbrev Agree : ℕ → (ℕ → Choice) → (ℕ → Choice) → Type 0
  Agree n f g = (v : ℕ) → v < n → silent v ≡ true → f v ≡ g v

  -- p looks at nothing else
  abbrev Looks : ℕ → ((ℕ → Choice) → Bool) → Type 0
  Looks n p = (f g : ℕ → Choice) → Agree n f g → p f ≡ p g

  looks-given : (n : ℕ) (p : (ℕ → Choice) → Bool) (o : Choice) → Looks (suc n) p → Looks n (λ f. p (giving f n o))
  looks-given n p o look f g a = look (giving f n o) (giving g n o) (λ v l s. at v l s (ℕ_discrete v n))
    where
      at : (v : ℕ) → v < suc n → silent v ≡ true → Dec (v ≡ n) → giving f n o v ≡ giving g n o v
      at v l s (yes e) = rw e (given f n o ∙ sym (given g n o))
      at v l s (no e) = given-other f n o v e ∙ a v (omega arith) s ∙ sym (given-other g n o v e)

  -- a voter that is not silent is not looked at
  fewer : {P : ℕ → Type 0} (n : ℕ) → silent n ≡ false → ((v : ℕ) → v < n → silent v ≡ true → P v) → (v : ℕ) → v < suc n → silent v ≡ true → P v
  fewer {P} n q f v l s = at (ℕ_discrete v n)
    where
      at : Dec (v ≡ n) → P v
      at (yes e) = absurd (true≢false (sym s ∙ ap silent e ∙ q))
      at (no e) = f v (omega arith) s

  pub every_true : (n : ℕ) (p : (ℕ → Choice) → Bool) → Looks n p → every_filling os silent n p ≡ true → (f : ℕ → Choice) → Gives n f → p f ≡ true
  unfolding every_filling
  every_true zero p look e f fit = look f (λ v. nothing) (λ v l s. absurd (omega arith)) ∙ e
  every_true (suc n) p look e f fit = go (silent n) refl e (λ q l h g. every_true n q l h f g)
    where
      go : (b : Bool) → silent n ≡ b → cond b (all_pass (λ o. every_filling os silent n (λ g. p (giving g n o))) os) (every_filling os silent n p) ≡ true
          → ((q : (ℕ → Choice) → Bool) → Looks n q → every_filling os silent n q ≡ true → Gives n f → q f ≡ true) → p f ≡ true
      go true s h rec =
          look f (giving f n (f n)) (λ v l z. at v l z (ℕ_discrete v n))
          ∙ rec (λ g. p (giving g n (f n))) (looks-given n p (f n) look)
          (all_true (λ o. every_filling os silent n (λ g. p (giving g n o))) h (f n) (fit n (le_refl (suc n)) s)) (λ v l z. fit v (omega arith) z)
        where
          at : (v : ℕ) → v < suc n → silent v ≡ true → Dec (v ≡ n) → f v ≡ giving f n (f n) v
          at v l z (yes q) = rw q (sym (given f n (f n)))
          at v l z (no q) = sym (given-other f n (f n) v q)
      go false s h rec = rec p (λ g k a. look g k (fewer n s a)) h (λ v l z. fit v (omega arith) z)

  pub every_holds : (n : ℕ) (p : (ℕ → Choice) → Bool) → ((f : ℕ → Choice) → Gives n f → p f ≡ true) → every_filling os silent n p ≡ true
  unfolding every_filling
  every_holds zero p h = h (λ v. nothing) (λ v l s. absurd (omega arith))
  every_holds (suc n) p h = go (silent n) refl (λ q k. every_holds n q k)
    where
      go : (b : Bool) → silent n ≡ b → ((q : (ℕ → Choice) → Bool) → ((f : ℕ → Choice) → Gives n f → q f ≡ true) → every_filling os silent n q ≡ true)
          → cond b (all_pass (λ o. every_filling os silent n (λ f. p (giving f n o))) os) (every_filling os silent n p) ≡ true
      go true s rec = all-holds (λ o. every_filling os silent n (λ f. p (giving f n o))) os (λ o m. rec (λ f. p (giving f n o)) (λ f fit. h (giving f n o) (λ v l z. at o m f fit v l z (ℕ_discrete v n))))
        where
          at : (o : Choice) → Memᴰ o os → (f : ℕ → Choice) → Gives n f → (v : ℕ) → v < suc n → silent v ≡ true → Dec (v ≡ n) → Memᴰ (giving f n o v) os
          at o m f fit v l z (yes q) = rw (q, given f n o) m
          at o m f fit v l z (no q) = rw (given-other f n o v q) (fit v (omega arith) z)
      go false s rec = rec p (λ f fit. h f (fewer n s fit))
