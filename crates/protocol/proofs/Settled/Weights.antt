-- What a filling does to the weights: at most k more for a block, none for a block of slot t, and all k for a block that all count for.
-- Assumes nothing.
use Prim.Native.Nat.{ℕ, ◌+◌, ◌≤◌, ◌<◌}
use mathlib.Core.Path.{◌≡◌, refl}
use mathlib.Core.Logic.{◌⊎◌, inl, inr}
use mathlib.Core.Bool.{Bool, true, false, cond, false≢true}
use mathlib.Core.List.{List, Memᴰ}
use native.Mathlib.Omega.{arith}
use Rattle.protocol.specs.Entry.{Block}
use Rattle.protocol.specs.Filters.{Choice, chosen, nothing}
use Rattle.protocol.specs.Walk.{count_below, supports, weight}
use Rattle.protocol.specs.Settled.{fillers, filled, Filling}
use Rattle.protocol.proofs.Basics.Counting.{count-mono, count-either, count-apart}
use Rattle.protocol.proofs.Chain.Above.{above-slot, above-true, above_holds}
use Rattle.protocol.proofs.Chain.Relations.{In, Sound, here}
use Rattle.protocol.proofs.Walk.Majority.{supports-apart}
use Rattle.protocol.proofs.Settled.Every.{filler-true}

module _ {bs : List Block} (S : Sound bs) (n t : ℕ) (silent : ℕ → Bool) (k : ℕ → Choice) where
  -- the weights where the silent count for nothing
  abbrev pub heard : ℕ → ℕ
  heard b = weight bs (filled silent (λ v. nothing) k) n b

  -- and with a filling
  abbrev pub after : (ℕ → Choice) → ℕ → ℕ
  after f b = weight bs (filled silent f k) n b

  -- one voter
  heard-keeps : (f : ℕ → Choice) (b v : ℕ) → supports bs (filled silent (λ u. nothing) k v) b ≡ true → supports bs (filled silent f k v) b ≡ true
  unfolding filled supports
  heard-keeps f b v e = at (silent v) e
    where
      at : (x : Bool) → supports bs (cond x nothing (k v)) b ≡ true → supports bs (cond x (f v) (k v)) b ≡ true
      at true h = absurd (false≢true h)
      at false h = h

  -- a silent voter is not heard
  heard-apart : (b v : ℕ) → supports bs (filled silent (λ u. nothing) k v) b ≡ true → silent v ≡ true → ⊥
  unfolding filled supports
  heard-apart b v e s = false≢true (rw s at e)

  -- who supports b with the filling is heard so, or is silent and f says so
  after-split : (f : ℕ → Choice) (b v : ℕ) → supports bs (filled silent f k v) b ≡ true
      → (supports bs (filled silent (λ u. nothing) k v) b ≡ true) ⊎ ((silent v ≡ true) × (supports bs (f v) b ≡ true))
  unfolding filled
  after-split f b v e = at (silent v) refl e
    where
      at : (x : Bool) → silent v ≡ x → supports bs (cond x (f v) (k v)) b ≡ true
          → (supports bs (cond x nothing (k v)) b ≡ true) ⊎ ((silent v ≡ true) × (supports bs (f v) b ≡ true))
      at true q h = inr (q, h)
      at false q h = inl h

  pub after-least : (f : ℕ → Choice) (b : ℕ) → heard b ≤ after f b
  unfolding weight
  after-least f b = count-mono (λ v. supports bs (filled silent (λ u. nothing) k v) b) (λ v. supports bs (filled silent f k v) b) n (λ v h e. heard-keeps f b v e)

  pub after-most : (f : ℕ → Choice) (b : ℕ) → after f b ≤ heard b + count_below silent n
  unfolding weight
  after-most f b = count-either (λ v. supports bs (filled silent (λ u. nothing) k v) b) silent (λ v. supports bs (filled silent f k v) b) n (λ v h e. at v (after-split f b v e))
    where
      at : (v : ℕ) → (supports bs (filled silent (λ u. nothing) k v) b ≡ true) ⊎ ((silent v ≡ true) × (supports bs (f v) b ≡ true))
          → (supports bs (filled silent (λ u. nothing) k v) b ≡ true) ⊎ (silent v ≡ true)
      at v (inl e) = inl e
      at v (inr e) = inr e.0

  -- where the filling is never for b or above it, nothing is added
  pub after_none : (f : ℕ → Choice) (b : ℕ) → ((v : ℕ) → v < n → silent v ≡ true → supports bs (f v) b ≡ true → ⊥) → after f b ≤ heard b
  unfolding weight
  after_none f b never = count-mono (λ v. supports bs (filled silent f k v) b) (λ v. supports bs (filled silent (λ u. nothing) k v) b) n (λ v h e. at v h (after-split f b v e))
    where
      at : (v : ℕ) → v < n → (supports bs (filled silent (λ u. nothing) k v) b ≡ true) ⊎ ((silent v ≡ true) × (supports bs (f v) b ≡ true))
          → supports bs (filled silent (λ u. nothing) k v) b ≡ true
      at v h (inl e) = e
      at v h (inr e) = absurd (never v h e.0 e.1)

  -- as for a block of slot t or later
  pub after-late : (f : ℕ → Choice) → Filling bs t n silent f → (d : Block) → In d bs → t ≤ d.slot → after f d.number ≤ heard d.number
  unfolding supports
  after-late f fit d m l = after_none f d.number (λ v h s e. at (f v) (fit v h s) e)
    where
      at : (o : Choice) → Memᴰ o (fillers t bs) → supports bs o d.number ≡ true → ⊥
      at nothing g e = false≢true e
      at (chosen x) g e =
          let c = filler-true t bs x g in
          let h = above-slot S c.0 d c.1 m c.2 refl (above-true S x d.number e) in
          omega (arith, c.3)

  -- all of them count for d
  pub all-on : (d : Block) → heard d.number + count_below silent n ≤ after (λ v. chosen d.number) d.number
  unfolding weight filled supports
  all-on d =
      count-apart (λ v. supports bs (filled silent (λ u. nothing) k v) d.number) silent (λ v. supports bs (filled silent (λ u. chosen d.number) k v) d.number) n
      (λ v h e s. heard-apart d.number v e s) (λ v h e. heard-keeps (λ u. chosen d.number) d.number v e) (λ v h s. rw s (above_holds S (here refl)))

  -- which adds nothing to another child of the same block
  pub all-beside : (c d : Block) → In c bs → In d bs → 0 < c.number → 0 < d.number → c.parent ≡ d.parent → (c.number ≡ d.number → ⊥)
      → after (λ v. chosen d.number) c.number ≤ heard c.number
  unfolding supports
  all-beside c d m l y z e ne =
      after_none (λ v. chosen d.number) c.number (λ v j s h. supports-apart S k n c d m l y z e ne (chosen d.number) h (above_holds S (here refl)))
