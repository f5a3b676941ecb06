-- The settled block of slot t, where some voters are silent: the farthest block from block 0 that is on the chain of the head whatever the silent
-- voters count for. First as a test of every filling, which computes, then the same with a quantifier over fillings. Assumes nothing.
use Rattle.std.specs.Prelude.{ℕ, zero, suc, ◌≤◌, ◌<◌, ◌≡◌, Bool, true, cond, ltb, eqb}
use mathlib.Core.List.{List, [], ◌∷◌, Memᴰ}
use Rattle.protocol.specs.Entry.{Block, Vote}
use Rattle.protocol.specs.Lists.{all_pass}
use Rattle.protocol.specs.Chain.{Lookup, found, missing, at_or_above}
use Rattle.protocol.specs.Filters.{Choice, chosen, nothing, kept_choice}
use Rattle.protocol.specs.Walk.{weight, walk}
use Rattle.protocol.specs.Confirm.{height, highest}

-- ---- fillings

-- what a silent voter may count for: one block of a slot below t, or nothing
unfoldable pub fillers : ℕ → List Block → List Choice
fillers t [] = nothing ∷ []
fillers t (c ∷ cs) = cond (ltb c.slot t) (chosen c.number ∷ fillers t cs) (fillers t cs)

-- the filling f with o for voter v
unfoldable pub giving : (ℕ → Choice) → ℕ → Choice → ℕ → Choice
giving f v o u = cond (eqb u v) o (f u)

-- Every filling passes the test p. A filling gives each silent voter below n one of the `os`, and all of them are gone through, voter by voter.
unfoldable pub every_filling : List Choice → (ℕ → Bool) → ℕ → ((ℕ → Choice) → Bool) → Bool
every_filling os silent zero p = p (λ v. nothing)
every_filling os silent (suc n) p =
    cond (silent n) (all_pass (λ o. every_filling os silent n (λ f. p (giving f n o))) os) (every_filling os silent n p)

-- each voter's choice: the silent count as the filling f says, the other kept votes k stand
unfoldable pub filled : (ℕ → Bool) → (ℕ → Choice) → (ℕ → Choice) → ℕ → Choice
filled silent f k v = cond (silent v) (f v) (k v)

-- f is a filling; what it says of voters that are not silent is not looked at
abbrev pub Filling : List Block → ℕ → ℕ → (ℕ → Bool) → (ℕ → Choice) → Type 0
Filling bs t n silent f = (v : ℕ) → v < n → silent v ≡ true → Memᴰ (f v) (fillers t bs)

unfoldable pub number_or_zero : Lookup → ℕ
number_or_zero missing = 0
number_or_zero (found c) = c.number

-- ---- for slot t, over the blocks bs and votes vs, of n voters with expiry period E

module _ (bs : List Block) (vs : List Vote) (n E t : ℕ) (silent : ℕ → Bool) where
  -- the head with a filling
  unfoldable pub filled_head : (ℕ → Choice) → ℕ
  filled_head f = walk (weight bs (filled silent f (λ v. kept_choice vs E t v)) n) bs (suc t)

  -- b is on the chain of the head of every filling
  unfoldable pub on_every_chain : ℕ → Bool
  on_every_chain b = every_filling (fillers t bs) silent n (λ f. at_or_above bs (filled_head f) b)

  -- the farthest such block from block 0, which is always one
  unfoldable pub settled_block : ℕ
  settled_block = number_or_zero (highest on_every_chain bs bs)

  -- the same with a quantifier: b is on the chain of the head, for every filling
  abbrev pub Certain : ℕ → Type 0
  Certain b = (f : ℕ → Choice) → Filling bs t n silent f → at_or_above bs (filled_head f) b ≡ true

  -- and r is the farthest such block from block 0
  pub record Farthest (r : ℕ) : Type 0 where
    pub certain : Certain r
    pub top : (b : ℕ) → Certain b → height bs b ≤ height bs r
