-- A block that leads after a slot, if it was not left before, stays under every later honest vote and base: there is such a slot up to E slots before
-- each. Assumes nothing.
use Prim.Native.Nat.{ℕ, zero, suc, ◌+◌, ◌*◌, ◌-◌, ◌/◌, ◌≤◌, ◌<◌}
use mathlib.Core.Path.{◌≡◌, refl}
use mathlib.Core.Logic.{◌≢◌}
use mathlib.Core.Bool.{Bool, true, false}
use mathlib.Core.List.{Memᴰ}
use native.Mathlib.Nat.{le_refl}
use native.Mathlib.Omega.{arith}
use lib.Dec.{eqb, leb}
use borrow.Author.Tests.{eqb-true, eqb-false, leb-true, leb-false}
use Rattle.protocol.specs.Entry.{Block}
use Rattle.protocol.specs.Calls.Vote.{head_of}
use Rattle.resilience.specs.Run.{Network, settings, is_honest, voted, built}
use Rattle.resilience.specs.Resilience.{AtOrAbove, DeliveredAt, StaysAfter}
use Rattle.resilience.specs.DeepAgreement.{OneOfEvery}
use Rattle.resilience.proofs.Runs.Execution.{Execution, world, log}
use Rattle.resilience.proofs.Runs.History.{beat-mono}
use Rattle.resilience.proofs.Invariants.Blocks.{OfRun}
use Rattle.resilience.proofs.Invariants.Votes.{ballot-of}
use Rattle.resilience.proofs.Invariants.Proposals.{built_of}
use Rattle.resilience.proofs.Later.Leads.{AllOn, Leads}
use Rattle.resilience.proofs.Later.NextSlot.{head-on, next-vote, next-base}

module _ {N : Network} (X : Execution N) where
  vote-beat : (b i x : ℕ) → Memᴰ (voted b i x) (log X) → b ≤ (world X X.end).beat
  vote-beat b i x m = let A = ballot-of X b i x m in omega (arith, A.by.beat, beat-mono X A.when X.end (omega (arith, A.before)))

  build-beat : (b i x y : ℕ) → Memᴰ (built b i x y) (log X) → b ≤ (world X X.end).beat
  build-beat b i x y m = let P = built_of X b i x y m in omega (arith, P.by.beat, beat-mono X P.when X.end (omega (arith, P.before)))

  -- the honest votes of the slots after t and before s are on B
  abbrev pub AllBefore : ℕ → ℕ → ℕ → Type 0
  AllBefore B t s = (q : ℕ) → t < q → q < s → AllOn X B q

  -- The votes of slot g arrive, and B leads after it, unless it was left after slot t.
  pub record Carries (B t g : ℕ) : Type 0 where
    pub arrive : DeliveredAt (3 * g + 1) (log X)
    pub leads : AllBefore B t (suc g) → Leads X B g

  -- such a slot from t on, before slot s and at most E before it
  record CarriesBefore (B t s : ℕ) : Type 0 where
    slot : ℕ
    since : t ≤ slot
    before : slot < s
    near : s ≤ slot + N.expiry
    carries : Carries B t slot

  -- slot t is one, and so is one of any E consecutive slots after it
  pub record CarriedFrom (B t : ℕ) : Type 0 where
    pub first : 3 * t + 1 < (world X X.end).beat → Carries B t t
    pub every : OneOfEvery N.expiry (Carries B t) (suc t) (world X X.end)

  -- then there is one before each later slot s, once the vote beat of the slot before s is over: t serves the next E slots
  carried-before : (B t : ℕ) → CarriedFrom B t → (s : ℕ) → t < s → 3 * s ≤ (world X X.end).beat + 1 → CarriesBefore B t s
  unfolding OneOfEvery
  carried-before B t C s l o = go (leb s (t + N.expiry)) refl
    where
      go : (b : Bool) → leb s (t + N.expiry) ≡ b → CarriesBefore B t s
      go true e = record { slot = t; since = le_refl t; before = l; near = leb-true s (t + N.expiry) e; carries = C.first (omega arith) }
      go false e =
          let far = leb-false s (t + N.expiry) e in
          let r = C.every (s - N.expiry) (omega arith) (λ q a b. omega arith) in
          record { slot = r.0; since = omega (arith, r.1); before = omega (arith, r.2); near = omega (arith, r.1); carries = r.3 }

  module _ (B : Block) (of-B : OfRun X B) (t : ℕ) (early : B.slot ≤ t) (carried : CarriedFrom B.number t) where
    -- the votes and bases of slot s, by such a slot before it
    module _ (s : ℕ) (rec : AllBefore B.number t s) (l : t < s) (o : 3 * s ≤ (world X X.end).beat + 1) where
      G : CarriesBefore B.number t s
      G = carried-before B.number t carried s l o

      L : Leads X B.number G.slot
      L = G.carries.leads (λ q a b. rec q a (omega (arith, G.before)))

      votes-of : AllOn X B.number s
      votes-of =
          next-vote X G.slot G.carries.arrive B of-B (omega (arith, G.since)) L s G.before G.near (λ q a b. rec q (omega (arith, G.since)) b)

      bases-of : (b i x y : ℕ) → Memᴰ (built b i x y) (log X) → b / 3 ≡ s → AtOrAbove (log X) B.number y
      bases-of =
          next-base X G.slot G.carries.arrive B of-B (omega (arith, G.since)) L s G.before G.near (λ q a b. rec q (omega (arith, G.since)) b)

      -- the head of a node that has merged the slot before, or the slot itself
      heads-of : (k : ℕ) → k ≤ X.end → (i : ℕ) → is_honest N i ≡ true → s ≤ suc ((world X k).node i).clock.merged → ((world X k).node i).clock.merged ≤ s
          → AtOrAbove (log X) B.number (head_of (settings N i) ((world X k).node i) s)
      heads-of k m i h since until =
          head-on X G.slot G.carries.arrive B of-B (omega (arith, G.since)) L s G.before G.near (λ q a b. rec q (omega (arith, G.since)) b) k m i h
          (omega (arith, G.before)) until

    every-before : (s : ℕ) → AllBefore B.number t s
    every-before zero = λ q l o. absurd (omega arith)
    every-before (suc s) = λ q l o. go (every-before s) q l o (eqb q s) refl
      where
        go : AllBefore B.number t s → (q : ℕ) → t < q → q < suc s → (b : Bool) → eqb q s ≡ b → AllOn X B.number q
        go rec q l o true e =
            let z = eqb-true q s e in
            λ b i x m f. votes-of s rec (omega arith) (omega (arith, vote-beat b i x m)) b i x m (omega arith)
        go rec q l o false e =
            let ne : q ≢ s = eqb-false q s e in
            rec q l (omega arith)

    pub stays_after : StaysAfter t B.number (world X X.end)
    stays_after = (
      λ b i x m l. every-before (suc (b / 3)) (b / 3) l (le_refl (suc (b / 3))) b i x m refl,
      λ b i x y m l. bases-of (b / 3) (every-before (b / 3)) l (omega (arith, build-beat b i x y m)) b i x y m refl,
    )

    pub every-head : (s : ℕ) → t < s → 3 * s ≤ (world X X.end).beat + 1 → (k : ℕ) → k ≤ X.end → (i : ℕ) → is_honest N i ≡ true
        → s ≤ suc ((world X k).node i).clock.merged → ((world X k).node i).clock.merged ≤ s
        → AtOrAbove (log X) B.number (head_of (settings N i) ((world X k).node i) s)
    every-head s l o = heads-of s (every-before s) l o
