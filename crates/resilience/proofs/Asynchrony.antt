-- Asynchrony resilience: the slot of the block by Slot.Agreement, the later ones by Later.EverySlot. Assumes nothing.
use Prim.Native.Nat.{ℕ, suc, ◌+◌, ◌*◌, ◌/◌, ◌≤◌, ◌<◌}
use mathlib.Core.Path.{◌≡◌, refl}
use mathlib.Core.Logic.{◌≢◌, inr}
use mathlib.Core.Bool.{Bool, true, false}
use mathlib.Core.List.{Memᴰ}
use native.Mathlib.Nat.{le_refl}
use native.Mathlib.Omega.{arith}
use lib.Dec.{eqb}
use borrow.Author.Tests.{eqb-true, eqb-false}
use Rattle.protocol.specs.Calls.Vote.{head_of}
use Rattle.resilience.specs.Run.{Network, World, settings, is_honest, voted}
use Rattle.resilience.specs.Resilience.{AtOrAbove, here, by-proposer, Stays}
use Rattle.resilience.specs.Asynchrony.{Good, Lasting, AsynchronyResilience, GoodSince, AsynchronyResilienceSince}
use Rattle.resilience.proofs.Runs.Execution.{Execution, world, log, by-execution}
use Rattle.resilience.proofs.Invariants.Blocks.{OfRun}
use Rattle.resilience.proofs.Invariants.Votes.{ballot-of}
use Rattle.resilience.proofs.Invariants.Proposals.{Built, built_of}
use Rattle.resilience.proofs.Slot.ProposerView.{block_of}
use Rattle.resilience.proofs.Slot.Agreement.{agreement}
use Rattle.resilience.proofs.Later.Leads.{AllOn, since-lead, more-since}
use Rattle.resilience.proofs.Later.OneOfEvery.{one-by}
use Rattle.resilience.proofs.Later.EverySlot.{AllBefore, Carries, CarriedFrom, every-head, stays_after}

module _ {N : Network} (X : Execution N) (beat B : ℕ) (lasting : Lasting N (world X X.end) (GoodSince N (world X X.end)) beat B) where
  Q : Built X beat lasting.block.proposer B lasting.block.parent
  Q = built_of X beat lasting.block.proposer B lasting.block.parent lasting.block.proposed

  of-run : OfRun X (block_of Q)
  of-run = inr (by-proposer beat lasting.block.proposer lasting.block.proposed refl)

  agreed : (b i x : ℕ) → Memᴰ (voted b i x) (log X) → b / 3 ≡ beat / 3 → x ≡ B
  agreed b i x k e = agreement Q lasting.merge_beat lasting.propose_beat b i x (ballot-of X b i x k) e

  -- after a good slot it leads, unless it was left before
  carries : (g : ℕ) → beat / 3 ≤ g → 3 * g + 1 < (world X X.end).beat → GoodSince N (world X X.end) (beat / 3) g → Carries X B (beat / 3) g
  carries g l o good = record {
    arrive = good.arrive;
    leads = λ all. since-lead X B (beat / 3) g l (lasting.first (omega arith)).arrive (λ q a b. on all q a b (eqb (beat / 3) q) refl) good.more;
  }
    where
      on : AllBefore X B (beat / 3) (suc g) → (q : ℕ) → beat / 3 ≤ q → q ≤ g → (b : Bool) → eqb (beat / 3) q ≡ b → AllOn X B q
      on all q a b true e = let z = eqb-true (beat / 3) q e in λ c i x m f. rw (agreed c i x m (omega arith)) here
      on all q a b false e =
          let ne : beat / 3 ≢ q = eqb-false (beat / 3) q e in
          all q (omega arith) (omega arith)

  carried : CarriedFrom X B (beat / 3)
  carried = record {
    first = λ o. carries (beat / 3) (le_refl (beat / 3)) o (lasting.first o);
    every = one-by N.expiry (GoodSince N (world X X.end) (beat / 3)) (Carries X B (beat / 3)) (beat / 3) (suc (beat / 3)) (world X X.end) (omega arith)
        (λ q l o. carries q (omega arith) o) lasting.every;
  }

  -- it is under the head of every later slot s of a node that has merged the slot before, or s itself
  pub under-head : (s : ℕ) → beat / 3 < s → 3 * s ≤ (world X X.end).beat + 1 → (k : ℕ) → k ≤ X.end → (i : ℕ) → is_honest N i ≡ true
      → s ≤ suc ((world X k).node i).clock.merged → ((world X k).node i).clock.merged ≤ s
      → AtOrAbove (log X) B (head_of (settings N i) ((world X k).node i) s)
  under-head = every-head X (block_of Q) of-run (beat / 3) (le_refl (beat / 3)) carried

  claim : Stays beat B (world X X.end)
  claim = (agreed, stays_after X (block_of Q) of-run (beat / 3) (le_refl (beat / 3)) carried)

pub asynchrony-resilient-since : AsynchronyResilienceSince
unfolding AsynchronyResilienceSince
asynchrony-resilient-since N opened w run unforged one_block enough beat B lasting =
    by-execution w run opened unforged one_block enough (λ o. Lasting N o (GoodSince N o) beat B → Stays beat B o) (λ X. claim X beat B) lasting

-- ---- where demand 3's count holds

-- what lasts, lasts where less is asked of a good slot
pub lasting-by : (N : Network) (w : World) (Good Other : ℕ → ℕ → Type 0) (beat B : ℕ) → ((g : ℕ) → beat / 3 ≤ g → Good (beat / 3) g → Other (beat / 3) g)
    → Lasting N w Good beat B → Lasting N w Other beat B
lasting-by N w Good Other beat B f L = record {
  block = L.block;
  merge_beat = L.merge_beat;
  propose_beat = L.propose_beat;
  first = λ o. f (beat / 3) (le_refl (beat / 3)) (L.first o);
  every = one-by N.expiry (Good (beat / 3)) (Other (beat / 3)) (beat / 3) (beat / 3) w (le_refl (beat / 3)) (λ q l o. f q l) L.every;
}

pub good-since : (N : Network) (w : World) (t g : ℕ) → t ≤ g → Good N w g → GoodSince N w t g
good-since N w t g l G = record { arrive = G.arrive; more = more-since N w.log t g l G.more }

pub asynchrony-resilient : AsynchronyResilience
unfolding AsynchronyResilience AsynchronyResilienceSince
asynchrony-resilient N opened w run unforged one_block enough beat B lasting =
    asynchrony-resilient-since N opened w run unforged one_block enough beat B
    (lasting-by N w (λ t. Good N w) (GoodSince N w) beat B (good-since N w (beat / 3)) lasting)
