-- A block that more than half of all nodes support in a slot, all of them honest, stays; and two such blocks are on one chain. Assumes nothing.
use Prim.Native.Nat.{ℕ, suc, ◌+◌, ◌*◌, ◌≤◌, ◌<◌}
use mathlib.Core.Path.{◌≡◌, refl, sym, ◌∙◌, subst}
use mathlib.Core.Logic.{◌⊎◌, ◌≢◌}
use mathlib.Core.Bool.{Bool, true, false, not}
use native.Mathlib.Nat.{le_refl}
use native.Mathlib.Omega.{arith}
use lib.Dec.{eqb}
use borrow.Author.Tests.{eqb-true, eqb-false, not-false}
use Rattle.protocol.specs.Entry.{Block}
use Rattle.protocol.specs.Chain.{genesis}
use Rattle.protocol.specs.Filters.{chosen}
use Rattle.protocol.specs.Walk.{count_below}
use Rattle.protocol.proofs.Basics.Counting.{count-not, count-witness, count-overlap}
use Rattle.protocol.proofs.Basics.Tests.{clashing}
use Rattle.protocol.proofs.Filters.Kept.{chosen-inj}
use Rattle.resilience.specs.Run.{Network, World}
use Rattle.resilience.specs.Resilience.{Gives, OneBlock, AtOrAbove, DeliveredAt, StaysAfter}
use Rattle.resilience.specs.DeepAgreement.{OneOfEvery}
use Rattle.resilience.specs.Asynchrony.{Good}
use Rattle.resilience.proofs.Runs.Execution.{Execution, world}
use Rattle.resilience.proofs.Invariants.Chains.{log-compare}
use Rattle.resilience.proofs.Later.Ballots.{ballot_in, ballot-voted}
use Rattle.resilience.proofs.Later.Leads.{Leads, all-lead}
use Rattle.resilience.proofs.Later.OneOfEvery.{one-by}
use Rattle.resilience.proofs.Later.EverySlot.{Carries, stays_after}

-- more than half of all nodes are honest and voted in slot t for F, which is a block of t or an earlier slot, or for one above it
pub record Supported (N : Network) (w : World) (t F : ℕ) : Type 0 where
  pub block : Block
  pub of : (block ≡ genesis) ⊎ Gives w.log block
  pub is : block.number ≡ F
  pub early : block.slot ≤ t
  pub for : ℕ → Bool
  pub more : count_below (λ v. not (for v)) N.nodes < count_below for N.nodes
  pub on : (v : ℕ) → for v ≡ true → (N.honest v ≡ true) × (x : ℕ) × (ballot_in w.log v t ≡ chosen x) × AtOrAbove w.log F x

-- ---- what is supported stays

module _ {N : Network} (X : Execution N) (t F : ℕ) (K : Supported N (world X X.end) t F) where
  leads : Leads X K.block.number t
  leads = record {
    for = K.for;
    against = λ v. not (K.for v);
    on = λ v o f. let r = K.on v f in (r.0, r.1, r.2, rw K.is r.3);
    neutral = λ v o f g. absurd (clashing (not-false (K.for v) g) f);
    more = K.more;
  }

  -- its slot needs no count, and a later good one carries it on
  pub supported-stays : DeliveredAt (3 * t + 1) (world X X.end).log → OneOfEvery N.expiry (Good N (world X X.end)) (suc t) (world X X.end)
      → StaysAfter t F (world X X.end)
  supported-stays arrive every =
      subst (λ (x : ℕ). StaysAfter t x (world X X.end)) K.is
      (stays_after X K.block K.of t K.early (record {
        first = λ o. record { arrive = arrive; leads = λ all. leads };
        every = one-by N.expiry (Good N (world X X.end)) (Carries X K.block.number t) (suc t) (suc t) (world X X.end) (le_refl (suc t))
            (λ q l o G. record { arrive = G.arrive; leads = λ all. all-lead X K.block.number q (all q l (le_refl (suc q))) G.more }) every;
      }))

-- ---- and two such blocks are on one chain

module _ {N : Network} {w : World} (one_block : OneBlock w.log) where
  -- of one slot: some honest voter is counted for both, and its one vote is above both
  same-slot : (t F G : ℕ) → Supported N w t F → Supported N w t G → AtOrAbove w.log F G ⊎ AtOrAbove w.log G F
  same-slot t F G K L =
      let c = count-not K.for N.nodes in
      let d = count-not L.for N.nodes in
      let v = count-overlap K.for L.for N.nodes (omega (arith, K.more, L.more)) in
      let p = K.on v.0 v.2 in
      let q = L.on v.0 v.3 in
      log-compare one_block (chosen-inj (sym p.2 ∙ q.2)) p.3 q.3

  -- of a later slot: an honest vote that is above the other is above this one
  later-slot : (t F s G : ℕ) → t < s → StaysAfter t F w → Supported N w s G → AtOrAbove w.log F G ⊎ AtOrAbove w.log G F
  later-slot t F s G l stays L =
      let v = count-witness (λ v. not (L.for v)) L.for N.nodes L.more in
      let q = L.on v.0 v.2 in
      let c = ballot-voted w.log v.0 s q.1 q.2 in
      log-compare one_block refl (stays.0 c.0 v.0 q.1 c.2 (omega (arith, c.1))) q.3

  pub one-chain : (t F s G : ℕ) → t ≤ s → StaysAfter t F w → Supported N w t F → Supported N w s G → AtOrAbove w.log F G ⊎ AtOrAbove w.log G F
  one-chain t F s G l stays K L = go (eqb t s) refl
    where
      go : (b : Bool) → eqb t s ≡ b → AtOrAbove w.log F G ⊎ AtOrAbove w.log G F
      go true e = same-slot t F G K (subst (λ (o : ℕ). Supported N w o G) (sym (eqb-true t s e)) L)
      go false e =
          let ne : t ≢ s = eqb-false t s e in
          later-slot t F s G (omega arith) stays L
