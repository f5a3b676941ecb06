-- Fast blocks hold: more than half of all nodes are honest and voted in the slot for the fast block or above it. Assumes nothing.
use Prim.Native.Nat.{ℕ, suc, ◌+◌, ◌*◌, ◌≤◌, ◌<◌}
use mathlib.Core.Path.{◌≡◌, refl, sym, ap, ◌∙◌, subst}
use mathlib.Core.Logic.{◌≢◌}
use mathlib.Core.Bool.{Bool, true, not, false≢true}
use mathlib.Core.List.{List}
use native.Mathlib.Nat.{le_refl}
use native.Mathlib.Omega.{arith}
use Rattle.protocol.specs.Entry.{Block, Vote}
use Rattle.protocol.specs.Filters.{Choice, chosen, nothing}
use Rattle.protocol.specs.Walk.{count_below, supports}
use Rattle.protocol.specs.Confirm.{valid_vote}
use Rattle.protocol.specs.Store.{view_of}
use Rattle.protocol.specs.Refusal.{first}
use Rattle.protocol.specs.Calls.Query.{query_tests, fast_of, fast_query}
use Rattle.protocol.proofs.Basics.Counting.{count-witness}
use Rattle.protocol.proofs.Basics.Tests.{and_left, and_right}
use Rattle.protocol.proofs.Chain.Above.{above-true, above-slot}
use Rattle.protocol.proofs.Chain.Relations.{In, Sound, Above}
use Rattle.protocol.proofs.Confirm.Fast.{FastIs, fast-is}
use Rattle.protocol.proofs.Confirm.Quorum.{honest_for, quorum-honest}
use Rattle.protocol.proofs.Confirm.Votes.{Voted, valid-is}
use Rattle.protocol.proofs.Store.Sound.{IsSound, store-sound, view-sound}
use Rattle.protocol.proofs.Store.Views.{view-stored}
use Rattle.protocol.proofs.Calls.Refusal.{answer-done}
use Rattle.resilience.specs.Run.{Network, World, settings, is_honest}
use Rattle.resilience.specs.Resilience.{AtOrAbove, DeliveredAt, Delivered, Majority, StaysAfter}
use Rattle.resilience.specs.DeepAgreement.{OneOfEvery}
use Rattle.resilience.specs.FastHolds.{dishonest, FoundStays, FoundAfterMerge, FastHolds, HasFast, FastHoldsAlways}
use Rattle.resilience.specs.Flooding.{FloodFastHolds}
use Rattle.resilience.specs.Asynchrony.{Good, AsynchronyFastHolds}
use Rattle.resilience.proofs.Steps.Allowed.{is_true, truth}
use Rattle.resilience.proofs.Runs.Onward.{run_on, carried-honest, carried-run}
use Rattle.resilience.proofs.Runs.Execution.{Execution, world, log, opened-ranges, by-passage}
use Rattle.resilience.proofs.Runs.Premises.{enough-for-honest}
use Rattle.resilience.proofs.Invariants.Soundness.{sound-tables}
use Rattle.resilience.proofs.Invariants.Blocks.{OfRun, stored-of-run}
use Rattle.resilience.proofs.Invariants.Chains.{above-in-log}
use Rattle.resilience.proofs.Later.Leads.{stored-ballot}
use Rattle.resilience.proofs.Later.OneOfEvery.{each-one}
use Rattle.resilience.proofs.Supported.{Supported, supported-stays, one-chain}

-- ---- at a point of an execution: the fast block F of node i for slot t is supported

module _ {N : Network} (X : Execution N) (few : 4 * dishonest N < N.nodes) (t k : ℕ) (l : k ≤ X.end) (i : ℕ) (h : is_honest N i ≡ true) (F : ℕ)
    (found : fast_of (settings N i) ((world X k).node i) t ≡ chosen F) where
  abbrev bs : List Block
  bs = view_of ((world X k).node i).blocks

  abbrev vs : List Vote
  vs = view_of ((world X k).node i).votes

  good : IsSound (settings N i) (N.places i) ((world X k).node i)
  good = sound-tables X k i h

  S : Sound bs
  S = view-sound good

  of-run : (c : Block) → In c bs → OfRun X c
  of-run c n = stored-of-run X k l i h c (view-stored ((world X k).node i).blocks c n)

  is-fast : FastIs bs vs N.nodes t (chosen F)
  unfolding fast_of
  is-fast = subst (FastIs bs vs N.nodes t) found (fast-is bs vs N.nodes t)

  abbrev B : Block
  B = is-fast.0

  -- the honest voters of slot t whom i sees at or above it
  abbrev sees : ℕ → Bool
  sees = honest_for bs vs N.honest t B.number

  -- are more than all others
  most : count_below (λ v. not (sees v)) N.nodes < count_below sees N.nodes
  unfolding dishonest
  most = quorum-honest bs vs N.honest N.nodes t B.number few is-fast.1.share

  vote-of : (v : ℕ) → sees v ≡ true → (x : ℕ) × Voted vs t v x × Above bs B.number x
  unfolding supports
  vote-of v f = go (valid_vote vs t v) refl (and_right (N.honest v) _ f)
    where
      go : (o : Choice) → valid_vote vs t v ≡ o → supports bs o B.number ≡ true → (x : ℕ) × Voted vs t v x × Above bs B.number x
      go nothing e q = absurd (false≢true q)
      go (chosen x) e q = (x, (valid-is vs t v x e).1, above-true S x B.number q)

  -- a vote is for a block of its slot or an earlier one
  not-later : B.slot ≤ t
  not-later =
      let u = count-witness (λ v. not (sees v)) sees N.nodes most in
      let r = vote-of u.0 u.2 in
      let c = good.closed-votes _ r.1 in
      let b = (good.votes _ (view-stored ((world X k).node i).votes _ r.1)).on in
      let e = (store-sound good).unique c.0 b.0 (view-stored ((world X k).node i).blocks c.0 c.1) b.1 (c.2 ∙ sym b.2) in
      omega (arith, above-slot S c.0 B c.1 is-fast.1.mem c.2 refl r.2, ap (λ o. o.slot) e, b.3)

  fast-supported : Supported N (world X X.end) t F
  fast-supported = record {
    block = B;
    of = of-run B is-fast.1.mem;
    is = is-fast.2;
    early = not-later;
    for = sees;
    more = most;
    on = λ v f.
        let r = vote-of v f in
        let g = and_left (N.honest v) _ f in (
          g,
          r.0,
          stored-ballot X k l i h (record { voter = v; slot = t; number = r.0 }) (view-stored ((world X k).node i).votes _ r.1) g,
          subst (λ (z : ℕ). AtOrAbove (log X) z r.0) is-fast.2 (above-in-log X bs of-run r.2),
        );
  }

-- ---- in a run

pub asynchrony-fast-holds : AsynchronyFastHolds
unfolding AsynchronyFastHolds
asynchrony-fast-holds N opened w few t arrive unforged one_block enough every i F H =
    let K = supported t i F H in
    let S = by-passage H.world w H.run H.onward opened unforged one_block enough
    (λ (o p : World). Supported N p t F → DeliveredAt (3 * t + 1) p.log → OneOfEvery N.expiry (Good N p) (suc t) p → StaysAfter t F p)
    (λ X k l. supported-stays X t F) K arrive every in
    (S, λ s j G l M. one-chain one_block t F s G l S K (supported s j G M))
  where
    supported : (t i F : ℕ) → HasFast N w i t F → Supported N w t F
    supported t i F H =
        by-passage H.world w H.run H.onward opened unforged one_block enough
        (λ (o p : World). fast_of (settings N i) (o.node i) t ≡ chosen F → Supported N p t F)
        (λ X k l. fast-supported X (omega arith) t k l i (is_true _ H.honest) F) H.fast

-- ---- what the customer asks for

-- where every later slot is good
pub fast-holds-always : FastHoldsAlways
unfolding FastHoldsAlways AsynchronyFastHolds Delivered Majority
fast-holds-always N opened w few t del unforged one_block enough maj i F H =
    asynchrony-fast-holds N opened w (omega arith) t (del (3 * t + 1) (le_refl (3 * t + 1))) unforged one_block enough
    (each-one N.expiry (Good N w) (suc t) w (opened-ranges N opened i H.honest).expiry
    (λ q l o. record { arrive = del (3 * q + 1) (omega arith); more = maj q l o })) i F H

-- the claim on some fast blocks, from the claim on more of them
pub stays_by : (w : World) (Found More : ℕ → ℕ → ℕ → Type 0) → ((i t F : ℕ) → Found i t F → More i t F) → (t : ℕ)
    → ((i F : ℕ) → Found i t F → FoundStays w More t) → FoundStays w Found t
stays_by w Found More f t claim i F H =
    let r = claim i F H i F (f i t F H) in
    (r.0, λ s j G l K. r.1 s j G l (f j s G K))

pub has-fast : (N : Network) (w : World) (i t F : ℕ) → FoundAfterMerge N w i t F → HasFast N w i t F
unfolding fast_query
has-fast N w i t F H = record {
  world = H.world;
  run = run_on (carried-run H.just_merged) H.since;
  honest = truth (carried-honest H.just_merged);
  fast = (answer-done (first (query_tests (settings N i) (N.places i) (H.world.node i) t)) _ _ H.fast).1;
  onward = H.onward;
}

pub flood-fast-holds : FloodFastHolds
unfolding FloodFastHolds FastHoldsAlways
flood-fast-holds N opened w few t del unforged one_block enough maj =
    stays_by w (FoundAfterMerge N w) (HasFast N w) (has-fast N w) t
    (λ i F H. fast-holds-always N opened w (omega arith) t del unforged one_block enough maj)

pub fast-holds : FastHolds
unfolding FastHolds FloodFastHolds
fast-holds N opened w few t del unforged one_block enough = flood-fast-holds N opened w (omega arith) t del unforged one_block (enough-for-honest enough)
