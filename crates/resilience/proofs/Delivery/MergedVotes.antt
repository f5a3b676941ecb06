-- A node that merged a slot, and no slot more than E later, has all honest votes of that slot in view. Assumes nothing.
use Prim.Native.Nat.{ℕ, suc, ◌+◌, ◌/◌, ◌≤◌, ◌<◌}
use mathlib.Core.Path.{◌≡◌, refl, sym, ap, ◌∙◌, subst}
use mathlib.Core.Bool.{Bool, true, false}
use mathlib.Core.List.{[]}
use native.Mathlib.Nat.{le_refl}
use native.Mathlib.Omega.{arith}
use lib.Dec.{eqb}
use borrow.Author.Tests.{eqb-true, eqb-false}
use Rattle.protocol.specs.Entry.{Vote}
use Rattle.protocol.specs.Store.{entries, view_of, kept_from}
use Rattle.protocol.proofs.Filters.Relations.{Cast}
use Rattle.protocol.proofs.Store.Since.{since-has}
use Rattle.protocol.proofs.Calls.Merge.{merge-view}
use Rattle.resilience.specs.Run.{Network, settings, is_honest, owes, owes_gossip}
use Rattle.resilience.specs.Resilience.{DeliveredAt}
use Rattle.resilience.proofs.Steps.Change.{votes, turn-after}
use Rattle.resilience.proofs.Runs.Trace.{at}
use Rattle.resilience.proofs.Runs.Execution.{Execution, world, log, stored_from}
use Rattle.resilience.proofs.Runs.History.{beat-before}
use Rattle.resilience.proofs.Runs.Lasting.{grows}
use Rattle.resilience.proofs.Invariants.Clock.{Merged, merged-when}
use Rattle.resilience.proofs.Invariants.Votes.{not-removed, Ballot, own-stored}
use Rattle.resilience.proofs.Delivery.Arrival.{woken, gossip-arrives}

module _ {N : Network} (X : Execution N) where
  -- what was stored at the Merge is in view afterwards, until it is old
  pub merged-vote : (k i q : ℕ) → k ≤ X.end → (M : Merged X i q) → M.when < k → (v : Vote) → Cast v (entries ((world X M.when).node i).votes)
      → stored_from X k i ≤ v.slot → Cast v (view_of ((world X k).node i).votes)
  merged-vote k i q l M b v m r =
      let g = grows X i (suc M.when) k b l in
      g.view-votes v (rw M.after (rw (merge-view (settings N i) (N.places i) ((world X M.when).node i) (world X M.when).beat M.tests)
      (since-has (kept_from (settings N i) ((world X M.when).beat / 3)) (entries ((world X M.when).node i).votes) v m
      (omega (arith, g.merged, ap (λ x. x.clock.merged) M.after))))) r

  -- ---- an honest vote is stored by a node that merges its slot or one up to E later, and in its view afterwards

  module _ (b : ℕ) (del : DeliveredAt b (log X)) (u x : ℕ) (A : Ballot X b u x) (k i : ℕ) (l : k ≤ X.end) where
    abbrev cast : Vote
    cast = record { voter = u; slot = b / 3; number = x }

    ballot-stored : (q : ℕ) → b / 3 ≤ q → q ≤ b / 3 + N.expiry → (M : Merged X i q) → M.when < k → Cast cast (entries ((world X M.when).node i).votes)
    unfolding at
    ballot-stored q since recent M o = go (eqb u i) refl
      where
        before : A.when < M.when
        before = beat-before X A.when M.when (omega (arith, A.beat, A.by.beat, M.beat))

        beat : (world X (suc A.when)).beat ≡ b
        beat = ap (λ o. o.beat) A.by.result ∙ sym A.by.beat

        go : (t : Bool) → eqb u i ≡ t → Cast cast (entries ((world X M.when).node i).votes)
        go true e =
            subst (λ (o : ℕ). Cast cast (entries ((world X M.when).node o).votes)) (eqb-true u i e)
            (own-stored X b u x A M.when before (omega arith) (not-removed X M.when u (b / 3) A.honest (omega (arith, M.beat))))
        go false e =
            (gossip-arrives X b del (suc A.when) M.when u i before (omega arith) A.honest
            (ap owes_gossip (turn-after N (world X A.when) (X.steps A.when) u (owes true false) (ap (λ o. o.turn) A.by.result)))
            (woken X M.when i (omega arith) [] M.log) beat (omega (arith, beat, A.beat, M.beat))
            M.tests.base.within (eqb-false u i e) (b / 3) (omega (arith, M.beat))).votes cast
            (own-stored X b u x A (suc A.when) (le_refl (suc A.when)) A.before (not-removed X (suc A.when) u (b / 3) A.honest (omega (arith, beat))))
            (le_refl (b / 3))

    pub ballot-in-view : is_honest N i ≡ true → b / 3 ≤ ((world X k).node i).clock.merged → ((world X k).node i).clock.merged ≤ b / 3 + N.expiry
        → Cast cast (view_of ((world X k).node i).votes)
    ballot-in-view h since recent =
        let r = merged-when X k i ((world X k).node i).clock.merged h (omega (arith, A.by.tests.joined, A.by.beat)) refl in
        merged-vote k i ((world X k).node i).clock.merged l r.0 r.1 cast (ballot-stored ((world X k).node i).clock.merged since recent r.0 r.1) (omega arith)
