-- A voter whose clock says that it has the slot's proposal had one come into view, and then has all of the proposer's view but old votes.
-- Assumes nothing.
use Prim.Native.Nat.{ℕ, zero, suc, ◌/◌, ◌%◌, ◌≤◌, ◌<◌}
use mathlib.Core.Path.{◌≡◌, sym, ap, ◌∙◌, subst}
use mathlib.Core.Logic.{◌⊎◌, inl, inr}
use mathlib.Core.Bool.{Bool, true, false, cond}
use mathlib.Core.List.{List, ◌∷◌}
use native.Mathlib.Nat.{le_refl}
use native.Mathlib.Omega.{arith}
use Rattle.protocol.specs.Entry.{Block, Vote}
use Rattle.protocol.specs.Lists.{Same}
use Rattle.protocol.specs.Chain.{genesis}
use Rattle.protocol.specs.Store.{view_of, Node}
use Rattle.protocol.specs.Packet.{packet_of, is_proposal}
use Rattle.protocol.specs.Calls.Receive.{receive_into, viewed_at_once}
use Rattle.protocol.specs.Calls.Write.{after_genesis}
use Rattle.protocol.proofs.Basics.Tests.{split}
use Rattle.protocol.proofs.Chain.Relations.{In}
use Rattle.protocol.proofs.Filters.Relations.{Cast}
use Rattle.protocol.proofs.Store.Sound.{start-viewed}
use Rattle.protocol.proofs.Calls.Passed.{Receives}
use Rattle.protocol.proofs.Calls.Receive.{viewed-at-once-packet, viewed-at-once-votes, stores-votes}
use Rattle.protocol.proofs.Calls.ViewedAtOnce.{viewed-at-once-true}
use Rattle.protocol.proofs.Exchange.Sendable.{store-sendable, sent-cases}
use Rattle.resilience.specs.Run.{Network, settings, is_honest, sent, given, step}
use Rattle.resilience.proofs.Steps.Effect.{received_node}
use Rattle.resilience.proofs.Steps.Change.{Change, same, receives, proposes, votes, merges, change}
use Rattle.resilience.proofs.Steps.Log.{SentBy}
use Rattle.resilience.proofs.Steps.Allowed.{truth}
use Rattle.resilience.proofs.Runs.Trace.{at}
use Rattle.resilience.proofs.Runs.Execution.{Execution, world, stored_from, starts-fresh}
use Rattle.resilience.proofs.Runs.History.{from-log}
use Rattle.resilience.proofs.Runs.Lasting.{grows}
use Rattle.resilience.proofs.Runs.Premises.{genuine}
use Rattle.resilience.proofs.Invariants.Soundness.{sound-tables}
use Rattle.resilience.proofs.Invariants.Proposals.{Built}
use Rattle.resilience.proofs.Slot.ProposerView.{proposer_view, votes_of, stored-after}
use Rattle.resilience.proofs.Slot.ProposalSent.{sent-view}
use Rattle.resilience.proofs.Slot.Head.{turn-of}

module _ {N : Network} {X : Execution N} {b p n y : ℕ} (Q : Built X b p n y) where
  -- ---- an accepted proposal of the slot has the entries of p's view

  abbrev pub SameEntries : List ℕ → Type 0
  SameEntries bytes = Same Block (after_genesis (proposer_view Q)) (packet_of bytes).blocks × Same Vote (votes_of Q) (packet_of bytes).votes

  pub same_entries : (k v : ℕ) (bytes : List ℕ) → k < X.end → (step N (world X k) (X.steps k)).log ≡ given (world X k).beat v bytes true ∷ (world X k).log
      → is_proposal (packet_of bytes).kind ≡ true → (packet_of bytes).slot ≡ b / 3 → SameEntries bytes
  same_entries k v bytes l lg kind slot =
      let o : (packet_of bytes).slot % N.nodes ≡ p = ap (λ z. z % N.nodes) slot ∙ turn-of Q in
      let g = (genuine X k l v bytes lg).proposal kind (truth (ap (is_honest N) o ∙ Q.honest)) in
      let r = from-log X k (sent g.0 ((packet_of bytes).slot % N.nodes) g.1) g.2 in
      let S = subst (λ (z : ℕ). SentBy N (world X r.0) (X.steps r.0) g.0 z g.1) o r.2 in
      let e = sent-view Q r.0 g.0 g.1 (omega (arith, r.1)) S g.3 (g.4 ∙ slot) in (
        subst (λ (z : List Block). Same Block z (packet_of bytes).blocks) e.0 g.6,
        subst (λ (z : List Vote). Same Vote z (packet_of bytes).votes) e.1 g.7,
      )

  -- ---- where the clock says so, one was brought into view

  pub record Viewed (v : ℕ) : Type 0 where
    pub when : ℕ
    pub bytes : List ℕ
    pub tests : Receives (settings N v) (N.places v) ((world X when).node v) (world X when).beat bytes
    pub shows : viewed_at_once ((world X when).node v) (world X when).beat (packet_of bytes) ≡ true
    pub slot : (packet_of bytes).slot ≡ b / 3
    pub after : (world X (suc when)).node v ≡ received_node N (world X when) v bytes
    pub log : (step N (world X when) (X.steps when)).log ≡ given (world X when).beat v bytes true ∷ (world X when).log

  abbrev pub ViewedBefore : ℕ → ℕ → Type 0
  ViewedBefore k v = (r : Viewed v) × (r.when < k)

  pub viewed : (k v : ℕ) → is_honest N v ≡ true → (v ≡ p → ⊥) → ((world X k).node v).clock.proposed ≡ b / 3 → ViewedBefore k v
  unfolding at receive_into
  viewed zero v h ne e = absurd (omega (arith, Q.real, ap (λ x. x.clock.proposed) (starts-fresh X v h)))
  viewed (suc k) v h ne e = go (change N (world X k) (X.steps k) v) (λ f. viewed k v h ne f)
    where
      old : ViewedBefore k v → ViewedBefore (suc k) v
      old r = (r.0, omega (arith, r.1))

      go : Change N (world X k) (X.steps k) v → (((world X k).node v).clock.proposed ≡ b / 3 → ViewedBefore k v) → ViewedBefore (suc k) v
      go (same f) rec = old (rec (ap (λ x. x.clock.proposed) (sym f) ∙ e))
      go (receives bytes q R f lg) rec = pick (split (viewed_at_once ((world X k).node v) (world X k).beat (packet_of bytes)))
        where
          now : (o : Bool) → viewed_at_once ((world X k).node v) (world X k).beat (packet_of bytes) ≡ o
              → cond o (packet_of bytes).slot ((world X k).node v).clock.proposed ≡ b / 3
          now o h = ap (λ z. cond z (packet_of bytes).slot ((world X k).node v).clock.proposed) (sym h) ∙ ap (λ x. x.clock.proposed) (sym f) ∙ e

          pick : (viewed_at_once ((world X k).node v) (world X k).beat (packet_of bytes) ≡ true) ⊎ (viewed_at_once ((world X k).node v) (world X k).beat (packet_of bytes) ≡ false) → ViewedBefore (suc k) v
          pick (inl h) = (record { when = k; bytes = bytes; tests = R; shows = h; slot = now true h; after = f; log = lg }, le_refl (suc k))
          pick (inr h) = old (rec (now false h))
      go (proposes m q R f lg) rec =
          let s : (world X k).beat / 3 ≡ b / 3 = ap (λ x. x.clock.proposed) (sym f) ∙ e in
          absurd (ne (sym R.own ∙ ap (λ z. z % N.nodes) s ∙ turn-of Q))
      go (votes m q R f lg) rec = old (rec (ap (λ x. x.clock.proposed) (sym f) ∙ e))
      go (merges m q R f lg tn) rec = old (rec (ap (λ x. x.clock.proposed) (sym f) ∙ e))

  -- ---- so the view has all that p's has

  view-cases : (c : Block) → In c (proposer_view Q) → (c ≡ genesis) ⊎ In c (after_genesis (proposer_view Q))
  view-cases c m =
      subst (λ (l : List Block). In c l → (c ≡ genesis) ⊎ In c (after_genesis l)) (stored-after Q)
      (sent-cases (store-sendable (sound-tables X (suc Q.when) p Q.honest)) c) m

  module _ (k v : ℕ) (l : k ≤ X.end) (r : Viewed v) (before : r.when < k) where
    entries-same : SameEntries r.bytes
    entries-same =
        same_entries r.when v r.bytes (omega arith) r.log
        (viewed-at-once-true ((world X r.when).node v) (world X r.when).beat (packet_of r.bytes) r.shows).kind r.slot

    pub has-blocks : is_honest N v ≡ true → (c : Block) → In c (proposer_view Q) → In c (view_of ((world X k).node v).blocks)
    has-blocks h c m = go (view-cases c m)
      where
        go : (c ≡ genesis) ⊎ In c (after_genesis (proposer_view Q)) → In c (view_of ((world X k).node v).blocks)
        go (inl e) = rw e (start-viewed (sound-tables X k v h))
        go (inr o) =
            (grows X v (suc r.when) k before l).view-blocks c
            (subst (λ (x : Node). In c (view_of x.blocks)) (sym r.after)
            (viewed-at-once-packet (settings N v) (N.places v) ((world X r.when).node v) (world X r.when).beat r.bytes r.tests r.shows c
            (entries-same.0.to c o)))

    -- but for old votes
    pub has-votes : (a : Vote) → Cast a (votes_of Q) → stored_from X k v ≤ a.slot → Cast a (view_of ((world X k).node v).votes)
    has-votes a m s =
        let n = entries-same.1.to a m in
        (grows X v (suc r.when) k before l).view-votes a
        (subst (λ (x : Node). Cast a (view_of x.votes)) (sym r.after)
        (viewed-at-once-votes (settings N v) (N.places v) ((world X r.when).node v) (world X r.when).beat r.bytes r.tests r.shows a n
        (stores-votes (settings N v) (N.places v) ((world X r.when).node v) (world X r.when).beat r.bytes r.tests a n
        (omega (arith, (grows X v r.when k (omega arith) l).merged))))) s
