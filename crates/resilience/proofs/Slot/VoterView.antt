-- From its last Merge to its vote a voter's view has nothing that the proposer's view has not. Assumes nothing.
use Prim.Native.Nat.{ℕ, suc, ◌+◌, ◌-◌, ◌/◌, ◌%◌, ◌≤◌, ◌<◌}
use mathlib.Core.Path.{◌≡◌, refl, sym, ap, ◌∙◌, subst}
use mathlib.Core.Logic.{◌⊎◌, inl, inr}
use mathlib.Core.Bool.{true}
use mathlib.Core.List.Memᴰ
use mathlib.Core.List.{List, [], ◌∷◌}
use native.Mathlib.Omega.{arith}
use Rattle.protocol.specs.Entry.{Block, Vote}
use Rattle.protocol.specs.Store.{entries, view_of, Node}
use Rattle.protocol.specs.Packet.{packet_of}
use Rattle.protocol.specs.Calls.Receive.{receive_into, viewed_at_once}
use Rattle.protocol.proofs.Chain.Above.{known-down}
use Rattle.protocol.proofs.Chain.Relations.{In, Known, Above}
use Rattle.protocol.proofs.Filters.Relations.{Cast}
use Rattle.protocol.proofs.Store.Views.{view-stored}
use Rattle.protocol.proofs.Calls.Passed.{Receives}
use Rattle.protocol.proofs.Calls.Receive.{view-from, view-votes-from, Under, by-block, by-vote}
use Rattle.protocol.proofs.Calls.ViewedAtOnce.{viewed-at-once-true}
use Rattle.protocol.proofs.Calls.Vote.{vote-view}
use Rattle.protocol.proofs.Calls.Write.{others-in}
use Rattle.resilience.specs.Run.{Network, settings, is_honest, given, step}
use Rattle.resilience.specs.Resilience.{DeliveredAt}
use Rattle.resilience.proofs.Steps.Effect.{received_node}
use Rattle.resilience.proofs.Steps.Change.{Change, same, receives, proposes, votes, merges, change}
use Rattle.resilience.proofs.Runs.Trace.{at}
use Rattle.resilience.proofs.Runs.Execution.{Execution, world, log, stored_from, starts-fresh}
use Rattle.resilience.proofs.Runs.History.{beat-before}
use Rattle.resilience.proofs.Runs.Lasting.{lasting}
use Rattle.resilience.proofs.Invariants.Clock.{Merged}
use Rattle.resilience.proofs.Invariants.Blocks.{OfRun, one-block, stored-of-run}
use Rattle.resilience.proofs.Invariants.Chains.{above-in-log, above-in-list}
use Rattle.resilience.proofs.Invariants.Votes.{stored-recent}
use Rattle.resilience.proofs.Invariants.Proposals.{Built}
use Rattle.resilience.proofs.Delivery.Arrival.{StoreWithin, gossip-arrives, woken}
use Rattle.resilience.proofs.Slot.ProposerView.{block_of, proposer_view, votes_of, proposer}
use Rattle.resilience.proofs.Slot.Head.{turn-of, proposer-view-sound, proposer-view-of-run, proposer-vote-known}
use Rattle.resilience.proofs.Slot.ProposalReceived.{SameEntries, same_entries}

module _ {N : Network} {X : Execution N} {b p n y : ℕ} (Q : Built X b p n y) where
  pub record ViewWithin (x : Node) : Type 0 where
    pub blocks : (c : Block) → In c (view_of x.blocks) → In c (proposer_view Q)
    pub votes : (a : Vote) → Cast a (view_of x.votes) → Cast a (votes_of Q)

  -- as long as the clock is before the merge beat of the slot
  abbrev pub Inside : Node → Type 0
  Inside x = (b ≤ x.clock.done + 1) × (x.clock.seen ≤ b + 1 → ViewWithin x)

  -- what a block of p's view stands on is in p's view
  descend : (xs : List Block) → ((c : Block) → In c xs → OfRun X c) → (c : Block) → In c xs → (d : ℕ) → Known (proposer_view Q) d → Above xs c.number d
      → In c (proposer_view Q)
  descend xs of c m d k r =
      let g = known-down (proposer-view-sound Q) k (above-in-list X (proposer_view Q) (proposer-view-of-run Q) (proposer-view-sound Q) k (above-in-log X xs of r)) in
      subst (λ (z : Block). In z (proposer_view Q)) (one-block X g.0 c (proposer-view-of-run Q g.0 g.1) (of c m) g.2) g.1

  module _ (v : ℕ) (hv : is_honest N v ≡ true) (ne : v ≡ p → ⊥) where
    -- ---- what a packet brings into view is p's proposal

    module _ (k : ℕ) (l : k < X.end) (bytes : List ℕ) (R : Receives (settings N v) (N.places v) ((world X k).node v) (world X k).beat bytes)
        (f : (step N (world X k) (X.steps k)).node v ≡ received_node N (world X k) v bytes)
        (lg : (step N (world X k) (X.steps k)).log ≡ given (world X k).beat v bytes true ∷ (world X k).log) (h : Inside ((world X k).node v)) (s : (world X k).beat ≤ b + 1) where
      abbrev x1 : Node
      x1 = received_node N (world X k) v bytes

      before : ViewWithin ((world X k).node v)
      before = h.1 (omega (arith, R.base.after))

      entries-same : viewed_at_once ((world X k).node v) (world X k).beat (packet_of bytes) ≡ true → SameEntries Q bytes
      entries-same g =
          let r = viewed-at-once-true ((world X k).node v) (world X k).beat (packet_of bytes) g in
          same_entries Q k v bytes l lg r.kind (omega (arith, r.slot, R.base.after, R.base.good.time.done-seen, h.0, Q.beat))

      of : (c : Block) → In c (entries x1.blocks) → OfRun X c
      unfolding at
      of c m = stored-of-run X (suc k) l v hv c (subst (λ (x : Node). In c (entries x.blocks)) (sym f) m)

      viewed-block : (c : Block) → In c (view_of x1.blocks) → In c (proposer_view Q)
      viewed-block c m = go (view-from (settings N v) (N.places v) ((world X k).node v) (world X k).beat bytes R c m)
        where
          stood : SameEntries Q bytes → In c (entries x1.blocks) → Under (settings N v) (N.places v) ((world X k).node v) (world X k).beat bytes R c
              → In c (proposer_view Q)
          stood e i (by-block d j r) = descend (entries x1.blocks) of c i d.number (d, others-in (proposer_view Q) d (e.0.from d j), refl) r
          stood e i (by-vote a j r) = descend (entries x1.blocks) of c i a.number (proposer-vote-known Q a (e.1.from a j)) r

          go : In c (view_of ((world X k).node v).blocks) ⊎ ((viewed_at_once ((world X k).node v) (world X k).beat (packet_of bytes) ≡ true) × In c (entries x1.blocks)
              × Under (settings N v) (N.places v) ((world X k).node v) (world X k).beat bytes R c) → In c (proposer_view Q)
          go (inl i) = before.blocks c i
          go (inr i) = stood (entries-same i.0) i.1 i.2

      viewed-vote : (a : Vote) → Cast a (view_of x1.votes) → Cast a (votes_of Q)
      viewed-vote a m = go (view-votes-from (settings N v) (N.places v) ((world X k).node v) (world X k).beat bytes R a m)
        where
          go : Cast a (view_of ((world X k).node v).votes) ⊎ ((viewed_at_once ((world X k).node v) (world X k).beat (packet_of bytes) ≡ true) × Cast a (entries x1.votes)
              × Cast a (packet_of bytes).votes) → Cast a (votes_of Q)
          go (inl i) = before.votes a i
          go (inr i) = (entries-same i.0).1.from a i.2

    inside-step : (k : ℕ) → k < X.end → Inside ((world X k).node v) → Inside ((world X (suc k)).node v)
    unfolding at receive_into
    inside-step k l h = go (change N (world X k) (X.steps k) v)
      where
        go : Change N (world X k) (X.steps k) v → Inside ((step N (world X k) (X.steps k)).node v)
        go (same f) = rw f h
        go (receives bytes q R f lg) = rw f (h.0, λ s. record { blocks = viewed-block k l bytes R f lg h s; votes = viewed-vote k l bytes R f lg h s })
        go (proposes m q R f lg) = rw f (
          omega (arith, R.undone, h.0),
          λ s.
              let e : (world X k).beat / 3 ≡ b / 3 = omega (arith, R.undone, R.phase, h.0, Q.beat) in
              absurd (ne (sym R.own ∙ ap (λ z. z % N.nodes) e ∙ turn-of Q)),
        )
        go (votes m q R f lg) = rw f (
          omega (arith, R.undone, h.0),
          λ s.
              let o = h.1 (omega (arith, R.base.after)) in
              record {
                blocks = o.blocks;
                votes =
                    λ a i. o.votes a (subst (λ (z : List Vote). Cast a z) (vote-view (settings N v) (N.places v) ((world X k).node v) (world X k).beat R) i);
              },
        )
        go (merges m q R f lg tn) = rw f (omega (arith, R.undone, h.0), λ s. absurd (omega (arith, R.undone, R.phase, h.0, Q.beat)))

    pub inside-lasts : (a k : ℕ) → a ≤ k → k ≤ X.end → Inside ((world X a).node v) → Inside ((world X k).node v)
    inside-lasts a k l m h = lasting X v Inside inside-step a k l m h

    -- ---- where it begins

    -- for slot 1, at the start of the run
    pub inside-fresh : b / 3 ≡ 1 → Inside ((world X 0).node v)
    unfolding view_of
    inside-fresh e =
        rw (starts-fresh X v hv) (
          omega (arith, Q.beat),
          λ s. record { blocks = λ c m. rw (Memᴰ.eq_of_singleton m) (proposer-view-sound Q).start; votes = λ a m. absurd (Memᴰ.not-nil m) },
        )

    -- for a later slot, after the Merge of the slot before: v sent its store, and p had it at Propose
    pub inside-merged : DeliveredAt (b - 1) (log X) → (q : ℕ) → q + 1 ≡ b / 3 → (M : Merged X v q)
        → Inside ((world X (suc M.when)).node v)
    inside-merged del q e M = (
      omega (arith, ap (λ x. x.clock.done) M.after, M.beat, Q.beat),
      λ s. record {
        blocks = λ c m. Memᴰ.append_left (block_of Q ∷ []) (arrived.blocks c (view-stored ((world X (suc M.when)).node v).blocks c m));
        votes = λ a m. let n = view-stored ((world X (suc M.when)).node v).votes a m in arrived.votes a n (stored-recent X (suc M.when) v hv a n);
      },
    )
      where
        late : (world X (suc M.when)).beat < (world X Q.when).beat
        late = omega (arith, M.beat-after, Q.beat, Q.by.beat)

        arrived : StoreWithin (stored_from X (suc M.when) v) ((world X (suc M.when)).node v) (proposer Q)
        arrived =
            gossip-arrives X (b - 1) del (suc M.when) Q.when v p (let o = beat-before X (suc M.when) Q.when late in omega arith)
            Q.before hv M.turn
            (woken X Q.when p Q.before (_ ∷ []) (ap (λ o. o.log) Q.by.result)) (omega (arith, M.beat-after, Q.beat)) late
            Q.by.tests.base.within ne (stored_from X (suc M.when) v)
            (omega (arith, ap (λ x. x.clock.merged) M.after, M.beat, Q.beat, Q.by.beat))
