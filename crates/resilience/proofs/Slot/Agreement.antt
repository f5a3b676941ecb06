-- Every honest vote of the slot is for the proposed block: each voter's view has just the members of the proposer's. Assumes nothing.
use Prim.Native.Nat.{ℕ, zero, suc, ◌+◌, ◌-◌, ◌/◌, ◌≤◌, ◌<◌}
use mathlib.Core.Path.{◌≡◌, refl, sym, ap, ◌∙◌, subst}
use mathlib.Core.Logic.{◌⊎◌, inl, inr}
use mathlib.Core.Bool.{Bool, true, false, cond}
use mathlib.Core.List.{List, [], ◌∷◌}
use native.Mathlib.Omega.{arith}
use lib.Dec.{eqb}
use borrow.Author.Tests.{eqb-true, eqb-false}
use Rattle.protocol.specs.Entry.{Block, Vote}
use Rattle.protocol.specs.declared.Width.TheVariants.{Wide}
use Rattle.protocol.specs.Lists.{Same}
use Rattle.protocol.specs.Store.{view_of}
use Rattle.protocol.specs.Packet.{Packet, packet_of, packet_bytes, is_proposal}
use Rattle.protocol.specs.Calls.Receive.{receive_into, viewed_at_once}
use Rattle.protocol.specs.Calls.Vote.{head_of}
use Rattle.protocol.specs.Calls.Write.{proposal_of, sent_of, packet_out}
use Rattle.protocol.proofs.Basics.Members.{same_refl}
use Rattle.protocol.proofs.Basics.Tests.{split}
use Rattle.protocol.proofs.Filters.Relations.{Cast}
use Rattle.protocol.proofs.Store.Sound.{view-sound}
use Rattle.protocol.proofs.Packet.Bytes.{round_trip}
use Rattle.protocol.proofs.Calls.ViewedAtOnce.{viewed-before}
use Rattle.resilience.specs.Run.{Network, settings}
use Rattle.resilience.specs.Resilience.{DeliveredAt}
use Rattle.resilience.proofs.Runs.Execution.{Execution, world, log, stored_from}
use Rattle.resilience.proofs.Runs.History.{beat-mono, beat-before}
use Rattle.resilience.proofs.Invariants.Soundness.{sound-tables}
use Rattle.resilience.proofs.Invariants.Clock.{seen-beat, merged-when}
use Rattle.resilience.proofs.Invariants.Votes.{stored-recent, Ballot}
use Rattle.resilience.proofs.Invariants.Proposals.{Built}
use Rattle.resilience.proofs.Delivery.Acceptance.{Acceptable, outgoing-acceptable}
use Rattle.resilience.proofs.Delivery.Arrival.{Arrival, arrives, arrival-node, woken}
use Rattle.resilience.proofs.Slot.ProposerView.{proposer_view, votes_of, ViewIs, own_view}
use Rattle.resilience.proofs.Slot.ProposalSent.{SentProposal, sends-proposal}
use Rattle.resilience.proofs.Slot.Head.{head-is}
use Rattle.resilience.proofs.Slot.ProposalReceived.{ViewedBefore, viewed, has-blocks, has-votes}
use Rattle.resilience.proofs.Slot.VoterView.{Inside, inside-lasts, inside-fresh, inside-merged}

module _ {N : Network} {X : Execution N} {b p n y : ℕ} (Q : Built X b p n y) where
  -- who votes in the slot from this view votes for the block
  votes-block : (c v x : ℕ) (A : Ballot X c v x) → c / 3 ≡ b / 3 → Same Block (view_of ((world X A.when).node v).blocks) (proposer_view Q)
      → Same Vote (view_of ((world X A.when).node v).votes) (votes_of Q) → x ≡ n
  unfolding head_of
  votes-block c v x A now s z =
      A.by.value ∙ ap (head_of (settings N v) ((world X A.when).node v)) (ap (λ o. o / 3) (sym A.by.beat) ∙ now)
      ∙ head-is Q (view_of ((world X A.when).node v).blocks) (view_of ((world X A.when).node v).votes)
      (view-sound (sound-tables X A.when v A.honest)) s z

  -- ---- the proposer itself

  own-agrees : (c x : ℕ) (A : Ballot X c p x) → c / 3 ≡ b / 3 → x ≡ n
  own-agrees c x A now =
      votes-block c p x A now (subst (λ (l : List Block). Same Block l (proposer_view Q)) (sym view.blocks) (same_refl Block (proposer_view Q)))
      (subst (λ (l : List Vote). Same Vote l (votes_of Q)) (sym view.votes) (same_refl Vote (votes_of Q)))
    where
      view : ViewIs Q ((world X A.when).node p)
      view =
          own_view Q A.when (beat-before X Q.when A.when (omega (arith, Q.beat, Q.by.beat, A.beat, A.by.beat))) (omega (arith, A.before))
          (omega (arith, seen-beat X A.when p Q.honest, A.beat, A.by.beat, Q.beat))

  -- ---- another voter

  module _ (before : DeliveredAt (b - 1) (log X)) (del : DeliveredAt b (log X)) (c v x : ℕ) (A : Ballot X c v x) (now : c / 3 ≡ b / 3) (ne : v ≡ p → ⊥) where
    beat-now : (world X A.when).beat ≡ b + 1
    beat-now = omega (arith, A.beat, A.by.beat, Q.beat)

    joined : ((world X A.when).node v).clock.merged + 1 ≡ b / 3
    joined = A.by.tests.joined ∙ ap (λ z. z / 3) (sym A.by.beat) ∙ now

    inside : Inside Q ((world X A.when).node v)
    inside = go ((world X A.when).node v).clock.merged refl
      where
        go : (q : ℕ) → ((world X A.when).node v).clock.merged ≡ q → Inside Q ((world X A.when).node v)
        go zero e =
            inside-lasts Q v A.honest ne 0 A.when (omega arith) (omega (arith, A.before)) (inside-fresh Q v A.honest ne (omega (arith, joined)))
        go (suc q) e =
            let r = merged-when X A.when v (suc q) A.honest (omega arith) e in
            inside-lasts Q v A.honest ne (suc r.0.when) A.when r.1 (omega (arith, A.before))
            (inside-merged Q v A.honest ne before (suc q) (omega (arith, joined)) r.0)

    -- p's proposal has reached v, at the propose beat
    proposal : SentProposal Q A.when
    proposal = sends-proposal Q A.when (omega (arith, A.before)) (omega (arith, beat-now))

    abbrev packet : Packet
    packet = proposal_of Wide ((world X proposal.when).node p)

    acceptable : Acceptable X (((world X proposal.when).node p).clock.seen / 3) packet
    unfolding sent_of
    acceptable = outgoing-acceptable X proposal.when (omega (arith, proposal.before, A.before)) p Q.honest true (λ e. proposal.now)

    arrival : Arrival X proposal.when A.when v (packet_bytes packet)
    unfolding packet_out sent_of
    arrival =
        arrives X b del proposal.when A.when p v (packet_bytes packet) proposal.before proposal.log
        (woken X A.when v A.before (_ ∷ []) (ap (λ o. o.log) A.by.result)) proposal.beat
        (omega (arith, proposal.beat, beat-now)) (λ e. ne (sym e))

    arrival-beat : (world X arrival.when).beat ≡ b
    arrival-beat = omega (arith, proposal.beat, arrival.early, beat-now, beat-mono X proposal.when arrival.when (omega (arith, arrival.after)))

    early : ((world X proposal.when).node p).clock.seen / 3 ≤ (world X arrival.when).beat / 3
    early = omega (arith, seen-beat X proposal.when p Q.honest, proposal.beat, arrival-beat)

    -- so its clock has the slot's proposal
    proposed-is : ((world X (suc arrival.when)).node v).clock.proposed ≡ b / 3
    unfolding receive_into proposal_of
    proposed-is =
        ap (λ x. x.clock.proposed) (arrival-node X proposal.when A.when v (((world X proposal.when).node p).clock.seen / 3) packet acceptable
        A.before arrival early A.by.tests.base.within)
        ∙ go (split (viewed_at_once ((world X arrival.when).node v) (world X arrival.when).beat (packet_of (packet_bytes packet))))
      where
        read : packet_of (packet_bytes packet) ≡ packet
        read = round_trip packet acceptable.fits

        slot_is : (packet_of (packet_bytes packet)).slot ≡ b / 3
        slot_is = ap (λ o. o.slot) read ∙ proposal.slot

        go : (viewed_at_once ((world X arrival.when).node v) (world X arrival.when).beat (packet_of (packet_bytes packet)) ≡ true)
            ⊎ (viewed_at_once ((world X arrival.when).node v) (world X arrival.when).beat (packet_of (packet_bytes packet)) ≡ false)
            → cond (viewed_at_once ((world X arrival.when).node v) (world X arrival.when).beat (packet_of (packet_bytes packet))) (packet_of (packet_bytes packet)).slot ((world X arrival.when).node v).clock.proposed
            ≡ b / 3
        go (inl h) = ap (λ z. cond z (packet_of (packet_bytes packet)).slot ((world X arrival.when).node v).clock.proposed) h ∙ slot_is
        go (inr h) =
            ap (λ z. cond z (packet_of (packet_bytes packet)).slot ((world X arrival.when).node v).clock.proposed) h
            ∙ viewed-before ((world X arrival.when).node v) (world X arrival.when).beat (packet_of (packet_bytes packet)) h (ap (λ o. is_proposal o.kind) read)
            (omega (arith, slot_is, arrival-beat, Q.beat))
            ∙ slot_is

    seen-it : ViewedBefore Q (suc arrival.when) v
    seen-it = viewed Q (suc arrival.when) v A.honest ne proposed-is

    seen-now : ((world X A.when).node v).clock.seen ≤ b + 1
    seen-now = omega (arith, seen-beat X A.when v A.honest, beat-now)

    -- both have merged the slot before and nothing later, so they have removed the same votes
    kept-by-both : (a : Vote) → Cast a (votes_of Q) → stored_from X A.when v ≤ a.slot
    kept-by-both a m = omega (arith, stored-recent X Q.when p Q.honest a m, Q.by.tests.joined, Q.by.beat, joined)

    other-agrees : x ≡ n
    other-agrees =
        let o = inside.1 seen-now in
        let l : A.when ≤ X.end = omega (arith, A.before) in
        let r : seen-it.0.when < A.when = omega (arith, seen-it.1, arrival.before) in
        votes-block c v x A now
        (record { to = o.blocks; from = λ d m. has-blocks Q A.when v l seen-it.0 r A.honest d m })
        (record { to = o.votes; from = λ a m. has-votes Q A.when v l seen-it.0 r a m (kept-by-both a m) })

  -- ---- all voters

  pub agreement : DeliveredAt (b - 1) (log X) → DeliveredAt b (log X) → (c v x : ℕ) → Ballot X c v x → c / 3 ≡ b / 3 → x ≡ n
  agreement before del c v x A now = go (eqb v p) refl
    where
      go : (o : Bool) → eqb v p ≡ o → x ≡ n
      go true h = own-agrees c x (subst (λ (z : ℕ). Ballot X c z x) (eqb-true v p h) A) now
      go false h = other-agrees before del c v x A now (eqb-false v p h)
