-- What the proposer sends in its slot: every proposal has the entries of its view after Propose, and one is sent before the next beat.
-- Assumes nothing.
use Prim.Native.Nat.{ℕ, suc, ◌/◌, ◌%◌, ◌≤◌, ◌<◌}
use mathlib.Core.Path.{◌≡◌, refl, sym, ap, ◌∙◌}
use mathlib.Core.Bool.{Bool, true, false, true≢false}
use mathlib.Core.List.{List, ◌∷◌}
use native.Mathlib.Omega.{arith}
use lib.Dec.{leb}
use borrow.Author.Tests.{leb-true, leb-false}
use Rattle.protocol.specs.declared.Width.TheVariants.{Wide}
use Rattle.protocol.specs.Store.{entries, view_of}
use Rattle.protocol.specs.Packet.{packet_of, is_proposal}
use Rattle.protocol.specs.Calls.Write.{gossip_of, proposal_of, sent_of, proposed_now, packet_out, last_block, after_genesis}
use Rattle.protocol.proofs.Calls.Write.{IsProposer, proposer-true, proposer-holds, last_end}
use Rattle.protocol.proofs.Calls.Keeps.{Keeps}
use Rattle.resilience.specs.Run.{Network, settings, sent, owes, owes_proposal, step}
use Rattle.resilience.proofs.Steps.Change.{turn-after}
use Rattle.resilience.proofs.Steps.Log.{SentBy}
use Rattle.resilience.proofs.Runs.Trace.{at}
use Rattle.resilience.proofs.Runs.Execution.{Execution, world}
use Rattle.resilience.proofs.Runs.History.{beat-before}
use Rattle.resilience.proofs.Runs.Lasting.{grows}
use Rattle.resilience.proofs.Invariants.Soundness.{sound-tables}
use Rattle.resilience.proofs.Invariants.Clock.{seen-beat}
use Rattle.resilience.proofs.Invariants.Proposals.{Built}
use Rattle.resilience.proofs.Delivery.Owed.{Sending, sends-before}
use Rattle.resilience.proofs.Delivery.Written.{written}
use Rattle.resilience.proofs.Delivery.Acceptance.{sent-reads}
use Rattle.resilience.proofs.Slot.ProposerView.{block_of, proposer, proposer_view, votes_of, node-is, own_view}

module _ {N : Network} {X : Execution N} {b p n y : ℕ} (Q : Built X b p n y) where
  -- ---- every proposal of the slot that p sends

  after-propose : (k : ℕ) → ((world X k).node p).clock.done ≡ b → Q.when < k
  after-propose k d = go (leb k Q.when) refl
    where
      go : (o : Bool) → leb k Q.when ≡ o → Q.when < k
      go true h = absurd (omega (arith, (grows X p k Q.when (leb-true k Q.when h) (omega (arith, Q.before))).done, Q.by.tests.undone, Q.by.beat))
      go false h = leb-false k Q.when h

  pub sent-view : (k c : ℕ) (bytes : List ℕ) → k < X.end → SentBy N (world X k) (X.steps k) c p bytes → is_proposal (packet_of bytes).kind ≡ true
      → (packet_of bytes).slot ≡ b / 3
      → ((packet_of bytes).blocks ≡ after_genesis (proposer_view Q)) × ((packet_of bytes).votes ≡ votes_of Q)
  unfolding gossip_of proposal_of sent_of
  sent-view k c bytes l S kind slot = go S.proposal refl
    where
      reads : (o : Bool) → S.proposal ≡ o → packet_of bytes ≡ sent_of o Wide ((world X k).node p)
      reads o e = sent-reads X k l c p bytes S ∙ ap (λ z. sent_of z Wide ((world X k).node p)) e

      go : (o : Bool) → S.proposal ≡ o → ((packet_of bytes).blocks ≡ after_genesis (proposer_view Q)) × ((packet_of bytes).votes ≡ votes_of Q)
      go false e = absurd (true≢false (sym kind ∙ ap (λ r. is_proposal r.kind) (reads false e)))
      go true e =
          let f = reads true e in
          let r = proposer-true (settings N p) ((world X k).node p) (S.proposes e) in
          let z : ((world X k).node p).clock.seen ≡ b = omega (arith, ap (λ o. o.slot) f, r.last, r.phase, Q.beat) in
          let v = own_view Q k (after-propose k (omega (arith, r.now))) (omega arith) (omega arith) in
          (ap (λ o. o.blocks) f ∙ ap after_genesis v.blocks, ap (λ o. o.votes) f ∙ v.votes)

  -- ---- one is sent before the next beat

  pub record SentProposal (m : ℕ) : Type 0 where
    pub when : ℕ
    pub before : when < m
    pub beat : (world X when).beat ≡ b
    pub now : proposed_now (settings N p) ((world X when).node p) ≡ true
    pub slot : (proposal_of Wide ((world X when).node p)).slot ≡ b / 3
    pub log : (step N (world X when) (X.steps when)).log ≡ sent (world X when).beat p (packet_out true Wide ((world X when).node p)) ∷ (world X when).log

  module _ (m : ℕ) (lm : m ≤ X.end) (late : b < (world X m).beat) where
    owed : owes_proposal ((world X (suc Q.when)).turn p) ≡ true
    unfolding at
    owed = ap owes_proposal (turn-after N (world X Q.when) (X.steps Q.when) p (owes true true) (ap (λ o. o.turn) Q.by.result))

    beat-then : (world X (suc Q.when)).beat ≡ b
    unfolding at
    beat-then = ap (λ o. o.beat) Q.by.result ∙ sym Q.by.beat

    s : Sending X p Q.honest true (suc Q.when) owed m
    s = sends-before X p Q.honest true (suc Q.when) owed m lm (omega (arith, beat-then)) (beat-before X Q.when m (omega (arith, Q.by.beat)))

    inside : s.when ≤ X.end
    inside = omega (arith, s.before)

    since : Keeps (settings N p) ((world X (suc Q.when)).node p) ((world X s.when).node p)
    since = grows X p (suc Q.when) s.when s.after inside

    seen-is : ((world X s.when).node p).clock.seen ≡ b
    seen-is = omega (arith, seen-beat X s.when p Q.honest, s.beat, beat-then, ap (λ x. x.clock.seen) (node-is Q), Q.by.beat, since.seen)

    done-is : ((world X s.when).node p).clock.done ≡ b
    done-is =
        let c = (sound-tables X s.when p Q.honest).time.done-seen in
        omega (arith, seen-is, ap (λ x. x.clock.done) (node-is Q), Q.by.beat, since.done)

    last-is : last_block (view_of ((world X s.when).node p).blocks) ≡ block_of Q
    last-is = ap last_block (own_view Q s.when s.after inside (omega (arith, seen-is))).blocks ∙ last_end (entries (proposer Q).blocks) (block_of Q)

    slot_is : ((world X s.when).node p).clock.seen / 3 ≡ b / 3
    slot_is = ap (λ z. z / 3) seen-is

    is-proposer : IsProposer (settings N p) ((world X s.when).node p)
    is-proposer = record {
      phase = omega (arith, seen-is, Q.beat);
      now = done-is ∙ sym seen-is;
      own = ap (λ k. k % N.nodes) (slot_is ∙ ap (λ z. z / 3) Q.by.beat) ∙ Q.by.tests.own;
      last = ap (λ o. o.slot) last-is ∙ sym slot_is;
    }

    pub sends-proposal : SentProposal m
    unfolding proposal_of
    sends-proposal =
        let now = proposer-holds (settings N p) ((world X s.when).node p) is-proposer in
        record {
          when = s.when;
          before = s.before;
          beat = s.beat ∙ beat-then;
          now = now;
          slot = ap (λ o. o.slot) last-is;
          log = written X s.when (omega (arith, s.before)) true p s.buffer s.is (λ e. now);
        }
