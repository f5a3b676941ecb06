-- What an honest node sends, the others have when they next wake: a packet that is sent arrives, and owed gossip brings over the sender's store
-- but old votes. Assumes nothing.
use Prim.Native.Nat.{ℕ, suc, ◌/◌, ◌≤◌, ◌<◌}
use mathlib.Core.Path.{◌≡◌, sym, ap, ◌∙◌, subst}
use mathlib.Core.Logic.{◌⊎◌, inl, inr}
use mathlib.Core.Bool.{true, false, false≢true}
use mathlib.Core.List.Memᴰ
use mathlib.Core.List.{List, ◌∷◌, ◌++◌, append_assoc}
use native.Mathlib.Omega.{arith}
use Rattle.protocol.specs.Entry.{Block, Vote}
use Rattle.protocol.specs.declared.Width.TheVariants.{Wide}
use Rattle.protocol.specs.Limits.{max_slot}
use Rattle.protocol.specs.Chain.{genesis}
use Rattle.protocol.specs.Store.{entries, Node}
use Rattle.protocol.specs.Packet.{Packet, packet_bytes}
use Rattle.protocol.specs.Calls.Write.{gossip_of, sent_of, packet_out}
use Rattle.protocol.proofs.Chain.Relations.{In}
use Rattle.protocol.proofs.Filters.Relations.{Cast}
use Rattle.protocol.proofs.Store.Sound.{store-sound}
use Rattle.protocol.proofs.Packet.Bytes.{round_trip}
use Rattle.protocol.proofs.Calls.Passed.{Receives}
use Rattle.protocol.proofs.Calls.Receive.{stores-blocks, stores-votes}
use Rattle.protocol.proofs.Exchange.Sendable.{store-sendable}
use Rattle.resilience.specs.Run.{Network, settings, is_honest, Receive, Event, woke, sent, given, owes_gossip, step}
use Rattle.resilience.specs.Resilience.{DeliveredAt}
use Rattle.resilience.proofs.Steps.Effect.{received_node}
use Rattle.resilience.proofs.Runs.Trace.{at}
use Rattle.resilience.proofs.Runs.Execution.{Execution, world, log, receiver-honest}
use Rattle.resilience.proofs.Runs.History.{beat-mono, log-later, log-has, logs, since-log}
use Rattle.resilience.proofs.Runs.Lasting.{grows}
use Rattle.resilience.proofs.Invariants.Soundness.{sound-tables}
use Rattle.resilience.proofs.Invariants.Clock.{seen-beat}
use Rattle.resilience.proofs.Invariants.Votes.{BeforeRemoval, not-removed}
use Rattle.resilience.proofs.Delivery.Owed.{Sending, sends-before}
use Rattle.resilience.proofs.Delivery.Written.{written}
use Rattle.resilience.proofs.Delivery.Acceptance.{Acceptable, outgoing-acceptable, SentBefore, accepts, accepts-node}

-- the store of x is part of that of y, but for votes of slots below `first`
pub record StoreWithin (first : ℕ) (x y : Node) : Type 0 where
  pub blocks : (c : Block) → In c (entries x.blocks) → In c (entries y.blocks)
  pub votes : (a : Vote) → Cast a (entries x.votes) → first ≤ a.slot → Cast a (entries y.votes)

module _ {N : Network} (X : Execution N) where
  -- ---- waking: the call of j at index m is in the log

  abbrev pub Woken : ℕ → ℕ → Type 0
  Woken m j = (newer : List Event) × (log X ≡ newer ++ (woke (world X m).beat j ∷ (world X m).log))

  pub woken : (m j : ℕ) → m < X.end → (es : List Event) → (step N (world X m) (X.steps m)).log ≡ es ++ (woke (world X m).beat j ∷ (world X m).log) → Woken m j
  unfolding at
  woken m j l es q =
      let r = log-later X (suc m) X.end l in
      (r.0 ++ es, r.1 ∙ ap (λ o. r.0 ++ o) q ∙ sym (append_assoc r.0 es (woke (world X m).beat j ∷ (world X m).log)))

  -- ---- a packet sent at index g is given to j, before it wakes at index m

  pub record Arrival (g m j : ℕ) (bytes : List ℕ) : Type 0 where
    pub when : ℕ
    pub after : g < when
    pub before : when < m
    pub is : X.steps when ≡ Receive j bytes
    pub sent : SentBefore X when bytes
    pub early : (world X when).beat < (world X m).beat

  module _ (at-beat : ℕ) (del : DeliveredAt at-beat (log X)) where
    pub arrives : (g m i j : ℕ) (bytes : List ℕ) → g < m → (step N (world X g) (X.steps g)).log ≡ sent (world X g).beat i bytes ∷ (world X g).log → Woken m j
        → (world X g).beat ≡ at-beat → (world X g).beat < (world X m).beat → (i ≡ j → ⊥) → Arrival g m j bytes
    unfolding at DeliveredAt
    arrives g m i j bytes l e w f b ne =
        let r = log-later X (suc g) m l in
        let d = (subst (λ (z : ℕ). DeliveredAt z (log X)) (sym f) del) j (world X m).beat w.0 (world X m).log w.1 i bytes r.0 (world X g).log (r.1 ∙ ap (λ o. r.0 ++ o) e) b ne in
        let s = since-log X (suc g) m l r.0 r.1 (given d.0 j bytes d.1.1) d.1.2 in
        let G = s.3 in
        record {
          when = s.0;
          after = s.1;
          before = s.2;
          is = G.is;
          sent = ((world X g).beat, i, log-has X (suc g) s.0 s.1 (sent (world X g).beat i bytes) (logs X g (sent (world X g).beat i bytes) (world X g).log e));
          early = omega (arith, G.beat, d.1.0);
        }

  -- an acceptable packet that arrives is in the store when j wakes
  module _ (g m j slot : ℕ) (p : Packet) (O : Acceptable X slot p) (lm : m < X.end) (A : Arrival g m j (packet_bytes p))
      (early : slot ≤ (world X A.when).beat / 3) (within : (world X m).beat / 3 ≤ max_slot) where
    soon : (world X A.when).beat / 3 ≤ max_slot
    soon = omega (arith, A.early)

    receiver : is_honest N j ≡ true
    receiver = receiver-honest X A.when (omega (arith, A.before)) j (packet_bytes p) A.is

    pub arrival-tests : Receives (settings N j) (N.places j) ((world X A.when).node j) (world X A.when).beat (packet_bytes p)
    arrival-tests = accepts X A.when (omega (arith, A.before)) j slot p O A.is A.sent early soon

    pub arrival-node : (world X (suc A.when)).node j ≡ received_node N (world X A.when) j (packet_bytes p)
    arrival-node = accepts-node X A.when (omega (arith, A.before)) j slot p O A.is A.sent early soon

    pub arrived-block : (c : Block) → In c (genesis ∷ p.blocks) → In c (entries ((world X m).node j).blocks)
    arrived-block c n = go (Memᴰ.cases_cons n)
      where
        go : (c ≡ genesis) ⊎ In c p.blocks → In c (entries ((world X m).node j).blocks)
        go (inl e) = rw e (store-sound (sound-tables X m j receiver)).start
        go (inr k) =
            (grows X j (suc A.when) m A.before (omega arith)).blocks c (rw arrival-node
            (stores-blocks (settings N j) (N.places j) ((world X A.when).node j) (world X A.when).beat (packet_bytes p) arrival-tests c
            (rw (round_trip p O.fits) k)))

    pub arrived-vote : (a : Vote) → Cast a p.votes → BeforeRemoval X m a.slot → Cast a (entries ((world X m).node j).votes)
    arrived-vote a n b =
        let r = not-removed X m j a.slot receiver b in
        (grows X j (suc A.when) m A.before (omega arith)).votes a (rw arrival-node
        (stores-votes (settings N j) (N.places j) ((world X A.when).node j) (world X A.when).beat (packet_bytes p) arrival-tests a
        (rw (round_trip p O.fits) n) (omega (arith, (grows X j A.when m (omega (arith, A.before)) (omega arith)).merged)))) r

  -- ---- gossip that i owes at index a has reached j when it wakes at a later beat

  module _ (at-beat : ℕ) (del : DeliveredAt at-beat (log X)) (a m i j : ℕ) (l : a ≤ m) (lm : m < X.end) (hi : is_honest N i ≡ true)
      (o : owes_gossip ((world X a).turn i) ≡ true)
      (w : Woken m j) (f : (world X a).beat ≡ at-beat) (b : (world X a).beat < (world X m).beat) (within : (world X m).beat / 3 ≤ max_slot) (ne : i ≡ j → ⊥) where
    s : Sending X i hi false a o m
    s = sends-before X i hi false a o m (omega arith) b l

    acceptable : Acceptable X (((world X s.when).node i).clock.seen / 3) (gossip_of Wide ((world X s.when).node i))
    unfolding sent_of
    acceptable = outgoing-acceptable X s.when (omega (arith, s.before)) i hi false (λ e. absurd (false≢true e))

    arrival : Arrival s.when m j (packet_bytes (gossip_of Wide ((world X s.when).node i)))
    unfolding packet_out sent_of
    arrival =
        arrives at-beat del s.when m i j (packet_bytes (gossip_of Wide ((world X s.when).node i))) s.before
        (written X s.when (omega (arith, s.before)) false i s.buffer s.is (λ e. absurd (false≢true e))) w (s.beat ∙ f)
        (omega (arith, s.beat)) ne

    early : ((world X s.when).node i).clock.seen / 3 ≤ (world X arrival.when).beat / 3
    early = omega (arith, seen-beat X s.when i hi, beat-mono X s.when arrival.when (omega (arith, arrival.after)))

    -- of the votes those from slot `first` on, which no node has removed by then
    pub gossip-arrives : (first : ℕ) → BeforeRemoval X m first → StoreWithin first ((world X a).node i) ((world X m).node j)
    unfolding gossip_of
    gossip-arrives first soon = record {
      blocks =
          λ c n. arrived-block s.when m j (((world X s.when).node i).clock.seen / 3)
          (gossip_of Wide ((world X s.when).node i)) acceptable lm arrival early within c
          (rw (store-sendable (sound-tables X s.when i hi)).root at ((grows X i a s.when s.after (omega (arith, s.before))).blocks c n));
      votes =
          λ v n r. arrived-vote s.when m j (((world X s.when).node i).clock.seen / 3)
          (gossip_of Wide ((world X s.when).node i)) acceptable lm arrival early within v
          ((grows X i a s.when s.after (omega (arith, s.before))).votes v n (not-removed X s.when i v.slot hi (omega (arith, s.beat))))
          (omega arith);
    }
