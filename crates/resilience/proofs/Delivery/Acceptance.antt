-- What an honest node writes and sends is accepted by every honest node that is given it afterwards, from its slot on. Assumes nothing.
use Prim.Native.Nat.{ℕ, suc, ◌/◌, ◌≤◌, ◌<◌}
use mathlib.Core.Path.{◌≡◌, refl, ap, ◌∙◌}
use mathlib.Core.Bool.{Bool, true, false, cond}
use mathlib.Core.List.{List, [], ◌∷◌, ◌++◌, Memᴰ}
use native.Mathlib.Omega.{arith}
use lib.ListN.{length}
use Rattle.protocol.specs.Entry.{Block, Vote}
use Rattle.protocol.specs.declared.Width.TheVariants.{Wide}
use Rattle.protocol.specs.Limits.{max_slot, limits_of}
use Rattle.protocol.specs.Chain.{genesis}
use Rattle.protocol.specs.Packet.{Packet, packet_of, packet_bytes}
use Rattle.protocol.specs.Refusal.{Refusal, by, first, Verdict, pass, refuse}
use Rattle.protocol.specs.Calls.Receive.{header_allowed, receive_tests}
use Rattle.protocol.specs.Calls.Write.{gossip_of, proposal_of, sent_of, proposed_now, packet_out, too_wide}
use Rattle.protocol.proofs.Chain.Relations.{In}
use Rattle.protocol.proofs.Filters.Relations.{Cast}
use Rattle.protocol.proofs.Store.FirstBad.{Allowed}
use Rattle.protocol.proofs.Store.Sound.{IsSound, sound-holds, VoteSound, store-sound}
use Rattle.protocol.proofs.Store.Follow.{all_follow}
use Rattle.protocol.proofs.Store.Views.{view-stored}
use Rattle.protocol.proofs.Packet.Bytes.{round_trip, written-well}
use Rattle.protocol.proofs.Packet.Ranges.{InRange}
use Rattle.protocol.proofs.Calls.Passed.{Receives, receives}
use Rattle.protocol.proofs.Exchange.Acceptance.{packet-allowed, lacking, verdict}
use Rattle.protocol.proofs.Exchange.Sendable.{Sendable, sending, store-sendable, view-sendable, sent-in}
use Rattle.protocol.proofs.Exchange.Sending.{sent-in-range, proposal-header}
use Rattle.resilience.specs.Run.{Network, settings, is_honest, Receive, sent, given, turned_away, for_want, step}
use Rattle.resilience.proofs.Steps.Effect.{received_node, receive-refused, receive-done}
use Rattle.resilience.proofs.Steps.Change.{node-after}
use Rattle.resilience.proofs.Steps.Log.{SentBy}
use Rattle.resilience.proofs.Runs.Trace.{at}
use Rattle.resilience.proofs.Runs.Execution.{Execution, world, sender-honest, receiver-honest}
use Rattle.resilience.proofs.Runs.Premises.{never-turns-away}
use Rattle.resilience.proofs.Invariants.Soundness.{sound-tables}
use Rattle.resilience.proofs.Invariants.Clock.{seen-beat}
use Rattle.resilience.proofs.Invariants.Numbers.{numbers-below}
use Rattle.resilience.proofs.Invariants.Blocks.{OfRun, one-block, stored-of-run}

module _ {N : Network} (X : Execution N) where
  -- ---- packets that meet all rules from a slot on

  pub record Acceptable (slot : ℕ) (p : Packet) : Type 0 where
    pub fits : InRange p
    pub follow : all_follow slot (genesis ∷ []) p.blocks ≡ true
    pub blocks : (c : Block) → In c p.blocks → OfRun X c
    pub votes : (a : Vote) → Cast a p.votes → VoteSound N.nodes slot (genesis ∷ p.blocks) a
    pub header : header_allowed p ≡ true

  sendable-acceptable : {slot : ℕ} {bs : List Block} {vs : List Vote} → Sendable N.nodes slot bs vs → ((c : Block) → In c bs → OfRun X c)
      → (kind t number : ℕ) → InRange (sending kind t number bs vs) → header_allowed (sending kind t number bs vs) ≡ true
      → Acceptable slot (sending kind t number bs vs)
  sendable-acceptable S of kind t number f hd = record {
    fits = f;
    follow = S.follow;
    blocks = λ c m. of c (sent-in S c m);
    votes = λ a m. rw S.root at (S.votes a m);
    header = hd;
  }

  pub outgoing-acceptable : (k : ℕ) → k ≤ X.end → (i : ℕ) → is_honest N i ≡ true → (proposal : Bool)
      → (proposal ≡ true → proposed_now (settings N i) ((world X k).node i) ≡ true)
      → Acceptable (((world X k).node i).clock.seen / 3) (sent_of proposal Wide ((world X k).node i))
  unfolding gossip_of proposal_of sent_of too_wide header_allowed
  outgoing-acceptable k l i h false f =
      let G = sound-tables X k i h in
      sendable-acceptable (store-sendable G) (stored-of-run X k l i h) 2 0 0 (sent-in-range G false Wide (numbers-below X i h k l) refl) refl
  outgoing-acceptable k l i h true f =
      let G = sound-tables X k i h in
      sendable-acceptable (view-sendable G) (λ c m. stored-of-run X k l i h c (view-stored ((world X k).node i).blocks c m)) _ _ _
      (sent-in-range G true Wide (numbers-below X i h k l) refl) (proposal-header G (f refl) Wide)

  -- what it sent reads as that packet
  pub sent-reads : (k : ℕ) → k < X.end → (b i : ℕ) (bytes : List ℕ) (S : SentBy N (world X k) (X.steps k) b i bytes)
      → packet_of bytes ≡ sent_of S.proposal Wide ((world X k).node i)
  unfolding packet_out
  sent-reads k l b i bytes S =
      ap packet_of S.value
      ∙ round_trip (sent_of S.proposal Wide ((world X k).node i))
      (outgoing-acceptable k (omega arith) i (sender-honest X k l S.proposal i S.buffer S.is) S.proposal S.proposes).fits

  -- ---- they are accepted

  -- an honest node sent these bytes before index k
  abbrev pub SentBefore : ℕ → List ℕ → Type 0
  SentBefore k bytes = (b : ℕ) × (i : ℕ) × Memᴰ (sent b i bytes) (world X k).log

  module _ (k : ℕ) (l : k < X.end) (j : ℕ) (slot : ℕ) (p : Packet) (O : Acceptable slot p) (is : X.steps k ≡ Receive j (packet_bytes p))
      (S : SentBefore k (packet_bytes p))
      (early : slot ≤ (world X k).beat / 3) (within : (world X k).beat / 3 ≤ max_slot) where
    honest : is_honest N j ≡ true
    honest = receiver-honest X k l j (packet_bytes p) is

    G : IsSound (settings N j) (N.places j) ((world X k).node j)
    G = sound-tables X k j honest

    rules-met : Allowed N.nodes ((world X k).beat / 3) ((world X k).node j) p
    rules-met =
        packet-allowed (OfRun X) (one-block X) slot ((world X k).beat / 3) early N.nodes ((world X k).node j) p (store-sound G)
        (stored-of-run X k (omega arith) j honest) O.blocks O.follow O.votes O.header

    abbrev tests : Verdict
    tests = first (receive_tests (settings N j) (N.places j) ((world X k).node j) (world X k).beat (packet_bytes p))

    -- only want is left
    left : (a b : Bool) → (limits_of (N.profile j)).too_long (length (packet_bytes p)) ≡ a → lacking (settings N j) (N.places j) ((world X k).node j) p ≡ b
        → tests ≡ cond a (refuse (by 24)) (cond b (refuse (by 10)) pass)
    left a b d e =
        verdict (settings N j) (N.places j) ((world X k).node j) (world X k).beat (packet_bytes p) p (round_trip p O.fits) (sound-holds G)
        (seen-beat X k j honest) within
        (written-well p O.fits) rules-met
        ∙ (λ o. cond (d o) (refuse (by 24)) (cond (e o) (refuse (by 10)) pass))

    -- and the packet was sent
    not-for-want : (q : Refusal) → for_want q ≡ true → tests ≡ refuse q → ⊥
    not-for-want q f e =
        never-turns-away X k l j (packet_bytes p)
        (ap (λ s. (step N (world X k) s).log) is ∙ ap (λ o. o.log) (receive-refused N (world X k) j (packet_bytes p) q e)
        ∙ ap (λ t. (cond t (turned_away (world X k).beat j (packet_bytes p) ∷ []) [] ++ (given (world X k).beat j (packet_bytes p) false ∷ [])) ++ (world X k).log) f)
        S.0 S.1 S.2

    passes : tests ≡ pass
    passes = go ((limits_of (N.profile j)).too_long (length (packet_bytes p))) (lacking (settings N j) (N.places j) ((world X k).node j) p) refl refl
      where
        go : (a b : Bool) → (limits_of (N.profile j)).too_long (length (packet_bytes p)) ≡ a → lacking (settings N j) (N.places j) ((world X k).node j) p ≡ b
            → tests ≡ pass
        go true b d e = absurd (not-for-want (by 24) refl (left true b d e))
        go false true d e = absurd (not-for-want (by 10) refl (left false true d e))
        go false false d e = left false false d e

    pub accepts : Receives (settings N j) (N.places j) ((world X k).node j) (world X k).beat (packet_bytes p)
    accepts = receives (settings N j) (N.places j) ((world X k).node j) (world X k).beat (packet_bytes p) passes

    pub accepts-node : (world X (suc k)).node j ≡ received_node N (world X k) j (packet_bytes p)
    unfolding at
    accepts-node =
        ap (λ s. (step N (world X k) s).node j) is
        ∙ node-after N (world X k) (Receive j (packet_bytes p)) j _ (ap (λ o. o.node) (receive-done N (world X k) j (packet_bytes p) passes))
