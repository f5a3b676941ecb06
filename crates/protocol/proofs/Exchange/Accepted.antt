-- What an honest node writes is accepted by a sound node of the same n, at a beat that both allow and where no number names two blocks:
-- it is refused only if it is too long for the receiver, by 24, or if places are short, by 10. Assumes nothing.
use Prim.Native.Nat.{ℕ, ◌/◌, ◌^◌, ◌≤◌, ◌<◌}
use mathlib.Core.Path.{◌≡◌, refl, sym, ap, ◌∙◌}
use mathlib.Core.Logic.{◌⊎◌, inl, inr, ⊎_map}
use mathlib.Core.Bool.{Bool, true, false, cond}
use mathlib.Core.List.{List}
use native.Mathlib.Omega.{arith}
use lib.ListN.{length, take}
use lib.Dec.{ltb}
use borrow.Author.Tests.{ltb-true}
use Rattle.protocol.specs.declared.Settings.{Settings}
use Rattle.protocol.specs.declared.Width.{Width}
use Rattle.protocol.specs.Limits.{max_slot, limits_of}
use Rattle.protocol.specs.Store.{entries, kept_from, Places, Node}
use Rattle.protocol.specs.Packet.{Packet, packet_of, well_formed}
use Rattle.protocol.specs.Refusal.{Refusal, by, pass, refuse, refused, done, first}
use Rattle.protocol.specs.Calls.Receive.{blocks_after, votes_after, viewed_at_once, receive_answer, receive_into, receive_tests, receive}
use Rattle.protocol.specs.Calls.Write.{gossip_of, proposal_of, sent_of, proposed_now, packet_out, write}
use Rattle.protocol.specs.RoundTrip.{NumbersBelow}
use Rattle.protocol.proofs.Basics.Tests.{either}
use Rattle.protocol.proofs.Store.FirstBad.{Allowed}
use Rattle.protocol.proofs.Store.Sound.{IsSound, sound-holds}
use Rattle.protocol.proofs.Packet.Ranges.{InRange}
use Rattle.protocol.proofs.Packet.Bytes.{round_trip, written-well}
use Rattle.protocol.proofs.Calls.Refusal.{unless-refused}
use Rattle.protocol.proofs.Calls.Write.{Wrote, wrote}
use Rattle.protocol.proofs.Exchange.Acceptance.{lacking, verdict, accepted, Agree}
use Rattle.protocol.proofs.Exchange.Sending.{sent-in-range, gossip-welcome, proposal-welcome}

-- Sender x and receiver y: the receiver is sound and of the same n, both allow the beat, and no number names two blocks.
pub record Meet (s : Settings) (x : Node) (s' : Settings) (pl' : Places) (y : Node) (beat : ℕ) : Type 0 where
  pub numbers : NumbersBelow (2 ^ 128) x
  pub good : IsSound s' pl' y
  pub nodes : s'.nodes ≡ s.nodes
  pub sender : x.clock.seen ≤ beat
  pub receiver : y.clock.seen ≤ beat
  pub within : beat / 3 ≤ max_slot
  pub agree : Agree (entries y.blocks) (entries x.blocks)

module _ (s : Settings) (pl : Places) (x : Node) (proposal : Bool) (width : Width) (buffer : List ℕ) (n : ℕ) (d : (write s pl x proposal width buffer).answer ≡ done n)
    (s' : Settings) (pl' : Places) (y : Node) (beat : ℕ) (M : Meet s x s' pl' y beat) where
  -- the bytes that were written, and the packet that they are
  abbrev bytes : List ℕ
  bytes = take n (write s pl x proposal width buffer).buffer

  abbrev sent : Packet
  sent = sent_of proposal width x

  W : Wrote s pl x proposal width buffer n
  W = wrote s pl x proposal width buffer n d

  size : length bytes ≡ n
  size = ap length W.bytes ∙ sym W.size

  fits : InRange sent
  fits = sent-in-range W.good proposal width M.numbers W.fits

  read : packet_of (packet_out proposal width x) ≡ sent
  unfolding packet_out
  read = round_trip sent fits

  formed : well_formed (packet_out proposal width x) ≡ true
  unfolding packet_out
  formed = written-well sent fits

  allowed : Allowed s'.nodes (beat / 3) y sent
  unfolding sent_of
  allowed = rw M.nodes (go proposal W.proposes)
    where
      go : (b : Bool) → (b ≡ true → proposed_now s x ≡ true) → Allowed s.nodes (beat / 3) y (cond b (proposal_of width x) (gossip_of width x))
      go false h = (gossip-welcome W.good M.good M.nodes beat M.sender M.receiver M.within M.agree width).allowed
      go true h = (proposal-welcome W.good M.good M.nodes beat M.sender M.receiver M.within M.agree (h refl) width).allowed

  -- too long for the receiver
  abbrev long : Bool
  long = (limits_of s'.profile).too_long n

  pub sent-verdict : first (receive_tests s' pl' y beat bytes) ≡ cond long (refuse (by 24)) (cond (lacking s' pl' y sent) (refuse (by 10)) pass)
  sent-verdict =
      verdict s' pl' y beat bytes sent (ap packet_of W.bytes ∙ read) (sound-holds M.good) M.receiver M.within
      (ap well_formed W.bytes ∙ formed) allowed
      ∙ ap (λ k. cond ((limits_of s'.profile).too_long k) (refuse (by 24)) (cond (lacking s' pl' y sent) (refuse (by 10)) pass)) size

  pub sent-accepted : long ≡ false → length (blocks_after y sent) ≤ pl'.blocks → length (votes_after (kept_from s' y.clock.merged) y sent) ≤ pl'.votes
      → receive s' pl' y beat bytes ≡ record {
        answer = done (receive_answer (kept_from s' y.clock.merged) y beat sent);
        node = receive_into (kept_from s' y.clock.merged) (viewed_at_once y beat sent) beat y sent;
      }
  sent-accepted short =
      accepted s' pl' y beat bytes sent (ap packet_of W.bytes ∙ read) (sound-holds M.good) M.receiver M.within
      (ap well_formed W.bytes ∙ formed) allowed (ap (limits_of s'.profile).too_long size ∙ short)

  -- the places of one table are fewer than its entries would be
  abbrev Short : Type 0
  Short = (pl'.blocks < length (blocks_after y sent)) ⊎ (pl'.votes < length (votes_after (kept_from s' y.clock.merged) y sent))

  pub sent-refused : (k : Refusal) → (receive s' pl' y beat bytes).answer ≡ refused k → ((k ≡ by 24) × (long ≡ true)) ⊎ ((k ≡ by 10) × Short)
  unfolding receive
  sent-refused k e = go long (lacking s' pl' y sent) refl refl (sym sent-verdict ∙ (unless-refused (first (receive_tests s' pl' y beat bytes)) y _ _ k e).0)
    where
      go : (a b : Bool) → long ≡ a → lacking s' pl' y sent ≡ b → cond a (refuse (by 24)) (cond b (refuse (by 10)) pass) ≡ refuse k
          → ((k ≡ by 24) × (long ≡ true)) ⊎ ((k ≡ by 10) × Short)
      go true b p q h = inl (cc, p)
      go false true p q h = inr (cc, ⊎_map (ltb-true pl'.blocks (length (blocks_after y sent))) (ltb-true pl'.votes (length (votes_after (kept_from s' y.clock.merged) y sent))) (either (ltb pl'.blocks (length (blocks_after y sent))) _ q))
      go false false p q h = let z : ◌≡◌ {A = ℕ} 0 1 = cc in absurd (omega arith)
