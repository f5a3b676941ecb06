-- A narrow packet and the wide one of the same header and entries are taken alike. Assumes nothing.
use Prim.Native.Nat.{ℕ, zero, suc, ◌+◌, ◌/◌, ◌^◌, ◌<◌, ◌≤◌}
use mathlib.Core.Path.{◌≡◌, refl, sym, ap, ◌∙◌}
use mathlib.Core.Bool.{true, false, not, ◌||◌}
use mathlib.Core.List.{List, [], ◌∷◌}
use native.Mathlib.Nat.{lt_of_lt_of_le}
use native.Mathlib.Omega.{arith}
use lib.Dec.{ltb, lit≤}
use lib.ListN.{length}
use Rattle.protocol.specs.declared.Settings.{Settings}
use Rattle.protocol.specs.Limits.{limits_of}
use Rattle.protocol.specs.Store.{entries, kept_from, Places, Node}
use Rattle.protocol.specs.Packet.{Packet, packet_bytes, packet_of, header_formed, well_formed}
use Rattle.protocol.specs.Refusal.{Test, test, test_section, first, Outcome, unless, unsound, wrong_beat}
use Rattle.protocol.specs.Calls.Receive.{header_allowed, blocks_after, votes_after, first_bad_block, first_bad_vote, viewed_at_once, stood_on, Received, receive_answer, receive_into, receive_tests, receive}
use Rattle.protocol.specs.Calls.Fit.{packet_tests}
use Rattle.protocol.specs.RoundTrip.{WidthUnseen}
use Rattle.protocol.proofs.Packet.Ranges.{BlockFits, VoteFits, FieldsFit, InRange}
use Rattle.protocol.proofs.Packet.Numbers.{bytes-by-index, each_holds, each-true}
use Rattle.protocol.proofs.Limits.{shorter}
use Rattle.protocol.proofs.Packet.Bytes.{packet-length, round_trip, written-well, read-in-range, canonical}

-- the packet with another kind
abbrev of_kind : ℕ → Packet → Packet
of_kind kind q = record { kind = kind; slot = q.slot; number = q.number; blocks = q.blocks; votes = q.votes }

-- ---- what fits 8 bytes fits 16

more : {n : ℕ} → n < 256 ^ 8 → n < 256 ^ 16
more h = lt_of_lt_of_le h (lit≤ tt)

widened : (kind : ℕ) (q : Packet) → kind < 256 → FieldsFit 8 q → FieldsFit 16 (of_kind kind q)
widened kind q k F = record {
  kind = k;
  slot = F.slot;
  number = more F.number;
  blocks = each_holds (BlockFits 16) q.blocks (λ b m. let f = each-true (BlockFits 8) F.blocks b m in record { number = more f.number; parent = more f.parent; slot = f.slot });
  votes = each_holds (VoteFits 16) q.votes (λ a m. let f = each-true (VoteFits 8) F.votes a m in record { voter = f.voter; slot = f.slot; number = more f.number });
  block_count = F.block_count;
  vote_count = F.vote_count;
}

-- ---- Receive, by the packet that was read

module _ (s : Settings) (pl : Places) (x : Node) (beat : ℕ) where
  -- not too long for the node
  abbrev Short : List ℕ → Type 0
  Short bytes = (limits_of s.profile).too_long (length bytes) ≡ false

  tests : Packet → List Test
  tests p =
      unsound s pl x
      ∷ wrong_beat x beat
      ∷ test 24 false
      ∷ test 8 (not true)
      ∷ test_section 9 (first_bad_block (beat / 3) (entries x.blocks) p.blocks) p.blocks
      ∷ test_section 20 (first_bad_vote s.nodes (beat / 3) (blocks_after x p) p.votes) p.votes
      ∷ test 21 (not (header_allowed p))
      ∷ test 10 (ltb pl.blocks (length (blocks_after x p)) || ltb pl.votes (length (votes_after (kept_from s x.clock.merged) x p)))
      ∷ []

  taken : Packet → Outcome Received
  taken p = unless (first (tests p)) x (receive_answer (kept_from s x.clock.merged) x beat p) (receive_into (kept_from s x.clock.merged) (viewed_at_once x beat p) beat x p)

  read_as : (bytes : List ℕ) (p : Packet) → packet_of bytes ≡ p → Short bytes → well_formed bytes ≡ true → receive s pl x beat bytes ≡ taken p
  unfolding receive receive_tests packet_tests taken tests
  read_as bytes p e short f = rw (e, short, f)

  -- gossip is gossip, and a proposal a proposal
  gossip-alike : (q : Packet) → taken (of_kind 0 q) ≡ taken (of_kind 2 q)
  unfolding taken tests header_allowed blocks_after votes_after viewed_at_once stood_on receive_answer receive_into
  gossip-alike q = refl

  proposal-alike : (q : Packet) → taken (of_kind 1 q) ≡ taken (of_kind 3 q)
  unfolding taken tests header_allowed blocks_after votes_after viewed_at_once stood_on receive_answer receive_into
  proposal-alike q = refl

  -- written in either width, it is read back
  written : (q : Packet) → Short (packet_bytes q) → InRange q → receive s pl x beat (packet_bytes q) ≡ taken q
  written q short h = read_as (packet_bytes q) q (round_trip q h) short (written-well q h)

  alike : (kind : ℕ) (q : Packet) → kind < 2 → InRange (of_kind kind q) → Short (packet_bytes (of_kind (kind + 2) q)) → taken (of_kind kind q) ≡ receive s pl x beat (packet_bytes (of_kind (kind + 2) q))
  unfolding header_formed
  alike zero q l h short = gossip-alike q ∙ sym (written (of_kind 2 q) short (record { fits = widened 2 (of_kind 0 q) (omega arith) h.fits; header_formed = h.header_formed }))
  alike (suc zero) q l h short = proposal-alike q ∙ sym (written (of_kind 3 q) short (record { fits = widened 3 (of_kind 1 q) (omega arith) h.fits; header_formed = refl }))
  alike (suc (suc kind)) q l h short = absurd (omega arith)

-- the wide one is the longer
narrower : (kind : ℕ) (q : Packet) → kind < 2 → length (packet_bytes (of_kind kind q)) ≤ length (packet_bytes (of_kind (kind + 2) q))
narrower zero q l = omega (arith, packet-length (of_kind 0 q), packet-length (of_kind 2 q))
narrower (suc zero) q l = omega (arith, packet-length (of_kind 1 q), packet-length (of_kind 3 q))
narrower (suc (suc kind)) q l = absurd (omega arith)

pub width-unseen : WidthUnseen
unfolding WidthUnseen
width-unseen s p x beat bytes each formed narrow long =
    let q = packet_of bytes in
    let b = bytes-by-index bytes each in
    let short : Short s p x beat bytes =
    shorter s.profile (length bytes) _ (omega (arith, narrower q.kind q narrow, ap length (canonical bytes b formed))) long in
    read_as s p x beat bytes q refl short formed ∙ alike s p x beat q.kind q narrow (read-in-range bytes b formed) long
