-- What the header that code reads says of the packet. Assumes nothing.
use Prim.Native.Nat.{ℕ}
use mathlib.Core.List.{List}
use mathlib.Core.Path.{◌≡◌, ap, ◌∙◌}
use lib.ListN.{length}
use Rattle.packets.specs.declared.Header.{Header}
use Rattle.packets.specs.Header.{header_of}
use Rattle.protocol.specs.Words.{value}
use Rattle.protocol.specs.Packet.{packet_of}
use Rattle.protocol.proofs.Words.{join-halves}

module _ (bs : List ℕ) {h : Header} (e : h ≡ header_of bs) where
  pub header-kind : h.kind ≡ (packet_of bs).kind
  unfolding header_of
  header-kind = ap (λ (r : Header). r.kind) e

  pub header-slot : h.slot ≡ (packet_of bs).slot
  unfolding header_of
  header-slot = ap (λ (r : Header). r.slot) e

  pub header-number : value h.number ≡ (packet_of bs).number
  unfolding header_of
  header-number = ap (λ (r : Header). value r.number) e ∙ join-halves (packet_of bs).number

  pub header-blocks : h.blocks ≡ length (packet_of bs).blocks
  unfolding header_of
  header-blocks = ap (λ (r : Header). r.blocks) e

  pub header-votes : h.votes ≡ length (packet_of bs).votes
  unfolding header_of
  header-votes = ap (λ (r : Header). r.votes) e
