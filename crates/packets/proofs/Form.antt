-- The test of a packet's form, from its header as read. Assumes nothing.
use Prim.Native.Nat.{ℕ, ◌+◌, ◌<◌}
use mathlib.Core.Path.{◌≡◌, ap, ◌∙◌}
use mathlib.Core.Bool.{false}
use mathlib.Core.List.{List}
use native.Mathlib.Omega.{arith}
use lib.ListN.{length}
use Rattle.protocol.specs.Words.{value}
use Rattle.protocol.specs.Packet.{number_at, count_of_blocks, count_of_votes, size_of, width_of, width_in, header_formed, well_formed}
use Rattle.protocol.proofs.Words.{join-halves}
use Rattle.protocol.proofs.Packet.Ranges.{Each, Byte}
use Rattle.protocol.proofs.Packet.Bytes.{ill-length, well-by-head, read_fits}
use Rattle.packets.specs.declared.Header.{Header}
use Rattle.packets.specs.Header.{header_of}
use Rattle.packets.proofs.Reading.{header-fields}

module _ (bs : List ℕ) (h : Header) (e : h ≡ header_of bs) where
  pub counts-below : Each Byte bs → (h.blocks < 65536) × (h.votes < 65536)
  unfolding header_of
  counts-below b = let fit = read_fits bs b in rw e (omega (arith, fit.block_count), omega (arith, fit.vote_count))

  module _ (upper : ℕ) (u : 8 + upper ≡ width_of h.kind) where
    -- the length that the header asks for
    asked : size_of (8 + upper) h.blocks h.votes ≡ size_of (width_in bs) (count_of_blocks (width_in bs) bs) (count_of_votes (width_in bs) bs)
    asked =
        let f = e ∙ header-fields bs in
        let w = u ∙ ap (λ (q : Header). width_of q.kind) f in
        let b = ap (λ (q : Header). q.blocks) f in
        let v = ap (λ (q : Header). q.votes) f in
        λ i. size_of (w i) (b i) (v i)

    pub formed-not : (length bs ≡ size_of (8 + upper) h.blocks h.votes → ⊥) → well_formed bs ≡ false
    formed-not = rw asked (ill-length bs)

    pub formed-header : length bs ≡ size_of (8 + upper) h.blocks h.votes → well_formed bs ≡ header_formed h.kind h.slot (value h.number)
    formed-header l = well-by-head bs (l ∙ asked) ∙ rw (e ∙ header-fields bs, join-halves (number_at bs 5 (width_in bs)))
