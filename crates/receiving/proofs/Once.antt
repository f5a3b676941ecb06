-- Whether a packet is the first proposal of the beat's slot, by the tests of code, in its order. Assumes nothing.
use Prim.Native.Nat.{ℕ, ◌*◌, ◌/◌, ◌%◌}
use mathlib.Core.Bool.{true, false, not, and-false}
use mathlib.Core.List.{List}
use mathlib.Core.Path.{◌≡◌, sym}
use native.Mathlib.Omega.{arith}
use borrow.Author.Tests.{eqb-true, eqb-false, eq-eqb, ne_eqb}
use lib.Dec.{eqb}
use Rattle.protocol.specs.declared.Clock.{Clock}
use Rattle.protocol.specs.Packet.{is_proposal, packet_of}
use Rattle.protocol.specs.Calls.Receive.{viewed_at_once}
use Rattle.packets.specs.declared.Header.{Header}
use Rattle.packets.specs.Header.{header_of}
use Rattle.packets.proofs.Headers.{header-kind, header-slot}
use Rattle.receiving.specs.Accepted.{only_clock}

module _ (clock : Clock) (beat : ℕ) (bytes : List ℕ) {h : Header} (e : h ≡ header_of bytes) where
  pub once-all : is_proposal h.kind ≡ true → eqb (beat % 3) 0 ≡ true → eqb (beat / 3) h.slot ≡ true
      → not (eqb clock.proposed h.slot) ≡ viewed_at_once (only_clock clock) beat (packet_of bytes)
  unfolding viewed_at_once
  once-all k z s =
      let m : h.slot * 3 ≡ beat = omega (arith, eqb-true _ _ z, eqb-true _ _ s) in
      rw (← header-kind bytes e, k, ← header-slot bytes e, eq-eqb _ _ m)

  pub once-kind : is_proposal h.kind ≡ false → false ≡ viewed_at_once (only_clock clock) beat (packet_of bytes)
  unfolding viewed_at_once
  once-kind k = rw (← header-kind bytes e, k)

  pub once-beat : (h.slot * 3 ≡ beat → ⊥) → false ≡ viewed_at_once (only_clock clock) beat (packet_of bytes)
  unfolding viewed_at_once
  once-beat n = rw (← header-slot bytes e, ne_eqb _ _ n) (sym (and-false (is_proposal (packet_of bytes).kind)))

  pub once-phase : eqb (beat % 3) 0 ≡ false → false ≡ viewed_at_once (only_clock clock) beat (packet_of bytes)
  once-phase z = once-beat (λ q. eqb-false _ _ z (omega (arith, q)))

  pub once-slot : eqb (beat / 3) h.slot ≡ false → false ≡ viewed_at_once (only_clock clock) beat (packet_of bytes)
  once-slot s = once-beat (λ q. eqb-false _ _ s (omega (arith, q)))
