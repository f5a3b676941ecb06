-- `header_allowed` meets its contract. Assumes nothing.
use native.Mathlib.Omega.{arith}
use Prim.Native.Nat.{ℕ, ◌≤◌}
use mathlib.Core.Bool.{true, false}
use mathlib.Core.List.{List}
use mathlib.Core.Path.{◌≡◌, sym, ◌∙◌}
use lib.ListN.{length, take}
use lib.Seq.{take_all}
use Rattle.numbers.proofs.Orders.{same_lem}
use Rattle.protocol.specs.Words.{from_halves, block_of}
use Rattle.protocol.specs.Lists.{any_pass}
use Rattle.protocol.specs.Chain.{genesis}
use Rattle.protocol.specs.Packet.{packet_of, is_proposal}
use Rattle.protocol.specs.Calls.Receive.{header_allowed}
use Rattle.packets.specs.declared.Header.{Header}
use Rattle.packets.specs.Header.{header_of}
use Rattle.packets.proofs.Headers.{header-kind, header-slot, header-number, header-blocks}
use Rattle.packets.proofs.Turns.{any-hit, any-miss, any-end}
use Rattle.admission.proofs.header_allowed.Invariants.{is_header}
use Rattle.admission.proofs.header_allowed.Goals as goal
use Rattle.admission.proofs.header_allowed.Goals.{else-eq-via-then-eq+else-b-h, else-eq-via-else-eq}

begin : (bs : List ℕ) (h : Header) → h ≡ header_of bs → is_proposal h.kind ≡ true → header_allowed (packet_of bs) ≡ any_pass (is_header h) (take h.blocks (packet_of bs).blocks)
unfolding header_allowed
begin bs h e k =
    let l : length (packet_of bs).blocks ≤ h.blocks = omega (arith, header-blocks _ e) in
    rw (← header-kind _ e, k, ← header-number _ e, ← header-slot _ e, take_all h.blocks (packet_of bs).blocks l)

pub returns-then-not-is_proposal : goal.returns-then-not-is_proposal
unfolding header_allowed
returns-then-not-is_proposal c = rw (← header-kind _ c.header_of-h.ensures, sym c.if-not-is_proposal.ensures)

pub loop-i-init : goal.loop-i-init
loop-i-init c =
    let e = c.header_of-h.ensures in
    (omega (arith, header-blocks _ e), begin _ _ e (sym c.if-not-is_proposal.ensures))

pub returns-then-b-h : goal.returns-then-b-h
unfolding from_halves
returns-then-b-h c =
    let l = c.loop-i in
    let e : is_header c.header_of-h.result (block_of c.at-b.result) ≡ true = grind arith in
    sym (l.invariant.1 ∙ any-hit _ _ genesis _ l.i l.invariant.0 c.loop-i-test.true c.at-b.ensures e)

pub loop-i-preserved : goal.loop-i-preserved
unfolding from_halves
loop-i-preserved c =
    let l = c.loop-i in
    let e : is_header c.header_of-h.result (block_of c.at-b.result) ≡ false
    = elim c.else-eq.branch [ else-eq-via-then-eq+else-b-h w ↦ grind arith | else-eq-via-else-eq w ↦ rw (sym (same_lem c.at-b.result.number c.header_of-h.result.number (omega arith) (omega arith)) ∙ sym c.eq.ensures ∙ w.if-eq.false) ] in
    (l.invariant.0, l.invariant.1 ∙ any-miss _ _ genesis _ l.i l.invariant.0 c.loop-i-test.true c.at-b.ensures e)

pub returns : goal.returns
returns c =
    let l = c.loop-i in
    sym (l.invariant.1 ∙ any-end _ _ genesis _ l.i l.invariant.0 c.loop-i-test.false)
