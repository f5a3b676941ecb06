-- The loop of `header_allowed`: its invariant. Assumes nothing.
use Prim.Native.Nat.{◌≤◌}
use mathlib.Core.Bool.{Bool, ◌&&◌}
use mathlib.Core.Path.{◌≡◌}
use lib.Dec.{eqb}
use lib.ListN.{length, take, drop}
use Rattle.protocol.specs.Entry.{Block}
use Rattle.protocol.specs.Words.{value}
use Rattle.protocol.specs.Lists.{any_pass}
use Rattle.protocol.specs.Packet.{packet_of}
use Rattle.protocol.specs.Calls.Receive.{header_allowed}
use Rattle.packets.specs.declared.Header.{Header}
use Rattle.admission.proofs.header_allowed.Given as goal

abbrev pub is_header : Header → Block → Bool
is_header h b = eqb b.number (value h.number) && eqb b.slot h.slot

abbrev pub invariant-loop-i : goal.invariant-loop-i
invariant-loop-i l =
    (l.i-end ≤ length (packet_of l.bytes).blocks)
    × (header_allowed (packet_of l.bytes) ≡ any_pass (is_header l.h) (drop l.i (take l.i-end (packet_of l.bytes).blocks)))
