-- The loop of `bytewise_at`: its invariant. Assumes nothing.
use Prim.Native.Nat.{◌^◌, ◌<◌}
use mathlib.Core.Path.{◌≡◌}
use Rattle.protocol.specs.Packet.{number_at}
use Rattle.packets.proofs.bytewise_at.Given as goal

abbrev pub invariant-loop-i : goal.invariant-loop-i
invariant-loop-i l = record { read : l.sum ≡ number_at l.bytes l.at l.i; below : l.sum < 256 ^ l.i }
