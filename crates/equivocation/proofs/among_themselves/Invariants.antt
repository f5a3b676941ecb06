-- The loop of `among_themselves`: its invariant. Assumes nothing.
use mathlib.Core.List.{[]}
use mathlib.Core.Path.{◌≡◌}
use lib.ListN.{take, drop}
use Rattle.protocol.specs.Packet.{packet_of}
use Rattle.protocol.specs.EquivocationPasses.{among_themselves}
use Rattle.index.specs.Links.{PacketSlotIndex}
use Rattle.equivocation.specs.First.{first_of}
use Rattle.equivocation.proofs.among_themselves.Given as goal

abbrev pub invariant-loop-i : goal.invariant-loop-i
invariant-loop-i l =
    PacketSlotIndex l.salt l.bytes l.i l.links
    × (among_themselves (take l.i (packet_of l.bytes).votes) (first_of l.best) (drop l.i (packet_of l.bytes).votes)
    ≡ among_themselves [] (first_of l.initial.best) (packet_of l.bytes).votes)
