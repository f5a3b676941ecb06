-- The loop of `against_others`: its invariant. Assumes nothing.
use mathlib.Core.Path.{◌≡◌}
use lib.ListN.{drop}
use Rattle.protocol.specs.Packet.{packet_of}
use Rattle.protocol.specs.EquivocationPasses.{against_others}
use Rattle.equivocation.specs.First.{first_of}
use Rattle.equivocation.proofs.against_others.Given as goal

abbrev pub invariant-loop-i : goal.invariant-loop-i
invariant-loop-i l =
    against_others (packet_of l.one).votes (first_of l.best) (drop l.i (packet_of l.two).votes)
    ≡ against_others (packet_of l.one).votes (first_of l.initial.best) (packet_of l.two).votes
