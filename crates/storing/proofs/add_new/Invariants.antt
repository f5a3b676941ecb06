-- The loop of `add_new`: its invariant. Assumes nothing.
use Rattle.protocol.specs.Store.{Marked}
use Rattle.protocol.specs.Packet.{packet_of}
use Rattle.storing.specs.Grown.{is_added, Holds}
use Rattle.storing.proofs.Turns.{after}
use Rattle.storing.proofs.add_new.Given as goal

abbrev pub invariant-loop-i : goal.invariant-loop-i
invariant-loop-i g l =
    Holds (Marked g.E.Entry.Of) g.E.Entry.written
    (after g.met.E.Entry.codec l.initial.words l.initial.used (is_added l.firsts l.initial.used g.E.Entry.slot l.from) (g.E.Entry.listed (packet_of l.bytes)) l.i) l.initial.words l.words l.used
