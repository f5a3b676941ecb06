-- The loop of `has_rival`: its invariant and its measure. Assumes nothing.
use Rattle.protocol.specs.Words.{value}
use Rattle.fork_choice.proofs.Scan.{left}
use Rattle.settled.proofs.Rivals.{Search}
use Rattle.settled.proofs.has_rival.Given as goal

abbrev pub invariant-loop-d : goal.invariant-loop-d
invariant-loop-d l = Search l.blocks.words.now l.blocks.used l.weights l.k l.t l.a (value l.parent.entry.number) l.c l.d

abbrev pub decreases-loop-d : goal.decreases-loop-d
decreases-loop-d l = left l.blocks.used l.d
