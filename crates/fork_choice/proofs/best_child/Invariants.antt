-- The loop of `best_child`: its invariant and its measure. Assumes nothing.
use Rattle.protocol.specs.Words.{value}
use Rattle.fork_choice.proofs.Scan.{Scan, left}
use Rattle.fork_choice.proofs.best_child.Given as goal

abbrev pub invariant-loop-c : goal.invariant-loop-c
invariant-loop-c l = Scan l.whole l.blocks.words.now l.blocks.used l.weights l.lim l.a (value l.parent.entry.number) l.c l.best

abbrev pub decreases-loop-c : goal.decreases-loop-c
decreases-loop-c l = left l.blocks.used l.c
