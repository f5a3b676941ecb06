-- The loop of `view_named`: its invariant. Assumes nothing.
use Rattle.views.specs.Named.{named_at}
use Rattle.views.proofs.Named.{NamedTo}
use Rattle.views.proofs.view_named.Given as goal

abbrev pub invariant-loop-j : goal.invariant-loop-j
invariant-loop-j g l = NamedTo g.met.E.Entry.codec l.initial.words l.used (named_at l.before l.firsts) l.j l.words
