-- The loop of `any_wide`: its invariant. Assumes nothing.
use mathlib.Core.Path.{◌≡◌}
use Rattle.protocol.specs.Lists.{any_pass}
use Rattle.writer.proofs.Rows.{rest}
use Rattle.writer.proofs.any_wide.Given as goal

abbrev pub invariant-loop-i : goal.invariant-loop-i
invariant-loop-i g l =
    let xs = rest g.E.Entry.make l.proposal l.table.words.now l.table.used in
    any_pass g.E.Entry.wide (xs l.from) ≡ any_pass g.E.Entry.wide (xs l.i)
