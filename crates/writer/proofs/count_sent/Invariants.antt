-- The loop of `count_sent`: its invariant. Assumes nothing.
use Prim.Native.Nat.{◌+◌, ◌≤◌}
use mathlib.Core.Path.{◌≡◌}
use lib.ListN.{length}
use Rattle.writer.proofs.Rows.{rest}
use Rattle.writer.proofs.count_sent.Given as goal

abbrev pub invariant-loop-i : goal.invariant-loop-i
invariant-loop-i g l =
    let xs = rest g.E.Entry.make l.proposal l.table.words.now l.table.used in
    record { few : l.n ≤ l.i; all : l.n + length (xs l.i) ≡ length (xs l.from) }
