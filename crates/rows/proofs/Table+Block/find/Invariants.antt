-- The loop of `find`: its invariant. Assumes nothing.
use mathlib.Core.Path.{◌≡◌}
use lib.ListN.{drop}
use Rattle.protocol.specs.Words.{value}
use Rattle.protocol.specs.Lent.{rows_of, make_block}
use Rattle.rows.specs.Find.{row_from}
use Rattle.rows.proofs.Table+Block.find.Given as goal

abbrev pub invariant-loop-i : goal.invariant-loop-i
invariant-loop-i l = row_from 0 (rows_of make_block l.self.words.now l.self.used) (value l.number) ≡ row_from l.i (drop l.i (rows_of make_block l.self.words.now l.self.used)) (value l.number)
