-- `put_word` meets its contract: what is written, with the bytes to come, is the whole number. Assumes nothing.
use mathlib.Core.Path.{sym, ◌∙◌}
use lib.ListN.{length-set}
use Rattle.writer.proofs.Positions.{number-turn, number-end}
use Rattle.writer.proofs.put_word.Goals as goal

pub loop-i-preserved : goal.loop-i-preserved
loop-i-preserved c =
    let l = c.loop-i in
    record { size = simp length-set l.invariant.size; same = l.invariant.same ∙ number-turn l.buf c.args.at c.args.width l.i l.rest c.loop-i-test.true }

pub returns : goal.returns
returns c =
    let l = c.loop-i in
    sym (l.invariant.same ∙ number-end l.buf c.args.at c.args.width l.i l.rest c.loop-i-test.false)
