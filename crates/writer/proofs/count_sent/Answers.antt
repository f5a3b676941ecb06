-- `count_sent` meets its contract: what is counted, with the rows to come, is the whole. Assumes nothing.
use mathlib.Core.Path.{sym, ap, ◌∙◌}
use native.Mathlib.Omega.{arith}
use lib.ListN.{length}
use Rattle.writer.proofs.Rows.{rest-in, rest-out, rest-end}
use Rattle.writer.proofs.count_sent.Goals as goal
use Rattle.writer.proofs.count_sent.Goals.{then-selects, else-selects}

pub loop-i-preserved : goal.loop-i-preserved
loop-i-preserved g c =
    let l = c.loop-i in
    let t = c.args.table in
    elim c.if-selects.branch [
      | then-selects w ↦
          let e = rest-in g.E.Entry.make c.args.proposal t.words.now t.used l.i c.loop-i-test.true c.row.ensures (sym c.selects.ensures ∙ w.if-selects.true) in
          record { few = omega (arith, w.n-is); all = omega (arith, w.n-is, l.invariant.all, ap length e) }
      | else-selects w ↦
          let e = rest-out g.E.Entry.make c.args.proposal t.words.now t.used l.i c.loop-i-test.true c.row.ensures (sym c.selects.ensures ∙ w.if-selects.false) in
          record { few = omega (arith, w.n-is); all = omega (arith, w.n-is, l.invariant.all, ap length e) }
    ]

pub returns : goal.returns
returns g c =
    let l = c.loop-i in
    let t = c.args.table in
    omega (arith, l.invariant.all, ap length (rest-end g.E.Entry.make c.args.proposal t.words.now t.used l.i c.loop-i-test.false))
