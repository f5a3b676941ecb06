-- `any_wide` meets its contract. Assumes nothing.
use mathlib.Core.Path.{sym, ap, ◌∙◌}
use Rattle.protocol.specs.Lists.{any_pass}
use Rattle.writer.proofs.Rows.{rest-in, rest-out, rest-end, any-first, any-later, any-none}
use Rattle.writer.proofs.any_wide.Goals as goal
use Rattle.writer.proofs.any_wide.Goals.{else-selects-via-then-selects+else-is_wide, else-selects-via-else-selects}

pub returns-then-is_wide : goal.returns-then-is_wide
returns-then-is_wide g c =
    let t = c.args.table in
    let e = rest-in g.E.Entry.make c.args.proposal t.words.now t.used c.loop-i.i c.loop-i-test.true c.row-row.ensures (sym c.selects.ensures ∙ c.if-selects.true) in
    sym (c.loop-i.invariant ∙ any-first g.E.Entry.wide e (sym c.is_wide.ensures ∙ c.if-is_wide.true))

pub loop-i-preserved : goal.loop-i-preserved
loop-i-preserved g c =
    let t = c.args.table in
    c.loop-i.invariant ∙ elim c.else-selects.branch [
      | else-selects-via-then-selects+else-is_wide w ↦
          let e = rest-in g.E.Entry.make c.args.proposal t.words.now t.used c.loop-i.i c.loop-i-test.true c.row-row.ensures (sym c.selects.ensures ∙ w.if-selects.true) in
          any-later g.E.Entry.wide e (sym w.is_wide.ensures ∙ w.if-is_wide.false)
      | else-selects-via-else-selects w ↦
          ap (any_pass g.E.Entry.wide) (rest-out g.E.Entry.make c.args.proposal t.words.now t.used c.loop-i.i c.loop-i-test.true c.row-row.ensures (sym c.selects.ensures ∙ w.if-selects.false))
    ]

pub returns : goal.returns
returns g c =
    let t = c.args.table in
    sym (c.loop-i.invariant ∙ any-none g.E.Entry.wide (rest-end g.E.Entry.make c.args.proposal t.words.now t.used c.loop-i.i c.loop-i-test.false))
