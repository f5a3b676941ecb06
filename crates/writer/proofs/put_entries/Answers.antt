-- `put_entries` meets its contract: what is written, with the entries to come, is the whole. Assumes nothing.
use Prim.Native.Nat.{◌+◌}
use mathlib.Core.Path.{sym, ap, ◌∙◌}
use native.Mathlib.Omega.{arith}
use lib.ListN.{length}
use lib.Seq.{sets}
use Rattle.writer.specs.Rows.{entries_bytes}
use Rattle.writer.proofs.Positions.{sets_over}
use Rattle.writer.proofs.Rows.{rest, rest-in, rest-out, rest-end, length-turn, bytes-turn, bytes-none}
use Rattle.writer.proofs.put_entries.Goals as goal
use Rattle.writer.proofs.put_entries.Goals.{then-selects, else-selects}

pub put-requires : goal.put-requires
put-requires g c =
    let l = c.loop-i in
    let t = c.args.table in
    let w = 8 + c.args.upper in
    let e = rest-in g.E.Entry.make c.args.proposal t.words.now t.used l.i c.loop-i-test.true c.row-row.ensures (sym c.selects.ensures ∙ c.if-selects.true) in
    omega (arith, c.requires.1, l.invariant.size, l.invariant.left, length-turn (g.E.Entry.bytes w) e, g.met.E.Written.size w (g.E.Entry.of c.row-row.result.entry))

pub loop-i-preserved : goal.loop-i-preserved
loop-i-preserved g c =
    let l = c.loop-i in
    let t = c.args.table in
    let w = 8 + c.args.upper in
    elim c.if-selects.branch [
      | then-selects b ↦
          let e = rest-in g.E.Entry.make c.args.proposal t.words.now t.used l.i c.loop-i-test.true c.row-row.ensures (sym c.selects.ensures ∙ b.if-selects.true) in
          let size = g.met.E.Written.size w (g.E.Entry.of c.row-row.result.entry) in
          let turn = bytes-turn (g.E.Entry.bytes w) e l.at b.size-at.result l.buf b.put.new.buf (size ∙ sym b.size-at.ensures.0) b.put.ensures in
          record {
            size = ap length b.buf-is ∙ b.put.auto.buf ∙ l.invariant.size;
            left = omega (arith, b.at-is, b.size-at.ensures.0, size, l.invariant.left, length-turn (g.E.Entry.bytes w) e);
            same = l.invariant.same ∙ turn ∙ (λ i. sets (sym b.buf-is i) (sym b.at-is i) (entries_bytes (g.E.Entry.bytes w) (rest g.E.Entry.make c.args.proposal t.words.now t.used (l.i + 1))));
          }
      | else-selects b ↦
          let e = ap (entries_bytes (g.E.Entry.bytes w)) (rest-out g.E.Entry.make c.args.proposal t.words.now t.used l.i c.loop-i-test.true c.row-row.ensures (sym c.selects.ensures ∙ b.if-selects.false)) in
          record {
            size = ap length b.buf-is ∙ l.invariant.size;
            left = omega (arith, b.at-is, l.invariant.left, ap length e);
            same = l.invariant.same ∙ (λ i. sets (sym b.buf-is i) (sym b.at-is i) (e i));
          }
    ]

pub returns : goal.returns
returns g c =
    let l = c.loop-i in
    let t = c.args.table in
    let none = bytes-none (g.E.Entry.bytes (8 + c.args.upper)) (rest-end g.E.Entry.make c.args.proposal t.words.now t.used l.i c.loop-i-test.false) in
    let size = l.invariant.left in (
      omega (arith, size, ap length none),
      sym (l.invariant.same ∙ ap (sets l.buf l.at) none) ∙ sets_over c.args.buf.now _ c.requires.1,
    )
