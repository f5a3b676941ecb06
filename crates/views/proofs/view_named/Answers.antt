-- `view_named` meets its contract. Assumes nothing.
use native.Mathlib.Omega.{arith}
use mathlib.Core.Path.{refl, sym, ◌∙◌}
use Rattle.views.specs.Named.{named_at}
use Rattle.views.proofs.Named.{named-begin, named-turn, named-skip, named_end}
use Rattle.views.proofs.view_named.Goals as goal
use Rattle.views.proofs.view_named.Goals.{then-is_named, else-is_named}

pub loop-j-init : goal.loop-j-init
loop-j-init g c = let a = c.args in named-begin g.met.E.Entry.codec a.words.now a.used (named_at a.before a.firsts.now)

pub loop-j-preserved : goal.loop-j-preserved
loop-j-preserved g c =
    let a = c.args in
    elim c.if-is_named.branch [
      | then-is_named w ↦
          rw w.words-is (named-turn g.met.E.Entry.codec a.words.now a.used (named_at a.before a.firsts.now) c.loop-j.j (omega arith) c.loop-j.invariant
          (sym c.is_named.ensures ∙ w.if-is_named.true) refl w.view_row.ensures)
      | else-is_named w ↦
          rw w.words-is (named-skip g.met.E.Entry.codec a.words.now a.used (named_at a.before a.firsts.now) c.loop-j.j (omega arith) c.loop-j.invariant
          (sym c.is_named.ensures ∙ w.if-is_named.false) c.requires.0 c.requires.1)
    ]

pub returns : goal.returns
returns g c =
    let a = c.args in
    named_end g.met.E.Entry.codec a.words.now a.used (named_at a.before a.firsts.now) c.loop-j.j (omega arith) c.loop-j.invariant
