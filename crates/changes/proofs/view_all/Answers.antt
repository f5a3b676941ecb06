-- `view_all` meets its contract. Assumes nothing.
use native.Mathlib.Omega.{arith}
use mathlib.Core.Bool.{true, or-true}
use mathlib.Core.Path.{refl, sym}
use Rattle.protocol.specs.Store.{view_all}
use Rattle.changes.proofs.View.{viewing-begin, viewing-turn, viewing-end}
use Rattle.changes.proofs.view_all.Goals as goal

pub loop-i-init : goal.loop-i-init
loop-i-init g c = viewing-begin g.met.E.Entry.codec (λ b. true) _ c.args.used

pub loop-i-preserved : goal.loop-i-preserved
loop-i-preserved g c =
    let a = c.args in
    viewing-turn g.met.E.Entry.codec (λ b. true) a.words.now a.used c.loop-i.i (omega arith) c.loop-i.invariant refl
    (sym (or-true _)) c.view_row.ensures

pub returns : goal.returns
unfolding view_all
returns g c =
    let a = c.args in
    viewing-end g.met.E.Entry.codec (λ b. true) a.words.now a.used c.loop-i.i (omega arith) c.loop-i.invariant
