-- `descend` meets its contract. Assumes nothing.
use native.Mathlib.Omega.{arith}
use Prim.Native.Nat.{ℕ, ◌/◌}
use mathlib.Core.Path.{refl, ap, sym, ◌∙◌}
use Rattle.search_tree.specs.Tree.{child}
use Rattle.search_tree.proofs.Descent.{descent-row, descent-later, descent-step, descent-hit, descent-none}
use Rattle.index.specs.Keys.{same_key, shape}
use Rattle.index.proofs.Keys.{told_same, told_other}
use Rattle.index.proofs.Shapes.{past, below}
use Rattle.index.proofs.descend.Goals as goal

pub loop-row-init : goal.loop-row-init
loop-row-init g c =
    let x = c.requires.2 in
    let t = c.tree-tree.result in
    let u = g.K.Keyed.tree c.args.keys in
    let e = rw c.tree-tree.ensures at (c.child-at.ensures ∙ ap (child (shape t.roots t.salt) c.args.first) c.digits-digits.ensures) in
    descent-step c.requires.1 x.begins x.leads _ x.differs e (ap (λ (d : ℕ). d / 2) (rw c.tree-tree.ensures at c.digits-digits.ensures))
    (below u.roots u.salt c.args.first c.args.n _ (descent-row c.requires.1 x.begins x.leads) e)

pub key-requires : goal.key-requires
key-requires g c = omega (arith, descent-row c.requires.1 c.loop-row.invariant (sym c.in-Some.ensures), c.requires.0)

pub returns-then-eq : goal.returns-then-eq
unfolding same_key
returns-then-eq g c = descent-hit c.requires.1 c.loop-row.invariant (sym c.in-Some.ensures) (told_same c.eq.ensures c.key.ensures c.if-eq.true)

pub loop-row-smaller : goal.loop-row-smaller
loop-row-smaller g c =
    let u = g.K.Keyed.tree c.args.keys in
    let e = sym c.in-Some.ensures in
    let l = descent-later c.requires.1 c.loop-row.invariant e in
    let m = descent-row c.requires.1 c.loop-row.invariant e in
    let s = rw c.tree-tree.ensures at c.child-at-in-Some.ensures in
    omega (arith, l, past u.roots u.salt c.in-Some.row c.args.n c.loop-row.digits m s, below u.roots u.salt c.in-Some.row c.args.n c.loop-row.digits m s)

pub loop-row-preserved : goal.loop-row-preserved
unfolding same_key
loop-row-preserved g c =
    let u = g.K.Keyed.tree c.args.keys in
    let e = sym c.in-Some.ensures in
    let m = descent-row c.requires.1 c.loop-row.invariant e in
    let s = rw c.tree-tree.ensures at c.child-at-in-Some.ensures in
    descent-step c.requires.1 c.loop-row.invariant e _ (told_other c.eq.ensures c.key.ensures c.if-eq.false) s refl
    (below u.roots u.salt c.in-Some.row c.args.n c.loop-row.digits m s)

pub returns : goal.returns
returns g c = descent-none c.requires.1 c.loop-row.invariant (sym c.in_default.ensures)
