-- `build` meets its contract. Assumes nothing.
use native.Mathlib.Omega.{arith}
use mathlib.Core.Path.{refl, sym, ◌∙◌}
use Rattle.search_tree.specs.Lists.{distinct}
use Rattle.search_tree.proofs.Tree.{index-free, found-link, missing_link}
use Rattle.index.specs.Index.{listed}
use Rattle.index.proofs.Links.{keys-new, keys-old}
use Rattle.index.proofs.Shapes.{roots-first}
use Rattle.index.proofs.build.Goals as goal
use Rattle.index.proofs.build.Goals.{then-is_some, else-is_some}

pub loop-i-init : goal.loop-i-init
unfolding distinct listed
loop-i-init g c =
    let u = g.K.Keyed.tree c.args.keys in
    (refl, index-free _ c.requires.2 (omega (arith, roots-first u.roots u.salt c.args.n, c.requires.1.1)))

pub loop-i-preserved : goal.loop-i-preserved
loop-i-preserved g c =
    let l = c.loop-i in (
      elim c.if-is_some.branch [
        | then-is_some w ↦ w.differ-is ∙ sym (keys-old _ _ c.add.ensures.0 (found-link c.add.result (sym c.is_some.ensures ∙ w.if-is_some.true)))
        | else-is_some w ↦ w.differ-is ∙ l.invariant.0 ∙ sym (keys-new _ _ c.add.ensures.0 (missing_link c.add.result (sym c.is_some.ensures ∙ w.if-is_some.false)))
      ],
      c.add.ensures.1,
    )
