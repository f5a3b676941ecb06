-- `leaf` meets its contract. Assumes nothing.
use native.Mathlib.Omega.{arith}
use mathlib.Core.Path.{refl}
use Rattle.subtree_voters.specs.BlockRows.{block_at}
use Rattle.subtree_voters.proofs.BlockRows.{link-low}
use Rattle.fork_choice.proofs.Held.{held}
use Rattle.fork_choice.proofs.Children.{unlinked}
use Rattle.fork_choice.proofs.Best.{way-start, way_on, way-deeper, way_end}
use Rattle.fork_choice.proofs.leaf.Goals as goal

pub link_children-requires : goal.link_children-requires
link_children-requires c =
    let w = c.args.blocks.words.now in (
      (held c.args.whole _ _ c.requires.3).some,
      c.requires.0,
      c.requires.2,
      λ i l. omega (arith, c.requires.4.each i l, link-low w i (block_at w i).parent),
      unlinked.0,
      unlinked.1,
    )

pub levels-init : goal.levels-init
levels-init c =
    way-start (held c.args.whole _ _ c.requires.3) c.args.weights.now c.args.lim

pub levels-smaller : goal.levels-smaller
levels-smaller c =
    let e = rw c.in-Some.is at c.best_child.ensures in
    omega (arith, way-deeper (held c.args.whole _ _ c.requires.3) c.args.weights.now c.args.lim _ c.levels.invariant _ e.1 e.0, e.0)

pub levels-preserved : goal.levels-preserved
levels-preserved c =
    let e = rw c.in-Some.is at c.best_child.ensures in
    way_on (held c.args.whole _ _ c.requires.3) c.args.weights.now c.args.lim _ c.levels.invariant _ e.1 e.0

pub returns : goal.returns
returns c =
    let e = rw c.in_default.is at c.best_child.ensures in
    (c.levels.invariant.inside, way_end (held c.args.whole _ _ c.requires.3) c.args.weights.now c.args.lim _ c.levels.invariant e.1)
