-- `last_safe` meets its contract. Assumes nothing.
use native.Mathlib.Omega.{arith}
use mathlib.Core.Bool.{false}
use mathlib.Core.Path.{refl, sym, ◌∙◌}
use lib.ListN.{length-replicate}
use Rattle.protocol.specs.Limits.{loom}
use Rattle.subtree_voters.specs.BlockRows.{block_at}
use Rattle.subtree_voters.proofs.BlockRows.{link-low}
use Rattle.fork_choice.specs.declared.Kin.{Kin}
use Rattle.fork_choice.specs.Children.{no_kin}
use Rattle.fork_choice.proofs.Held.{held}
use Rattle.fork_choice.proofs.Children.{linked-by, unlinked}
use Rattle.settled.proofs.Levels.{level-start, level-deeper, level-on, level-leaf, level-halt}
use Rattle.settled.proofs.last_safe.Goals as goal

pub link_children-requires : goal.link_children-requires
link_children-requires c =
    let w = c.args.blocks.words.now in (
      (held false _ _ c.requires.3).some,
      c.requires.0,
      c.requires.2,
      λ i l. omega (arith, c.requires.4.each i l, link-low w i (block_at w i).parent),
      unlinked.0,
      unlinked.1,
    )

pub loop-c-init : goal.loop-c-init
loop-c-init c =
    level-start (held false _ _ c.requires.3) c.args.weights.now c.args.k c.args.t

pub has_rival-requires : goal.has_rival-requires
has_rival-requires c =
    let e = rw c.in-Some.is at c.best_child.ensures in (
      omega (arith, c.requires.0, c.link_children.auto.kin, length-replicate {A = Kin} loom.blocks no_kin),
      c.requires.1,
      c.loop-c.invariant.inside,
      e.0,
      c.requires.3,
      linked-by c.requires.4.each c.link_children.ensures,
    )

pub loop-c-smaller : goal.loop-c-smaller
loop-c-smaller c =
    let e = rw c.in-Some.is at c.best_child.ensures in
    omega (arith, level-deeper (held false _ _ c.requires.3) c.args.weights.now c.args.k c.args.t _ c.loop-c.invariant _ e.1 e.0, e.0)

pub loop-c-preserved : goal.loop-c-preserved
loop-c-preserved c =
    let e = rw c.in-Some.is at c.best_child.ensures in
    level-on (held false _ _ c.requires.3) c.args.weights.now c.args.k c.args.t _ c.loop-c.invariant _ e.1 e.0 (sym c.has_rival.ensures ∙ c.if-has_rival.false)

pub returns-then-has_rival : goal.returns-then-has_rival
returns-then-has_rival c =
    let e = rw c.in-Some.is at c.best_child.ensures in (
      c.loop-c.invariant.inside,
      level-halt (held false _ _ c.requires.3) c.args.weights.now c.args.k c.args.t _ c.loop-c.invariant _ e.1 (sym c.has_rival.ensures ∙ c.if-has_rival.true),
    )

pub returns-in_default : goal.returns-in_default
returns-in_default c =
    let e = rw c.in_default.is at c.best_child.ensures in
    (c.loop-c.invariant.inside, level-leaf (held false _ _ c.requires.3) c.args.weights.now c.args.k c.args.t _ c.loop-c.invariant e.1)
