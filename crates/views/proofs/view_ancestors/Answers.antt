-- `view_ancestors` meets its contract. Assumes nothing.
use native.Mathlib.Omega.{arith}
use Rattle.views.proofs.Indexed.{blocks-indexed}
use Rattle.views.proofs.Pass.{pass-begin, pass-waits, pass-shows, pass-end}
use Rattle.views.proofs.view_ancestors.Goals as goal

pub loop-i-init : goal.loop-i-init
loop-i-init c = pass-begin _ _ c.requires.0 c.requires.1 c.requires.2

pub view_block-requires : goal.view_block-requires
view_block-requires c =
    let P = c.loop-i.invariant in
    (omega (arith, c.requires.0), P.marks, P.ordered, blocks-indexed _ _ _ P.entered c.requires.3)

pub loop-i-preserved-then-row : goal.loop-i-preserved-then-row
loop-i-preserved-then-row c =
    pass-shows _ _ _ c.loop-i.i _ c.loop-i.invariant (omega arith) (omega arith) (rw c.new.ensures.words at c.row-row.ensures) c.if-row.true (omega arith) c.view_block.ensures

pub loop-i-preserved : goal.loop-i-preserved
loop-i-preserved c =
    pass-waits _ _ _ c.loop-i.i _ c.loop-i.invariant (omega arith) (omega arith) (rw c.new.ensures.words at c.row-row.ensures) c.if-row.false

pub returns : goal.returns
returns c = pass-end _ _ _ c.loop-i.i (omega arith) c.loop-i.invariant
