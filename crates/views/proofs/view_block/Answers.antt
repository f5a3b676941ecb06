-- `view_block` meets its contract. Assumes nothing.
use native.Mathlib.Omega.{arith}
use Rattle.views.proofs.Found.{block-below, block_none, block-at}
use Rattle.views.proofs.view_block.Goals as goal

pub view_row-requires : goal.view_row-requires
view_row-requires c =
    let h = block-below _ _ _ (rw (c.new.ensures.words, c.new.ensures.used) at c.in-Some.ensures) in
    omega (arith, c.requires.0, h)

pub returns-in-Some : goal.returns-in-Some
returns-in-Some c =
    block-at _ _ _ c.requires.0 c.requires.1 c.requires.2 (rw (c.new.ensures.words, c.new.ensures.used) at c.in-Some.ensures) c.view_row.ensures

pub returns-in_default : goal.returns-in_default
returns-in_default c =
    block_none _ _ _ c.requires.0 c.requires.1 (rw (c.new.ensures.words, c.new.ensures.used) at c.in_default.ensures)
