-- `parent_sound` meets its contract. Assumes nothing.
use native.Mathlib.Omega.{arith}
use mathlib.Core.Path.{sym}
use Rattle.rows.specs.Rows.{marked_block}
use Rattle.soundness.proofs.Lookup.{parent-none, parent-late, parent_at}
use Rattle.soundness.proofs.parent_sound.Goals as goal

pub returns-in_default : goal.returns-in_default
returns-in_default c = sym (parent-none _ _ _ _ c.requires.within c.in_default.ensures)

pub returns-then-j-i : goal.returns-then-j-i
returns-then-j-i c = sym (parent-late _ _ _ _ c.requires.within _ c.in-Some.ensures c.if-j-i.true)

pub returns-then-not-row : goal.returns-then-not-row
returns-then-not-row c =
    rw (parent_at _ _ _ (marked_block c.args.row) c.requires.within _ c.requires.indexed.unrepeated c.in-Some.ensures c.if-j-i.false c.row-parent.ensures) (grind arith)

pub returns-else-not-row : goal.returns-else-not-row
returns-else-not-row c =
    rw (parent_at _ _ _ (marked_block c.args.row) c.requires.within _ c.requires.indexed.unrepeated c.in-Some.ensures c.if-j-i.false c.row-parent.ensures) (grind arith)

pub returns-else-parent-row : goal.returns-else-parent-row
returns-else-parent-row c =
    rw (parent_at _ _ _ (marked_block c.args.row) c.requires.within _ c.requires.indexed.unrepeated c.in-Some.ensures c.if-j-i.false c.row-parent.ensures) (grind arith)
