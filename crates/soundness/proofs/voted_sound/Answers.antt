-- `voted_sound` meets its contract. Assumes nothing.
use native.Mathlib.Omega.{arith}
use mathlib.Core.Path.{sym}
use Rattle.rows.specs.Rows.{marked_vote}
use Rattle.soundness.proofs.Lookup.{row-within, voted-none, voted_at}
use Rattle.soundness.proofs.voted_sound.Goals as goal

pub returns-in_default : goal.returns-in_default
returns-in_default c = sym (voted-none _ _ _ c.in_default.ensures)

pub row-voted-requires : goal.row-voted-requires
row-voted-requires c = row-within _ _ _ _ c.in-Some.ensures

pub returns-then-not-row : goal.returns-then-not-row
returns-then-not-row c = rw (voted_at _ _ (marked_vote c.args.row) c.requires.unrepeated c.in-Some.ensures c.row-voted.ensures) (grind arith)

pub returns-else-not-row : goal.returns-else-not-row
returns-else-not-row c = rw (voted_at _ _ (marked_vote c.args.row) c.requires.unrepeated c.in-Some.ensures c.row-voted.ensures) (grind arith)

pub returns-else-voted-row : goal.returns-else-voted-row
returns-else-voted-row c = rw (voted_at _ _ (marked_vote c.args.row) c.requires.unrepeated c.in-Some.ensures c.row-voted.ensures) (grind arith)
