-- `view_row` meets its contract. Assumes nothing.
use Prim.Native.Nat.{◌+◌}
use native.Mathlib.Omega.{arith}
use Rattle.rows.proofs.Width.{rows-most}
use Rattle.changes.proofs.view_row.Goals as goal

pub overflow_add-i : goal.overflow_add-i
overflow_add-i g c = omega (arith, rows-most g.met.E.Entry.codec (c.args.i + 1), c.requires)
