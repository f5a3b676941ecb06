-- `append` meets its contract. Assumes nothing.
use Prim.Native.Nat.{◌+◌}
use native.Mathlib.Omega.{arith}
use mathlib.Core.Path.{refl, ◌∙◌}
use Rattle.rows.proofs.Stored.{put-after}
use Rattle.rows.proofs.Width.{rows-most}
use Rattle.changes.proofs.append.Goals as goal

pub overflow_add-used : goal.overflow_add-used
overflow_add-used g c = omega (arith, rows-most g.met.E.Entry.codec (c.args.used.now + 1), c.requires.0)

pub returns : goal.returns
returns g c =
    (c.put.ensures ∙ put-after g.met.E.Entry.codec c.args.words.now c.args.used.now _ c.requires.1 (omega (arith, c.requires.0)), refl)
