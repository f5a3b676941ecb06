-- The loop of `move_up`: its invariant. Assumes nothing.
use Prim.Native.Nat.{◌≤◌}
use mathlib.Core.Path.{◌≡◌}
use lib.ListN.{length}
use Rattle.changes.proofs.MoveUp.{kept_to, moved_to}
use Rattle.changes.proofs.move_up.Given as goal

abbrev pub invariant-loop-i : goal.invariant-loop-i
invariant-loop-i l = (l.kept ≤ l.i) × (l.votes ≡ moved_to l.initial.votes l.used l.from l.i) × (l.kept ≡ length (kept_to l.initial.votes l.used l.from l.i))
