-- The loop of `padded`: its invariant. Assumes nothing.
use Prim.Native.Nat.{ℕ, ◌+◌, ◌<◌}
use mathlib.Core.Path.{◌≡◌}
use lib.ListN.{length, get_or}
use Rattle.packets.proofs.padded.Given as goal

abbrev pub invariant-loop-i : goal.invariant-loop-i
invariant-loop-i l = record { size : length l.rest ≡ 36; read : (k : ℕ) → k < l.i → get_or l.rest k 0 ≡ get_or l.bytes (l.at + k) 0 }
