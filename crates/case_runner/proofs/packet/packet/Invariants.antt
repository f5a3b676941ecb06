-- The loop of `packet`: no number takes more than 16 bytes. Assumes nothing.
use Rattle.std.proofs.Common.{◌*◌, ◌≤◌}
use Rattle.case_runner.proofs.packet.packet.Given as goal

abbrev pub invariant-loop-i : goal.invariant-loop-i
invariant-loop-i l = (l.position ≤ 16 * l.i) × (l.i-end ≤ 32)
