-- The loop of `read_numbers`: the numbers so far are in the words. Assumes nothing.
use Rattle.std.proofs.Common.{◌≤◌, length}
use Rattle.case_runner.proofs.line.read_numbers.Given as goal

abbrev pub invariant-loop-digits : goal.invariant-loop-digits
invariant-loop-digits l = l.count ≤ length l.words
