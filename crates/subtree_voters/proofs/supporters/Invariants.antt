-- The loop of `supporters`: its invariant. Assumes nothing.
use Prim.Native.Nat.{◌≤◌}
use Rattle.subtree_voters.specs.Subtrees.{Subtrees}
use Rattle.subtree_voters.proofs.supporters.Given as goal

abbrev pub invariant-loop-i : goal.invariant-loop-i
invariant-loop-i l = record {
  some : 1 ≤ l.i;
  words : Subtrees l.blocks.words.now l.blocks.used l.kept l.i l.masks;
}
