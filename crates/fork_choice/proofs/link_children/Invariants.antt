-- The loop of `link_children`: its invariant. Assumes nothing.
use Prim.Native.Nat.{◌≤◌}
use lib.ListN.{get_or}
use Rattle.fork_choice.specs.Children.{Linked}
use Rattle.fork_choice.proofs.link_children.Given as goal

abbrev pub invariant-loop-i : goal.invariant-loop-i
invariant-loop-i l = record {
  some : 1 ≤ l.i;
  linked : Linked (λ j. get_or l.parents j 0) l.used l.i l.kin;
}
