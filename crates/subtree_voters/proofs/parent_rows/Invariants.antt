-- The loop of `parent_rows`: its invariant. Assumes nothing.
use Rattle.index.specs.Links.{BlockIndex}
use Rattle.subtree_voters.specs.BlockRows.{Parents}
use Rattle.subtree_voters.proofs.parent_rows.Given as goal

abbrev pub invariant-loop-i : goal.invariant-loop-i
invariant-loop-i l = record {
  index : BlockIndex l.blocks.words.now l.i l.links;
  parents : Parents l.blocks.words.now l.i l.parents;
}
