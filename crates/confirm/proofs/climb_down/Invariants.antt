-- The loop of `climb_down`: its invariant and its measure. Assumes nothing.
use Rattle.subtree_voters.specs.BlockRows.{block_at}
use Rattle.confirm.proofs.Descent.{Down}
use Rattle.confirm.proofs.climb_down.Given as goal

abbrev pub invariant-loop-row : goal.invariant-loop-row
invariant-loop-row l = Down l.blocks.words.now l.blocks.used l.m (block_at l.blocks.words.now l.from).number l.i

abbrev pub decreases-loop-row : goal.decreases-loop-row
decreases-loop-row l = l.i
