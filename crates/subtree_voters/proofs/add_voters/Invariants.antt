-- The loop of `add_voters`: its invariant. Assumes nothing.
use Rattle.subtree_voters.proofs.Handing.{VotersAdded}
use Rattle.subtree_voters.proofs.add_voters.Given as goal

abbrev pub invariant-loop-v : goal.invariant-loop-v
invariant-loop-v l = VotersAdded l.blocks.words.now l.blocks.used l.kept l.v l.masks
