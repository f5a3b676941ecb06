-- The loop of `all_voted_sound`: its invariant. Assumes nothing.
use mathlib.Core.Path.{◌≡◌}
use lib.ListN.{drop}
use Rattle.protocol.specs.Lists.{all_pass}
use Rattle.protocol.specs.Lent.{rows_of, make_block, make_vote}
use Rattle.soundness.specs.Parts.{voted_sound}
use Rattle.soundness.proofs.all_voted_sound.Given as goal

abbrev pub invariant-loop-i : goal.invariant-loop-i
invariant-loop-i l =
    all_pass (voted_sound (rows_of make_block l.blocks.words.now l.blocks.used)) (rows_of make_vote l.votes.words.now l.votes.used)
    ≡ all_pass (voted_sound (rows_of make_block l.blocks.words.now l.blocks.used)) (drop l.i (rows_of make_vote l.votes.words.now l.votes.used))
