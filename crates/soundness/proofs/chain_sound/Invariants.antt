-- The loop of `chain_sound`: its invariant. Assumes nothing.
use mathlib.Core.Path.{◌≡◌}
use Rattle.protocol.specs.Lent.{rows_of, make_block}
use Rattle.soundness.specs.Parts.{chain_sound}
use Rattle.soundness.proofs.Turns.{parents_from}
use Rattle.soundness.proofs.chain_sound.Given as goal

abbrev pub invariant-loop-i : goal.invariant-loop-i
invariant-loop-i l = chain_sound (rows_of make_block l.blocks.words.now l.blocks.used) ≡ parents_from l.blocks.words.now l.blocks.used l.i
