-- What sound memory gives its reader: the used rows stand in the words, their marks are 0 or 1, and the node is sound. Assumes nothing.
use mathlib.Core.Bool.{true}
use mathlib.Core.Path.{◌≡◌}
use Rattle.protocol.specs.declared.Settings.{Settings}
use Rattle.protocol.specs.Lent.{BlocksFit, VotesFit, Lent, places_of, node_of, marks_sound, lent_sound, make_block, make_vote}
use Rattle.protocol.proofs.Store.Sound.{IsSound, sound-true}
use Rattle.protocol.proofs.Lent.Memory.{lent-true, lent-used}
use Rattle.protocol.proofs.Lent.Rows.{blocks-fit, votes-fit}

pub record SoundMemory (s : Settings) (m : Lent) : Type 0 where
  pub block_words : BlocksFit m.blocks_used m.blocks
  pub vote-words : VotesFit m.votes_used m.votes
  pub block-marks : marks_sound make_block m.blocks m.blocks_used ≡ true
  pub vote-marks : marks_sound make_vote m.votes m.votes_used ≡ true
  pub node : IsSound s (places_of m) (node_of m)

pub sound-memory : (s : Settings) (m : Lent) → lent_sound s m ≡ true → SoundMemory s m
sound-memory s m e =
    let L = lent-true s m e in
    let u = lent-used s m e in
    record {
      block_words = blocks-fit m.blocks m.blocks_used u.0;
      vote-words = votes-fit m.votes m.votes_used u.1;
      block-marks = L.mark-blocks;
      vote-marks = L.mark-votes;
      node = sound-true s (places_of m) (node_of m) L.node;
    }
