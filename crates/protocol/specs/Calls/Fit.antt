-- Fit: how many places a packet would take, and how long the gossip would be afterwards (document 02, request 10). The node is only read.
-- Assumes nothing.
use Rattle.std.specs.Prelude.{ℕ, ◌+◌, ◌-◌, ◌/◌, not, List, [], ◌∷◌, length}
use Rattle.protocol.specs.declared.Settings.{Settings}
use Rattle.protocol.specs.declared.Width.TheVariants.{Wide}
use Rattle.protocol.specs.Limits.{limits_of}
use Rattle.protocol.specs.Store.{entries, kept_from, Places, Node}
use Rattle.protocol.specs.Packet.{Packet, size_of, packet_of, well_formed}
use Rattle.protocol.specs.Refusal.{Test, test, test_section, unsound, wrong_beat, first, Answer, answer_unless}
use Rattle.protocol.specs.Calls.Receive.{header_allowed, first_bad_block, first_bad_vote, blocks_after, votes_after}
use Rattle.protocol.specs.Calls.Write.{bytes_in}

-- Receive's tests but that of the places
unfoldable pub packet_tests : Settings → Places → Node → ℕ → List ℕ → List Test
packet_tests s pl x beat bytes =
    let p = packet_of bytes in
    unsound s pl x
    ∷ wrong_beat x beat
    ∷ test 24 ((limits_of s.profile).too_long (length bytes))
    ∷ test 8 (not (well_formed bytes))
    ∷ test_section 9 (first_bad_block (beat / 3) (entries x.blocks) p.blocks) p.blocks
    ∷ test_section 20 (first_bad_vote s.nodes (beat / 3) (blocks_after x p) p.votes) p.votes
    ∷ test 21 (not (header_allowed p))
    ∷ []

-- how many of a packet's entries are new
abbrev pub new_block_count : Node → Packet → ℕ
new_block_count x p = length (blocks_after x p) - length x.blocks

abbrev pub new_vote_count : ℕ → Node → Packet → ℕ
new_vote_count from x p = length (votes_after from x p) - length x.votes

-- new blocks, new votes, and the bytes of a wide gossip packet
pub record Figures : Type 0 where
  pub new_blocks : ℕ
  pub new_votes : ℕ
  pub bytes : ℕ

-- 25 bytes, 36 for each block but block 0, 21 for each vote; votes of slots below `from` are not stored
unfoldable pub figures_of : ℕ → Node → Packet → Figures
figures_of from x p =
    record {
      new_blocks = new_block_count x p;
      new_votes = new_vote_count from x p;
      bytes = size_of (bytes_in Wide) (length x.blocks - 1 + new_block_count x p) (length x.votes + new_vote_count from x p);
    }

-- no test asks for places
unfoldable pub fit_query : Settings → Places → Node → ℕ → List ℕ → Answer Figures
fit_query s pl x beat bytes =
    answer_unless (first (packet_tests s pl x beat bytes)) (figures_of (kept_from s x.clock.merged) x (packet_of bytes))
