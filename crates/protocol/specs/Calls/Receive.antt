-- Receive: the new entries of a packet wait at the tables' ends; the first proposal of the slot comes into view. Assumes nothing.
use Rattle.std.specs.Prelude.{ℕ, suc, ◌*◌, ◌-◌, ◌/◌, Bool, true, not, ◌&&◌, ◌||◌, cond, List, [], ◌∷◌, ◌++◌, length, drop, eqb, leb, ltb}
use Rattle.protocol.specs.declared.Settings.{Settings}
use Rattle.protocol.specs.Entry.{Block, Vote}
use Rattle.protocol.specs.Limits.{limits_of}
use Rattle.protocol.specs.Lists.{any_pass, passing}
use Rattle.protocol.specs.Chain.{Lookup, found, missing, find, found_with, known, at_or_above}
use Rattle.protocol.specs.Store.{entries, all_waiting, view, same_block, same_vote, kept_from, since, Places, Node}
use Rattle.protocol.specs.Sound.{in_range}
use Rattle.protocol.specs.Packet.{Packet, is_proposal, packet_of, well_formed}
use Rattle.protocol.specs.Refusal.{Test, test, test_section, first, Outcome, unless, unsound, wrong_beat}

-- ---- what is stored: an entry that is not known yet goes to the end

unfoldable pub add_block : List Block → Block → List Block
add_block bs b = cond (known bs b.number) bs (bs ++ (b ∷ []))

unfoldable pub add_blocks : List Block → List Block → List Block
add_blocks bs [] = bs
add_blocks bs (c ∷ cs) = add_blocks (add_block bs c) cs

unfoldable pub add_vote : List Vote → Vote → List Vote
add_vote vs a = cond (any_pass (same_vote a) vs) vs (vs ++ (a ∷ []))

unfoldable pub add_votes : List Vote → List Vote → List Vote
add_votes vs [] = vs
add_votes vs (a ∷ rest) = add_votes (add_vote vs a) rest

-- an old vote, of a slot below `from`, is left out
abbrev pub add_since : ℕ → List Vote → List Vote → List Vote
add_since from vs new = add_votes vs (passing (since from) new)

unfoldable pub blocks_after : Node → Packet → List Block
blocks_after x p = add_blocks (entries x.blocks) p.blocks

unfoldable pub votes_after : ℕ → Node → Packet → List Vote
votes_after from x p = add_since from (entries x.votes) p.votes

-- ---- the rules of a packet's entries, at a beat of this slot

unfoldable pub known_as : Block → Lookup → Bool
known_as b missing = true
known_as b (found c) = same_block c b

unfoldable pub block_allowed : ℕ → List Block → Block → Bool
block_allowed slot before b =
    in_range 1 slot b.slot
    && (found_with (λ p. ltb p.slot b.slot) (find before b.parent) && known_as b (find before b.number))

unfoldable pub vote_allowed : ℕ → ℕ → List Block → Vote → Bool
vote_allowed n slot bs a =
    ltb a.voter n && (in_range 1 slot a.slot && found_with (λ b. leb b.slot a.slot) (find bs a.number))

-- a proposal's block is among the packet's, with the header's slot
unfoldable pub header_allowed : Packet → Bool
header_allowed p = not (is_proposal p.kind) || any_pass (λ b. eqb b.number p.number && eqb b.slot p.slot) p.blocks

-- ---- the least index of an entry that breaks a rule, or how many entries there are

-- a block, where those before it count as known
unfoldable pub first_bad_block : ℕ → List Block → List Block → ℕ
first_bad_block slot before [] = 0
first_bad_block slot before (b ∷ bs) = cond (block_allowed slot before b) (suc (first_bad_block slot (add_block before b) bs)) 0

-- a vote, where all blocks of the packet count as known
unfoldable pub first_bad_vote : ℕ → ℕ → List Block → List Vote → ℕ
first_bad_vote n slot bs [] = 0
first_bad_vote n slot bs (a ∷ rest) = cond (vote_allowed n slot bs a) (suc (first_bad_vote n slot bs rest)) 0

-- ---- what comes into view

-- a proposal of the beat's slot, in phase 0, as the first of that slot
unfoldable pub viewed_at_once : Node → ℕ → Packet → Bool
viewed_at_once x beat p = is_proposal p.kind && (eqb (p.slot * 3) beat && not (eqb x.clock.proposed p.slot))

-- a block that the packet's entries stand on: one of its blocks, one that its votes are for, old ones too, or an ancestor of these
unfoldable pub stood_on : List Block → Packet → Block → Bool
stood_on bs p b =
    any_pass (λ c. at_or_above bs c.number b.number) p.blocks || any_pass (λ a. at_or_above bs a.number b.number) p.votes

-- ---- the call

unfoldable pub receive_tests : Settings → Places → Node → ℕ → List ℕ → List Test
receive_tests s pl x beat bytes =
    let p = packet_of bytes in
    let from = kept_from s x.clock.merged in
    unsound s pl x
    ∷ wrong_beat x beat
    ∷ test 24 ((limits_of s.profile).too_long (length bytes))
    ∷ test 8 (not (well_formed bytes))
    ∷ test_section 9 (first_bad_block (beat / 3) (entries x.blocks) p.blocks) p.blocks
    ∷ test_section 20 (first_bad_vote s.nodes (beat / 3) (blocks_after x p) p.votes) p.votes
    ∷ test 21 (not (header_allowed p))
    ∷ test 10 (ltb pl.blocks (length (blocks_after x p)) || ltb pl.votes (length (votes_after from x p)))
    ∷ []

-- how many entries were new, and whether the packet came into view
pub record Received : Type 0 where
  pub new_blocks : ℕ
  pub new_votes : ℕ
  pub viewed : Bool

unfoldable pub receive_answer : ℕ → Node → ℕ → Packet → Received
receive_answer from x beat p =
    record {
      new_blocks = length (blocks_after x p) - length x.blocks;
      new_votes = length (votes_after from x p) - length x.votes;
      viewed = viewed_at_once x beat p;
    }

unfoldable pub receive_into : ℕ → Bool → ℕ → Node → Packet → Node
receive_into from viewed beat x p =
    record {
      blocks =
          view (λ b. viewed && stood_on (blocks_after x p) p b)
          (x.blocks ++ all_waiting (drop (length x.blocks) (blocks_after x p)));
      votes =
          view (λ a. viewed && any_pass (same_vote a) p.votes)
          (x.votes ++ all_waiting (drop (length x.votes) (votes_after from x p)));
      clock =
          record {
            seen = beat;
            done = x.clock.done;
            merged = x.clock.merged;
            proposed = cond viewed p.slot x.clock.proposed;
          };
    }

unfoldable pub receive : Settings → Places → Node → ℕ → List ℕ → Outcome Received
receive s pl x beat bytes =
    let p = packet_of bytes in
    let from = kept_from s x.clock.merged in
    unless (first (receive_tests s pl x beat bytes)) x (receive_answer from x beat p) (receive_into from (viewed_at_once x beat p) beat x p)
