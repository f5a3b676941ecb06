-- A rack beside a loom, computed: the same node and answers after a list of calls, until the rack is full or a packet is too long for it.
-- Assumes nothing.
use Prim.Native.Nat.{ℕ}
use mathlib.Core.Path.{◌≡◌, refl}
use mathlib.Core.Bool.{true, false}
use mathlib.Core.List.{List, [], ◌∷◌}
use lib.ListN.{length, replicate}
use Rattle.protocol.specs.declared.Profile.{Profile}
use Rattle.protocol.specs.declared.Profile.TheVariants.{Loom, Rack}
use Rattle.protocol.specs.declared.Settings.{Settings}
use Rattle.protocol.specs.Entry.{Block, Vote}
use Rattle.protocol.specs.Limits.{limits_of}
use Rattle.protocol.specs.Lists.{any_pass, passing}
use Rattle.protocol.specs.Chain.{find, found_with, slot_in, chain_step, chain_in, chain, at_or_above}
use Rattle.protocol.specs.Filters.{conflict, equivocates, window, later, latest, choice_of, kept_choice}
use Rattle.protocol.specs.Walk.{count_below, supports, weight, is_child, beats, better, best_child, walk_step, walk_in, walk, weight_at, head_block, base_block}
use Rattle.protocol.specs.Store.{all_waiting, entries, view_of, view, view_all, same_block, same_vote, since, rows_since, Places, Node, fresh}
use Rattle.protocol.specs.Sound.{in_range, settings_sound, places_sound, clock_sound, block_sound, rest_sound, blocks_sound, vote_sound, votes_sound, sound}
use Rattle.protocol.specs.Packet.{bytes_of, number_of, number_at, flat, section, entries_at, head_bytes, block_bytes, vote_bytes, packet_as, read_block, read_vote, packet_at, packet_bytes, packet_of, header_formed, well_formed}
use Rattle.protocol.specs.Refusal.{by, first, refused, done, unless}
use Rattle.protocol.specs.Calls.Open.{open_tests, open_node}
use Rattle.protocol.specs.Calls.Receive.{add_block, add_blocks, add_vote, add_votes, blocks_after, votes_after, known_as, block_allowed, vote_allowed, header_allowed, first_bad_block, first_bad_vote, viewed_at_once, receive_tests, receive_answer, receive_into, receive}
use Rattle.protocol.specs.Calls.Fit.{packet_tests}
use Rattle.protocol.specs.Calls.Propose.{base_of, propose_tests, propose}
use Rattle.protocol.specs.Calls.Vote.{head_of, vote_tests, vote}
use Rattle.protocol.specs.Calls.Merge.{merge_tests, merge}
use Rattle.protocol.specs.CallList.{Call, Receive, Propose, Vote as CastVote, Merge, after_call, CallAnswer, received, call_answer, refused_by, meets, after_calls, meets_none}
use Rattle.protocol.specs.Rack.{by_room}
use Rattle.protocol.proofs.Cases as cases

-- node 1 of this many nodes, with E = 1
abbrev settings : Profile → ℕ → Settings
settings profile n = record { profile = profile; nodes = n; own = 1; expiry = 1; depth = 1 }

abbrev two : Profile → Settings
two profile = settings profile 2

abbrev few : Places
few = record { blocks = 3; votes = 2 }

abbrev more : Places
more = record { blocks = 4; votes = 3 }

abbrev gossip : List Block → List Vote → List ℕ
gossip bs vs = packet_bytes (record { kind = 2; slot = 0; number = 0; blocks = bs; votes = vs })

-- It proposes 11, votes for it, hears of block 12 and of node 0's vote for 11, and merges: all places of the rack are filled.
abbrev calls : List Call
calls = Propose 3 11 ∷ CastVote 4 ∷ Receive 4 (gossip (cases.block 12 0 1 ∷ []) (cases.vote 0 1 11 ∷ [])) ∷ Merge 5 ∷ []

abbrev full : Node
full = after_calls (two Rack) few fresh calls

-- what it answers to these bytes then, as a rack and as a loom
abbrev on_rack : List ℕ → CallAnswer
on_rack bytes = call_answer (two Rack) few full (Receive 5 bytes)

abbrev on_loom : List ℕ → CallAnswer
on_loom bytes = call_answer (two Loom) more (after_calls (two Loom) more fresh calls) (Receive 5 bytes)

pub record UntilItLacks : Type 0 where
  pub opens-rack : (open_node (two Rack) few fresh).answer ≡ done tt
  pub opens-loom : (open_node (two Loom) more fresh).answer ≡ done tt
  pub unwanting : meets_none by_room (two Rack) few fresh calls ≡ true
  pub same : full ≡ after_calls (two Loom) more fresh calls
  pub all_blocks : length full.blocks ≡ 3
  pub all-votes : length full.votes ≡ 2
  -- nothing new: alike
  pub known-rack : on_rack (gossip (cases.block 12 0 1 ∷ []) []) ≡ received (done (record { new_blocks = 0; new_votes = 0; viewed = false }))
  pub known-loom : on_loom (gossip (cases.block 12 0 1 ∷ []) []) ≡ received (done (record { new_blocks = 0; new_votes = 0; viewed = false }))
  -- a new block: the rack lacks a place
  pub new-rack : on_rack (gossip (cases.block 13 0 1 ∷ []) []) ≡ received (refused (by 10))
  pub new-loom : on_loom (gossip (cases.block 13 0 1 ∷ []) []) ≡ received (done (record { new_blocks = 1; new_votes = 0; viewed = false }))
  -- 4,096 bytes are read, and no packet; 4,097 are too long for a rack, whatever they are
  pub long-rack : on_rack (replicate 4096 0) ≡ received (refused (by 8))
  pub longer-rack : on_rack (replicate 4097 0) ≡ received (refused (by 24))
  pub longer-loom : on_loom (replicate 4097 0) ≡ received (refused (by 8))

pub until-it-lacks : UntilItLacks
unfolding limits_of any_pass passing since find found_with open_tests open_node receive receive_tests packet_tests receive_answer receive_into first_bad_block first_bad_vote block_allowed known_as header_allowed vote_allowed blocks_after votes_after add_blocks add_block add_votes add_vote viewed_at_once first unless sound settings_sound places_sound clock_sound block_sound blocks_sound rest_sound vote_sound votes_sound in_range same_block same_vote entries view_of view view_all rows_since all_waiting packet_bytes packet_as head_bytes block_bytes vote_bytes section flat bytes_of packet_of packet_at entries_at read_block read_vote number_at number_of well_formed header_formed slot_in chain_step chain_in chain at_or_above conflict equivocates window later latest choice_of kept_choice count_below supports weight is_child beats better best_child walk_step walk_in walk weight_at head_block base_block head_of base_of propose propose_tests vote vote_tests merge merge_tests after_call call_answer refused_by meets after_calls meets_none
until-it-lacks =
    record {
      opens-rack = refl;
      opens-loom = refl;
      unwanting = refl;
      same = refl;
      all_blocks = refl;
      all-votes = refl;
      known-rack = refl;
      known-loom = refl;
      new-rack = refl;
      new-loom = refl;
      long-rack = refl;
      longer-rack = refl;
      longer-loom = refl;
    }

-- ---- each limit of the rack, and the next number

pub record AtTheLimits : Type 0 where
  pub nodes : (open_node (settings Rack 16) few fresh).answer ≡ done tt
  pub nodes-over : (open_node (settings Rack 17) few fresh).answer ≡ refused (by 1)
  pub places : (open_node (settings Rack 16) (record { blocks = 64; votes = 256 }) fresh).answer ≡ done tt
  pub blocks-over : (open_node (settings Rack 16) (record { blocks = 65; votes = 256 }) fresh).answer ≡ refused (by 5)
  pub votes-over : (open_node (settings Rack 16) (record { blocks = 64; votes = 257 }) fresh).answer ≡ refused (by 5)
  -- what a loom keeps to a rack does not: unsound
  pub unsound-nodes : sound (settings Loom 17) more fresh ≡ true
  pub unsound-rack : sound (settings Rack 17) more fresh ≡ false
  pub unsound-places : sound (two Rack) (record { blocks = 65; votes = 256 }) fresh ≡ false

pub at-the-limits : AtTheLimits
unfolding limits_of open_tests open_node first unless sound settings_sound places_sound clock_sound blocks_sound rest_sound votes_sound in_range same_block
at-the-limits =
    record {
      nodes = refl;
      nodes-over = refl;
      places = refl;
      blocks-over = refl;
      votes-over = refl;
      unsound-nodes = refl;
      unsound-rack = refl;
      unsound-places = refl;
    }
