-- Document 01's starred cases, as one table over the definitions, and rows of our own: those that tell its shortcuts from
-- the rule (the first is none since request 2), and those of the requests. Assumes nothing.
use Prim.Native.Nat.{ℕ}
use mathlib.Core.Path.{◌≡◌, refl}
use mathlib.Core.List.{List, [], ◌∷◌, ◌++◌}
use Rattle.protocol.specs.declared.Profile.TheVariants.{Loom}
use Rattle.protocol.specs.Limits.{limits_of}
use Rattle.protocol.specs.Entry.{Block, Vote}
use Rattle.protocol.specs.Lists.{passing, any_pass, all_pass}
use Rattle.protocol.specs.Chain.{genesis, find, found_with, slot_in, chain_step, chain_in, chain, at_or_above}
use Rattle.protocol.specs.Filters.{conflict, equivocates, window, later, latest, chosen, nothing, choice_of, kept_choice}
use Rattle.protocol.specs.Walk.{count_below, supports, weight, is_child, beats, better, best_child, walk_step, walk_in, walk, weight_at, head_block, base_block}
use Rattle.protocol.specs.Confirm.{deep_from, deep_block, vote_in, valid_vote, quorum, height, higher, highest, number_found, fast_block}
use Rattle.protocol.specs.Store.{waiting, in_view, all_waiting, entries, view_of, view, same_block, same_vote, since, fresh}
use Rattle.protocol.specs.Sound.{in_range, settings_sound, places_sound, clock_sound, rest_sound, blocks_sound, votes_sound, sound}
use Rattle.protocol.specs.Packet.{bytes_of, number_of, number_at, flat, section, entries_at, head_bytes, block_bytes, vote_bytes, packet_as, read_block, read_vote, packet_at, packet_bytes, packet_of, header_formed, well_formed}
use Rattle.protocol.specs.Refusal.{by, by_entry, first, Answer, refused, Outcome, unless}
use Rattle.protocol.specs.Calls.Receive.{add_block, add_blocks, add_vote, add_votes, blocks_after, votes_after, known_as, block_allowed, vote_allowed, header_allowed, first_bad_block, first_bad_vote, viewed_at_once, stood_on, receive_tests, Received, receive_answer, receive_into, receive}
use Rattle.protocol.specs.Calls.Fit.{packet_tests}

abbrev pub block : ℕ → ℕ → ℕ → Block
block x p s = record { number = x; parent = p; slot = s }

abbrev pub vote : ℕ → ℕ → ℕ → Vote
vote v s x = record { voter = v; slot = s; number = x }

-- ---- "n = 5, E = 2. Blocks 11 (parent 0, slot 1), 21 (parent 0, slot 2), 31 (parent 11, slot 3)."

abbrev pub blocks : List Block
blocks = genesis ∷ block 11 0 1 ∷ block 21 0 2 ∷ block 31 11 3 ∷ []

-- "Votes, all in view: 0 in slot 1 for 11; 1 in slot 2 for 21; 4 in slot 2 for 11; 2 in slot 3 for 31; 3 in slot 3 for 21."
abbrev pub votes : List Vote
votes = vote 0 1 11 ∷ vote 1 2 21 ∷ vote 4 2 11 ∷ vote 2 3 31 ∷ vote 3 3 21 ∷ []

abbrev pub head_for : List Vote → ℕ → ℕ
head_for vs t = head_block blocks vs 5 2 t

abbrev pub deep_with : ℕ → ℕ
deep_with K = deep_block blocks votes 5 2 K 4

-- "With only 0, 1, 2 in slot 3 for 31"
abbrev pub three : List Vote
three = vote 0 3 31 ∷ vote 1 3 31 ∷ vote 2 3 31 ∷ []

pub record Starred : Type 0 where
  pub head-4 : head_for votes 4 ≡ 31
  pub head-3 : head_for votes 3 ≡ 31
  pub base-3 : base_block blocks votes 5 2 3 ≡ 11
  pub node-4-added : head_for (vote 4 3 21 ∷ votes) 4 ≡ 21
  pub node-3-added : head_for (vote 3 3 31 ∷ votes) 4 ≡ 31
  pub deep-1 : deep_with 1 ≡ 31
  pub deep-2 : deep_with 2 ≡ 11
  pub deep-3 : deep_with 3 ≡ 11
  pub deep-4 : deep_with 4 ≡ 0
  pub fast-3 : fast_block blocks votes 5 3 ≡ nothing
  pub fast-three : fast_block blocks three 5 3 ≡ nothing
  pub fast-four : fast_block blocks (vote 4 3 11 ∷ three) 5 3 ≡ chosen 11

pub starred : Starred
unfolding any_pass passing since find found_with slot_in chain_step chain_in chain at_or_above conflict equivocates window later latest choice_of kept_choice count_below supports weight is_child beats better best_child walk_step walk_in walk weight_at head_block base_block deep_from deep_block vote_in valid_vote quorum height higher highest number_found fast_block
starred =
    record {
      head-4 = refl;
      head-3 = refl;
      base-3 = refl;
      node-4-added = refl;
      node-3-added = refl;
      deep-1 = refl;
      deep-2 = refl;
      deep-3 = refl;
      deep-4 = refl;
      fast-3 = refl;
      fast-three = refl;
      fast-four = refl;
    }

-- ---- document 01's shortcuts, each told from the rule by a row

-- "Taking the latest vote before expiry, so a vote of slot t hides an older one": 0 and 4 vote in slot 3 too
abbrev pub hiding : List Vote
hiding = vote 0 3 21 ∷ vote 4 3 21 ∷ votes

-- "Breaking ties by arrival": 21 arrives before 11
abbrev pub arrived : List Block
arrived = genesis ∷ block 21 0 2 ∷ block 11 0 1 ∷ block 31 11 3 ∷ []

-- "Bringing gossip into view on arrival": a fresh node hears of block 11
abbrev pub heard : Outcome Received
heard =
    receive (record { profile = Loom; nodes = 5; own = 0; expiry = 2; depth = 3 }) (record { blocks = 4; votes = 4 }) fresh 3
    (packet_bytes (record { kind = 0; slot = 0; number = 0; blocks = block 11 0 1 ∷ []; votes = vote 1 1 11 ∷ [] }))

pub record Told : Type 0 where
  pub slot-t-hides-nothing : head_for hiding 3 ≡ 31
  pub slot-t-does-not-count : head_for (vote 4 3 21 ∷ votes) 3 ≡ 31
  pub gossip-waits : heard.node.blocks ≡ in_view genesis ∷ waiting (block 11 0 1) ∷ []
  pub gossip-votes-wait : heard.node.votes ≡ waiting (vote 1 1 11) ∷ []
  pub ties-by-number : head_block arrived votes 5 2 4 ≡ 31

pub told : Told
unfolding any_pass passing since find slot_in chain_step chain_in chain at_or_above conflict equivocates window later latest choice_of kept_choice count_below supports weight is_child beats better best_child walk_step walk_in walk weight_at head_block base_block deep_from deep_block vote_in valid_vote quorum height higher highest number_found fast_block found_with limits_of receive receive_tests packet_tests receive_answer receive_into first_bad_block first_bad_vote block_allowed known_as header_allowed vote_allowed blocks_after votes_after add_blocks add_block add_votes add_vote viewed_at_once stood_on first unless sound settings_sound places_sound clock_sound blocks_sound rest_sound votes_sound in_range all_pass same_block same_vote entries view_of view all_waiting packet_bytes packet_as head_bytes block_bytes vote_bytes section flat bytes_of packet_of packet_at entries_at read_block read_vote number_at number_of well_formed header_formed
told =
    record {
      slot-t-hides-nothing = refl;
      slot-t-does-not-count = refl;
      gossip-waits = refl;
      gossip-votes-wait = refl;
      ties-by-number = refl;
    }

-- ---- request 1: which entry was bad

-- what a fresh node of five without a free block place and with one free vote place answers to a packet at beat 3
abbrev pub answered : ℕ → ℕ → ℕ → List Block → List Vote → Answer Received
answered kind slot number bs vs =
    (receive (record { profile = Loom; nodes = 5; own = 0; expiry = 2; depth = 3 }) (record { blocks = 1; votes = 1 }) fresh 3
    (packet_bytes (record { kind = kind; slot = slot; number = number; blocks = bs; votes = vs }))).answer

-- Block 12's parent is unknown, as is 13's; voter 5 is not there. The first bad block counts, before any vote; the first bad vote before
-- the header; each of these before want of places.
pub record Named : Type 0 where
  pub first_block : answered 1 1 99 (block 11 0 1 ∷ block 12 7 1 ∷ block 13 7 1 ∷ []) (vote 5 1 0 ∷ []) ≡ refused (by_entry 9 1)
  pub first-vote : answered 1 1 99 (block 11 0 1 ∷ []) (vote 1 1 0 ∷ vote 2 1 11 ∷ vote 5 1 0 ∷ vote 6 1 0 ∷ []) ≡ refused (by_entry 20 2)
  pub wrong-header : answered 1 1 99 (block 11 0 1 ∷ []) (vote 1 1 0 ∷ []) ≡ refused (by 21)
  pub other-slot : answered 1 2 11 (block 11 0 1 ∷ []) [] ≡ refused (by 21)
  pub no_place : answered 1 1 11 (block 11 0 1 ∷ []) [] ≡ refused (by 10)

pub named : Named
unfolding limits_of any_pass passing since find found_with receive receive_tests packet_tests receive_answer receive_into first_bad_block first_bad_vote block_allowed known_as header_allowed vote_allowed blocks_after votes_after add_blocks add_block add_votes add_vote viewed_at_once stood_on first unless sound settings_sound places_sound clock_sound blocks_sound rest_sound votes_sound in_range all_pass same_block same_vote entries view_of view all_waiting packet_bytes packet_as head_bytes block_bytes vote_bytes section flat bytes_of packet_of packet_at entries_at read_block read_vote number_at number_of well_formed header_formed
named = record { first_block = refl; first-vote = refl; wrong-header = refl; other-slot = refl; no_place = refl }

-- ---- request 2: a voter is dropped for two votes of one slot of the window, and for the fast block for two of slot t

-- voter 2, who votes in slot 3 for 31, has two votes of slot s
abbrev pub doubled_in : ℕ → List Vote
doubled_in s = vote 2 s 11 ∷ vote 2 s 0 ∷ votes

-- four who vote in slot 3 for 11 or above it, and more votes of one of them, voter 0
abbrev pub four_with : List Vote → List Vote
four_with more = vote 4 3 11 ∷ more ++ three

-- The window of slot 4 is the slots 2 and 3. Without voter 2's vote for 31 the head is 21.
pub record Doubled : Type 0 where
  pub too-old : head_for (doubled_in 1) 4 ≡ 31
  pub oldest : head_for (doubled_in 2) 4 ≡ 21
  pub newest : head_for (doubled_in 3) 4 ≡ 21
  pub too-new : head_for (doubled_in 4) 4 ≡ 31
  pub base-too-old : base_block blocks (doubled_in 1) 5 2 4 ≡ 31
  pub base-inside : base_block blocks (doubled_in 2) 5 2 4 ≡ 21
  pub fast-before : fast_block blocks (four_with (vote 0 2 11 ∷ vote 0 2 0 ∷ [])) 5 3 ≡ chosen 11
  pub fast-inside : fast_block blocks (four_with (vote 0 3 11 ∷ [])) 5 3 ≡ nothing
  pub fast-after : fast_block blocks (four_with (vote 0 4 11 ∷ vote 0 4 0 ∷ [])) 5 3 ≡ chosen 11

pub doubled : Doubled
unfolding any_pass passing since find slot_in chain_step chain_in chain at_or_above conflict equivocates window later latest choice_of kept_choice count_below supports weight is_child beats better best_child walk_step walk_in walk weight_at head_block base_block vote_in valid_vote quorum height higher highest number_found fast_block
doubled =
    record {
      too-old = refl;
      oldest = refl;
      newest = refl;
      too-new = refl;
      base-too-old = refl;
      base-inside = refl;
      fast-before = refl;
      fast-inside = refl;
      fast-after = refl;
    }

-- ---- the same at the last slots that there are

abbrev pub late_blocks : List Block
late_blocks = genesis ∷ block 11 0 999999997 ∷ block 21 0 999999998 ∷ block 31 11 999999999 ∷ []

abbrev pub late_votes : List Vote
late_votes = vote 1 999999998 21 ∷ vote 2 999999999 31 ∷ vote 3 999999999 31 ∷ vote 4 999999999 31 ∷ vote 0 999999999 11 ∷ []

pub record Late : Type 0 where
  pub late-head : head_block late_blocks late_votes 5 2 1000000000 ≡ 31
  pub late-base : base_block late_blocks late_votes 5 2 999999999 ≡ 21
  pub late-deep : deep_block late_blocks late_votes 5 2 3 1000000000 ≡ 11
  pub late-fast : fast_block late_blocks late_votes 5 999999999 ≡ chosen 11

pub late : Late
unfolding any_pass passing since find found_with slot_in chain_step chain_in chain at_or_above conflict equivocates window later latest choice_of kept_choice count_below supports weight is_child beats better best_child walk_step walk_in walk weight_at head_block base_block deep_from deep_block vote_in valid_vote quorum height higher highest number_found fast_block
late = record { late-head = refl; late-base = refl; late-deep = refl; late-fast = refl }
