-- A run of five nodes that meets every premise of reorg resilience and in which old votes leave the tables, and what the theorem says of it. So the premises do
-- not contradict one another, and the conclusion speaks of votes and blocks that there are. Assumes nothing.
use Prim.Native.Nat.{ℕ, ◌+◌, ◌^◌}
use mathlib.Core.Path.{◌≡◌, refl, ap, ◌∙◌}
use mathlib.Core.Bool.{true, false, ◌&&◌, cond}
use mathlib.Core.List.{List, [], ◌∷◌, ◌++◌, Memᴰ}
use native.Mathlib.Omega.{arith}
use lib.Dec.{eqb}
use Rattle.protocol.specs.Entry.{Vote}
use Rattle.protocol.specs.Lists.{all_pass, passing}
use Rattle.protocol.specs.Filters.{chosen, nothing, kept_choice}
use Rattle.protocol.specs.Store.{entries, view_of}
use Rattle.protocol.specs.Packet.{Packet, packet_bytes, packet_of}
use Rattle.resilience.specs.Run.{Network, World, start, Event, voted, built, given}
use Rattle.resilience.specs.Resilience.{AtOrAbove, Stays}
use Rattle.resilience.proofs.Witness.Runs.{runs, runs_append}
use Rattle.resilience.proofs.Witness.Acts.{network, but_one, ten, Act, together, together-append, begin, awake, proposes, late_gossip, gossip, proposal, exchange, packet, block_with, vote_by, gossip_with, proposal_with, wide}
use Rattle.resilience.proofs.Witness.Events.{row, occurs, only, only-in}
use Rattle.resilience.proofs.Witness.Tests.{count_opposed, count_voters}
use Rattle.resilience.proofs.Witness.Premises.{meets_test, meets}

-- Node 1 is dishonest. Node 3 is a rack, and the other honest ones are looms. Votes expire after two slots, and a block is deep after two.
abbrev pub five : Network
five = network 5 2 2 but_one ten

-- The number of the block that stays. It has more than 64 bits, and its lower half is the number of another block, on another branch.
abbrev pub twin : ℕ
twin = 2 ^ 64 + 12

-- ---- the dishonest packets

-- an empty gossip
abbrev pub empty : Packet
empty = gossip_with [] []

-- two proposals of slot 1
abbrev pub proposal-11 : Packet
proposal-11 = proposal_with 1 11 (block_with 11 0 1 ∷ [])

abbrev pub proposal-12 : Packet
proposal-12 = proposal_with 1 12 (block_with 12 0 1 ∷ [])

-- two votes of slot 2
abbrev pub vote-12 : Packet
vote-12 = gossip_with [] (vote_by 1 2 12 ∷ [])

abbrev pub vote-twin : Packet
vote-twin = wide (gossip_with [] (vote_by 1 2 twin ∷ []))

-- one vote of slot 4
abbrev pub again-12 : Packet
again-12 = gossip_with [] (vote_by 1 4 12 ∷ [])

-- a proposal of slot 6
abbrev pub proposal-61 : Packet
proposal-61 = proposal_with 6 61 (block_with 61 12 6 ∷ [])

-- a block whose parent nobody knows
abbrev pub orphan : Packet
orphan = gossip_with (block_with 14 13 1 ∷ []) []

-- ---- the run

-- Before the first beat node 0 receives an empty gossip. Then it sleeps until the merge beat of slot 2.
-- In slot 1 node 1 proposes block 12 to node 2 and block 11 to nodes 3 and 4. Each votes for the block that it saw, and of these packets
-- none arrives. At the merge beat the three hear of one another's blocks and votes.
unfoldable slot-1 : List Act
slot-1 =
    packet empty 0
    ∷ begin ∷ packet proposal-12 2 ∷ packet proposal-11 3 ∷ packet proposal-11 4
    ∷ begin ∷ awake 2 ∷ awake 3 ∷ awake 4
    ∷ begin ∷ awake 2 ∷ awake 3 ∷ awake 4 ∷ exchange (2 ∷ 3 ∷ 4 ∷ [])
    ∷ []

-- Node 2 proposes block twin, on 11, against its own vote. Node 3 has its proposal before its gossip, node 4 the other way round. They vote for it,
-- node 3 after it received node 2's vote. In the same beat node 1 votes for 12 at node 2 and for twin at node 3.
-- Node 0, asleep, receives the proposal at once, and in the vote beat all else that was sent since the merge beat, the latest first. It
-- wakes for the merge. Node 4 falls asleep before it.
unfoldable slot-2 : List Act
slot-2 =
    begin ∷ proposes 2 twin ∷ proposal 2 3 ∷ gossip 2 3 ∷ gossip 2 4 ∷ proposal 2 4 ∷ proposal 2 0
    ∷ begin ∷ awake 2 ∷ gossip 2 3 ∷ awake 3 ∷ packet vote-12 2 ∷ packet vote-twin 3 ∷ awake 4 ∷ exchange (4 ∷ 3 ∷ 2 ∷ [])
    ∷ gossip 4 0 ∷ gossip 3 0 ∷ gossip 2 0 ∷ late_gossip 6 2 0 ∷ late_gossip 5 4 0 ∷ late_gossip 5 3 0 ∷ late_gossip 5 2 0
    ∷ begin ∷ awake 0 ∷ awake 2 ∷ awake 3 ∷ exchange (0 ∷ 2 ∷ 3 ∷ [])
    ∷ []

-- Node 3 refuses the orphan block and proposes block 31. Node 4 receives what it missed and is awake again for the vote, but it is not joined:
-- its Vote is refused, and its vote of slot 2 makes it one of the two against whom the three are counted. Nodes 0, 2 and 3 vote for 31, and all four merge.
unfoldable slot-3 : List Act
slot-3 =
    begin ∷ packet orphan 3 ∷ proposes 3 31 ∷ proposal 3 0 ∷ gossip 3 0 ∷ gossip 3 2 ∷ proposal 3 2
    ∷ proposal 3 4 ∷ gossip 3 4 ∷ late_gossip 8 0 4 ∷ late_gossip 8 2 4 ∷ late_gossip 8 3 4
    ∷ begin ∷ awake 4 ∷ awake 0 ∷ awake 2 ∷ awake 3 ∷ exchange (0 ∷ 2 ∷ 3 ∷ 4 ∷ [])
    ∷ begin ∷ awake 3 ∷ awake 4 ∷ awake 2 ∷ awake 0 ∷ exchange (4 ∷ 3 ∷ 2 ∷ 0 ∷ [])
    ∷ []

-- Node 4 proposes block 41, and all four vote for it and merge, by which the votes of slot 1 leave their tables. Node 1 votes once, for 12.
unfoldable slot-4 : List Act
slot-4 =
    begin ∷ proposes 4 41 ∷ gossip 4 0 ∷ proposal 4 0 ∷ proposal 4 2 ∷ gossip 4 2 ∷ gossip 4 3 ∷ proposal 4 3
    ∷ begin ∷ awake 0 ∷ awake 2 ∷ awake 3 ∷ awake 4 ∷ packet again-12 4 ∷ exchange (0 ∷ 2 ∷ 3 ∷ 4 ∷ [])
    ∷ begin ∷ awake 0 ∷ awake 2 ∷ awake 3 ∷ awake 4 ∷ exchange (0 ∷ 2 ∷ 3 ∷ 4 ∷ [])
    ∷ []

-- Its two votes of slot 2 are out of the window of slot 5, so that it counts again. Node 0 proposes block 51, and all four vote for it.
unfoldable slot-5 : List Act
slot-5 =
    begin ∷ proposes 0 51 ∷ gossip 0 2 ∷ proposal 0 2 ∷ proposal 0 3 ∷ gossip 0 3 ∷ gossip 0 4 ∷ proposal 0 4
    ∷ begin ∷ awake 0 ∷ awake 2 ∷ awake 3 ∷ awake 4 ∷ exchange (0 ∷ 2 ∷ 3 ∷ 4 ∷ [])
    ∷ []

unfoldable pub earlier : List Act
unfolding slot-1 slot-2 slot-3 slot-4 slot-5
earlier = slot-1 ++ (slot-2 ++ (slot-3 ++ (slot-4 ++ slot-5)))

-- Nodes 0, 2 and 3 merge slot 5, and the votes of slot 2 leave their tables. Node 4 sleeps, and receives what they sent. It is awake again in the
-- propose beat of slot 6. Its gossip holds the votes of slot 2: the others accept it and store none of these. Node 1 proposes block 61, on 12. Nodes 0, 2
-- and 3 vote for 51, and the vote beat is over.
unfoldable pub later : List Act
later =
    begin ∷ awake 0 ∷ awake 2 ∷ awake 3 ∷ exchange (0 ∷ 2 ∷ 3 ∷ []) ∷ gossip 0 4 ∷ gossip 2 4 ∷ gossip 3 4
    ∷ begin ∷ awake 4 ∷ gossip 4 0 ∷ gossip 4 2 ∷ gossip 4 3 ∷ packet proposal-61 0 ∷ packet proposal-61 2 ∷ packet proposal-61 3
    ∷ begin ∷ awake 0 ∷ awake 2 ∷ awake 3
    ∷ begin
    ∷ []

unfoldable pub acts : List Act
unfolding earlier later
acts = earlier ++ later

abbrev pub end : World
end = runs five (start five) (together acts)

-- the world before the merge beat of slot 5
abbrev pub before : World
before = runs five (start five) (together earlier)

pub end-from-before : end ≡ runs five before (together later)
unfolding acts
end-from-before = ap (runs five (start five)) (together-append earlier later) ∙ runs_append five (start five) (together earlier) (together later)

-- ---- what happens in it

-- what f reads in the packets that node j accepted at beat b
pub arrivals : {A : Type 0} → (Packet → List A) → ℕ → ℕ → List Event → List A
arrivals f b j [] = []
arrivals f b j (e ∷ log) =
    cond (eqb (row e).kind 4 && ((row e).accepted && (eqb (row e).beat b && eqb (row e).node j)))
    (f (packet_of (row e).bytes) ++ arrivals f b j log)
    (arrivals f b j log)

-- 2 gossip, 3 proposal
abbrev pub kinds : Packet → List ℕ
kinds p = p.kind ∷ []

pub of_slot : ℕ → List Vote → List Vote
unfolding passing
of_slot t vs = passing (λ a. eqb a.slot t) vs

-- In each list of events the latest comes first.
pub record Happened : Type 0 where
  pub votes : only 1 end.log
      ≡ voted 19 3 51 ∷ voted 19 2 51 ∷ voted 19 0 51
      ∷ voted 16 4 51 ∷ voted 16 3 51 ∷ voted 16 2 51 ∷ voted 16 0 51
      ∷ voted 13 4 41 ∷ voted 13 3 41 ∷ voted 13 2 41 ∷ voted 13 0 41
      ∷ voted 10 3 31 ∷ voted 10 2 31 ∷ voted 10 0 31
      ∷ voted 7 4 twin ∷ voted 7 3 twin ∷ voted 7 2 twin
      ∷ voted 4 4 11 ∷ voted 4 3 11 ∷ voted 4 2 12 ∷ []
  pub blocks : only 2 end.log ≡ built 15 0 51 41 ∷ built 12 4 41 31 ∷ built 9 3 31 twin ∷ built 6 2 twin 11 ∷ []
  pub lies : all_pass (λ e. occurs e end.log)
      (given 2 0 (packet_bytes empty) true
      ∷ given 3 2 (packet_bytes proposal-12) true ∷ given 3 3 (packet_bytes proposal-11) true
      ∷ given 7 2 (packet_bytes vote-12) true ∷ given 7 3 (packet_bytes vote-twin) true
      ∷ given 9 3 (packet_bytes orphan) false ∷ given 13 4 (packet_bytes again-12) true
      ∷ given 18 0 (packet_bytes proposal-61) true ∷ []) ≡ true
  pub counts-again : (kept_choice (view_of (before.node 3).votes) 2 4 1 ≡ nothing) × (kept_choice (view_of (before.node 3).votes) 2 5 1 ≡ chosen 12)
  -- the votes of slot 2, in which block twin is proposed, leave the table of node 3 with its Merge of slot 5
  pub votes-removed : ((before.node 3).clock.merged ≡ 4) × ((end.node 3).clock.merged ≡ 5)
      × (of_slot 2 (entries (before.node 3).votes) ≡ vote_by 2 2 twin ∷ vote_by 3 2 twin ∷ vote_by 1 2 twin ∷ vote_by 4 2 twin ∷ vote_by 1 2 12 ∷ [])
      × (of_slot 2 (entries (end.node 3).votes) ≡ [])
  -- and what it accepts after that Merge, in the propose beat of slot 6, holds them all
  pub removed-arrive : arrivals (λ p. of_slot 2 p.votes) 18 3 end.log ≡ vote_by 4 2 twin ∷ vote_by 2 2 twin ∷ vote_by 3 2 twin ∷ vote_by 1 2 twin ∷ vote_by 1 2 12 ∷ []
  pub counts-3 : (count_opposed five end 3 ≡ 2) × (count_voters five end 3 ≡ 3)
  pub at-node-3 : arrivals kinds 6 3 end.log ≡ 2 ∷ 3 ∷ []
  pub at-node-4 : arrivals kinds 6 4 end.log ≡ 3 ∷ 2 ∷ []

pub happened : Happened
unfolding meets_test acts arrivals of_slot
happened = record {
  votes = refl;
  blocks = refl;
  lies = refl;
  counts-again = (refl, refl);
  votes-removed = (refl, refl, refl, refl);
  removed-arrive = refl;
  counts-3 = (refl, refl);
  at-node-3 = refl;
  at-node-4 = refl;
}

-- ---- what the theorem says of it: block twin stays

pub record Conclusion : Type 0 where
  pub votes-2 : (i x : ℕ) → Memᴰ (voted 7 i x) end.log → x ≡ twin
  pub votes-3 : (i x : ℕ) → Memᴰ (voted 10 i x) end.log → AtOrAbove end.log twin x
  pub votes-4 : (i x : ℕ) → Memᴰ (voted 13 i x) end.log → AtOrAbove end.log twin x
  pub votes-5 : (i x : ℕ) → Memᴰ (voted 16 i x) end.log → AtOrAbove end.log twin x
  pub votes-6 : (i x : ℕ) → Memᴰ (voted 19 i x) end.log → AtOrAbove end.log twin x
  pub base-3 : (i x y : ℕ) → Memᴰ (built 9 i x y) end.log → AtOrAbove end.log twin y
  pub base-4 : (i x y : ℕ) → Memᴰ (built 12 i x y) end.log → AtOrAbove end.log twin y
  pub base-5 : (i x y : ℕ) → Memᴰ (built 15 i x y) end.log → AtOrAbove end.log twin y

pub met : meets_test five acts 6 2 twin 11 ≡ true
unfolding meets_test acts
met = refl

pub witness-holds : Conclusion
witness-holds =
    let s : Stays 6 twin end = meets five acts 6 2 twin 11 met in
    record {
      votes-2 = λ i x m. s.0 7 i x m refl;
      votes-3 = λ i x m. s.1.0 10 i x m (omega arith);
      votes-4 = λ i x m. s.1.0 13 i x m (omega arith);
      votes-5 = λ i x m. s.1.0 16 i x m (omega arith);
      votes-6 = λ i x m. s.1.0 19 i x m (omega arith);
      base-3 = λ i x y m. s.1.1 9 i x y m (omega arith);
      base-4 = λ i x y m. s.1.1 12 i x y m (omega arith);
      base-5 = λ i x y m. s.1.1 15 i x y m (omega arith);
    }

-- the last vote is one of those
pub last-vote : AtOrAbove end.log twin 51
last-vote =
    witness-holds.votes-6 3 51 (only-in 1 end.log (voted 19 3 51) (rw happened.votes (Memᴰ.head refl)))
