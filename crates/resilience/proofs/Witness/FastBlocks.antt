-- A run of the five nodes of FiveNodes in which a dishonest node's block is found as a fast block, and what the theorem says of it. Assumes nothing.
use Prim.Native.Nat.{ℕ, ◌*◌, ◌<◌}
use mathlib.Core.Path.{◌≡◌, refl}
use mathlib.Core.Logic.{◌⊎◌}
use mathlib.Core.Bool.{true}
use mathlib.Core.List.{List, [], ◌∷◌, ◌++◌, append_assoc, Memᴰ}
use native.Mathlib.Omega.{arith}
use Rattle.protocol.specs.Lists.{all_pass}
use Rattle.protocol.specs.Filters.{chosen}
use Rattle.protocol.specs.Packet.{Packet, packet_bytes}
use Rattle.protocol.specs.Refusal.{done}
use Rattle.protocol.specs.Calls.Query.{fast_query}
use Rattle.resilience.specs.Run.{World, start, voted, built, given, settings}
use Rattle.resilience.specs.Resilience.{Enough, AtOrAbove}
use Rattle.resilience.specs.FastHolds.{dishonest, Hold, FoundAfterMerge, FastHolds}
use Rattle.resilience.proofs.FastHolds.{fast-holds}
use Rattle.resilience.proofs.Witness.Runs.{runs}
use Rattle.resilience.proofs.Witness.Acts.{Act, together, begin, awake, proposes, gossip, proposal, exchange, packet, vote_by, gossip_with}
use Rattle.resilience.proofs.Witness.Events.{occurs, only}
use Rattle.resilience.proofs.Witness.Premises.{Premise, delivery, one-block, enough, majority, Holds, unforged-by, run_test, run-true, premises_test, premises-true}
use Rattle.resilience.proofs.Witness.FiveNodes.{five, proposal-11, proposal-12}
use Rattle.resilience.proofs.Witness.FastTests.{found_test, found-true}

-- ---- the dishonest packets, beside the two proposals of slot 1

-- two votes of slot 1
abbrev pub vote-11 : Packet
vote-11 = gossip_with [] (vote_by 1 1 11 ∷ [])

abbrev pub vote-12 : Packet
vote-12 = gossip_with [] (vote_by 1 1 12 ∷ [])

-- one vote of slot 2
abbrev pub again-12 : Packet
again-12 = gossip_with [] (vote_by 1 2 12 ∷ [])

-- ---- the run

-- Node 1 proposes 11 to nodes 0, 2 and 3 and 12 to node 4, and each votes for what it saw. Node 1 votes for 11 at node 0 and for 12 at node 4. So node 0
-- has four votes for 11 when it merges. Its fast block is 11, also after it has received the other vote of node 1, which is not in view.
unfoldable pub finding : List Act
finding =
    begin ∷ packet proposal-11 0 ∷ packet proposal-11 2 ∷ packet proposal-11 3 ∷ packet proposal-12 4
    ∷ begin ∷ awake 0 ∷ awake 2 ∷ awake 3 ∷ awake 4 ∷ packet vote-11 0 ∷ packet vote-12 4 ∷ exchange (0 ∷ 2 ∷ 3 ∷ 4 ∷ [])
    ∷ begin ∷ awake 0 ∷ awake 2 ∷ awake 3 ∷ awake 4 ∷ exchange (0 ∷ 2 ∷ 3 ∷ 4 ∷ [])
    ∷ []

-- Node 2 proposes 21, and all four honest nodes vote for it. Node 1 votes for 12 again. Node 3 finds 21 after its Merge. Node 4 sleeps from here on.
unfoldable pub again : List Act
again =
    begin ∷ proposes 2 21 ∷ proposal 2 0 ∷ proposal 2 3 ∷ proposal 2 4 ∷ gossip 2 0 ∷ gossip 2 3 ∷ gossip 2 4
    ∷ begin ∷ awake 0 ∷ awake 2 ∷ awake 3 ∷ awake 4 ∷ packet again-12 3 ∷ exchange (0 ∷ 2 ∷ 3 ∷ 4 ∷ [])
    ∷ begin ∷ awake 0 ∷ awake 2 ∷ awake 3 ∷ exchange (0 ∷ 2 ∷ 3 ∷ [])
    ∷ []

-- Node 3 proposes 31, and nodes 0, 2 and 3 vote for it.
unfoldable pub holding : List Act
holding =
    begin ∷ proposes 3 31 ∷ proposal 3 0 ∷ proposal 3 2 ∷ gossip 3 0 ∷ gossip 3 2
    ∷ begin ∷ awake 0 ∷ awake 2 ∷ awake 3
    ∷ begin
    ∷ []

unfoldable pub acts : List Act
unfolding finding again holding
acts = finding ++ (again ++ holding)

abbrev pub end : World
end = runs five (start five) (together acts)

-- In each list of events the latest comes first.
pub record Happened : Type 0 where
  pub votes : only 1 end.log
      ≡ voted 10 3 31 ∷ voted 10 2 31 ∷ voted 10 0 31
      ∷ voted 7 4 21 ∷ voted 7 3 21 ∷ voted 7 2 21 ∷ voted 7 0 21
      ∷ voted 4 4 12 ∷ voted 4 3 11 ∷ voted 4 2 11 ∷ voted 4 0 11 ∷ []
  pub blocks : only 2 end.log ≡ built 9 3 31 21 ∷ built 6 2 21 11 ∷ []
  pub lies : all_pass (λ e. occurs e end.log)
      (given 3 0 (packet_bytes proposal-11) true ∷ given 3 4 (packet_bytes proposal-12) true
      ∷ given 4 0 (packet_bytes vote-11) true ∷ given 4 4 (packet_bytes vote-12) true
      ∷ given 7 3 (packet_bytes again-12) true ∷ []) ≡ true
  -- node 3, which has not heard of node 1's vote for 11 when it merges, finds block 0
  pub unheard : fast_query (settings five 3) (five.places 3) ((runs five (start five) (together finding)).node 3) 1 ≡ done (chosen 0)

pub happened : Happened
unfolding found_test only occurs acts
happened = record { votes = refl; blocks = refl; lies = refl; unheard = refl }

-- ---- what the theorem says of it: block 11 stays

starts : run_test five acts ≡ true
unfolding run_test acts
starts = refl

premises : (q : Premise) → Holds q five 4 2 end
unfolding premises_test acts
premises = premises-true five acts 4 2 refl

-- after its Merge of slot 1 node 0 finds block 11, and after its Merge of slot 2 node 3 finds block 21
pub found : FoundAfterMerge five end 0 1 11
unfolding found_test acts
found = found-true five acts finding (again ++ holding) refl starts 0 1 11 refl

pub found-later : FoundAfterMerge five end 3 2 21
unfolding found_test acts
found-later = found-true five acts (finding ++ again) holding (append_assoc finding again holding) starts 3 2 21 refl

few : 4 * dishonest five < 5
unfolding dishonest premises_test
few = omega arith

claim : Hold Enough five end (FoundAfterMerge five end)
unfolding FastHolds
claim = fast-holds five (run-true five acts starts).opened end

pub record Conclusion : Type 0 where
  pub votes-2 : (i x : ℕ) → Memᴰ (voted 7 i x) end.log → AtOrAbove end.log 11 x
  pub votes-3 : (i x : ℕ) → Memᴰ (voted 10 i x) end.log → AtOrAbove end.log 11 x
  pub base-2 : (i x y : ℕ) → Memᴰ (built 6 i x y) end.log → AtOrAbove end.log 11 y
  pub base-3 : (i x y : ℕ) → Memᴰ (built 9 i x y) end.log → AtOrAbove end.log 11 y
  pub one-chain : AtOrAbove end.log 11 21 ⊎ AtOrAbove end.log 21 11

pub holds : Conclusion
holds =
    let r = claim few 1 (premises delivery) (unforged-by five 4 2 end premises) (premises one-block) (premises enough) (premises majority) 0 11 found in
    record {
      votes-2 = λ i x m. r.0.0 7 i x m (omega arith);
      votes-3 = λ i x m. r.0.0 10 i x m (omega arith);
      base-2 = λ i x y m. r.0.1 6 i x y m (omega arith);
      base-3 = λ i x y m. r.0.1 9 i x y m (omega arith);
      one-chain = r.1 2 3 21 (omega arith) found-later;
    }
