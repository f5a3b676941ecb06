-- A run in which a dishonest node's packets are turned away, one by a rack as too long and one by a node without places for it: demand 3's literal premise fails,
-- the weaker one holds, and honest blocks stay, deep blocks agree and fast blocks hold. Assumes nothing.
use Prim.Native.Nat.{ℕ, ◌*◌, ◌<◌}
use mathlib.Core.Path.{◌≡◌, refl}
use mathlib.Core.Bool.{true, false, cond}
use mathlib.Core.List.Memᴰ
use mathlib.Core.List.{List, [], ◌∷◌, ◌++◌}
use native.Mathlib.Omega.{arith}
use lib.Dec.{eqb}
use lib.ListN.{replicate}
use Rattle.protocol.specs.Packet.{Packet, packet_bytes}
use Rattle.protocol.specs.Refusal.{by, refused}
use Rattle.protocol.specs.Calls.Receive.{receive}
use Rattle.resilience.specs.Run.{Network, World, start, Receive, voted, built, turned_away, settings}
use Rattle.resilience.specs.Resilience.{AtOrAbove, Unforged, Enough, EnoughForHonest, Delivered, Majority, Stays, StaysAfter}
use Rattle.resilience.specs.DeepAgreement.{DeepAfterVote}
use Rattle.resilience.specs.FastHolds.{dishonest, FoundAfterMerge}
use Rattle.resilience.specs.Flooding.{FloodAgreement, FloodFastHolds}
use Rattle.resilience.proofs.DeepAgreement.{conditions-from, flood-agreement}
use Rattle.resilience.proofs.FastHolds.{flood-fast-holds}
use Rattle.resilience.proofs.Witness.Runs.{runs}
use Rattle.resilience.proofs.Witness.Acts.{network, but_one, Act, together, begin, awake, proposes, gossip, proposal, exchange, packet, block_with, gossip_with}
use Rattle.resilience.proofs.Witness.Events.{only, only-in}
use Rattle.resilience.proofs.Witness.Tests.{unforged, enough_for_honest_test, enough-for-honest-true}
use Rattle.resilience.proofs.Witness.Premises.{Premise, delivery, unforged-blocks, unforged-votes, unforged-proposals, one-block, enough, majority, Holds, rank, differ, by-weaker, besides-true, run_test, run-true, needed_test}
use Rattle.resilience.proofs.Witness.DeepTests.{deep_test, deep-true, every_test, every_true}
use Rattle.resilience.proofs.Witness.FastTests.{found_test, found-true}

-- Node 1 is dishonest, and node 3 a rack. Node 0 has places for three blocks.
abbrev pub five : Network
five = network 5 2 1 but_one (λ i. cond (eqb i 0) 3 10)

-- ---- the dishonest packets

-- one byte more than a rack reads
abbrev pub long : List ℕ
long = replicate 4097 0

-- two blocks, of which node 0 has a place for one
abbrev pub crowd : Packet
crowd = gossip_with (block_with 11 0 1 ∷ block_with 12 0 1 ∷ []) []

-- ---- the run

-- Nobody proposes in slot 1. In slot 2 node 2 proposes block 21.
unfoldable pub before : List Act
before =
    begin
    ∷ begin
    ∷ begin ∷ awake 0 ∷ awake 2 ∷ awake 3 ∷ awake 4 ∷ exchange (0 ∷ 2 ∷ 3 ∷ 4 ∷ [])
    ∷ begin ∷ proposes 2 21 ∷ proposal 2 0 ∷ proposal 2 3 ∷ proposal 2 4 ∷ gossip 2 0 ∷ gossip 2 3 ∷ gossip 2 4
    ∷ []

-- Node 1 floods nodes 3 and 0. All four honest nodes vote for 21 and merge.
unfoldable pub flood : List Act
flood =
    ((λ w. Receive 3 long) ∷ []) ∷ packet crowd 0
    ∷ begin ∷ awake 0 ∷ awake 2 ∷ awake 3 ∷ awake 4 ∷ exchange (0 ∷ 2 ∷ 3 ∷ 4 ∷ [])
    ∷ begin ∷ awake 0 ∷ awake 2 ∷ awake 3 ∷ awake 4 ∷ exchange (0 ∷ 2 ∷ 3 ∷ 4 ∷ [])
    ∷ []

-- In slot 3 node 3 proposes 31 on it, for which node 0 still has a place.
unfoldable after : List Act
after =
    begin ∷ proposes 3 31 ∷ proposal 3 0 ∷ proposal 3 2 ∷ proposal 3 4 ∷ gossip 3 0 ∷ gossip 3 2 ∷ gossip 3 4
    ∷ begin ∷ awake 0 ∷ awake 2 ∷ awake 3 ∷ awake 4
    ∷ begin
    ∷ []

unfoldable pub acts : List Act
unfolding before flood after
acts = (before ++ flood) ++ after

abbrev pub end : World
end = runs five (start five) (together acts)

-- the world in which the flood begins
abbrev moment : World
moment = runs five (start five) (together before)

-- In each list of events the latest comes first.
pub record Happened : Type 0 where
  pub votes : only 1 end.log
      ≡ voted 10 4 31 ∷ voted 10 3 31 ∷ voted 10 2 31 ∷ voted 10 0 31 ∷ voted 7 4 21 ∷ voted 7 3 21 ∷ voted 7 2 21 ∷ voted 7 0 21 ∷ []
  pub blocks : only 2 end.log ≡ built 9 3 31 21 ∷ built 6 2 21 0 ∷ []
  pub turned-away : only 6 end.log ≡ turned_away 6 0 (packet_bytes crowd) ∷ turned_away 6 3 long ∷ []
  pub too_long_lem : (receive (settings five 3) (five.places 3) (moment.node 3) moment.beat long).answer ≡ refused (by 24)
  pub no-places : (receive (settings five 0) (five.places 0) (moment.node 0) moment.beat (packet_bytes crowd)).answer ≡ refused (by 10)

pub happened : Happened
unfolding needed_test acts
happened = record { votes = refl; blocks = refl; turned-away = refl; too_long_lem = refl; no-places = refl }

-- ---- the premises

-- demand 3's literal premise on places, buffers and lengths fails
pub literal-fails : Enough end.log → ⊥
literal-fails E =
    E.packets 6 0 (packet_bytes crowd) (only-in 6 end.log (turned_away 6 0 (packet_bytes crowd)) (rw happened.turned-away (Memᴰ.head refl)))

-- the weaker one holds
pub weaker-holds : EnoughForHonest end.log
unfolding needed_test enough_for_honest_test acts
weaker-holds = enough-for-honest-true end.log refl

-- and so do the others
rest : (q : Premise) → (q ≡ enough → ⊥) → Holds q five 5 2 end
unfolding needed_test acts
rest = besides-true enough five 5 2 end refl

holds : (q : Premise) → eqb (rank q) (rank enough) ≡ false → Holds q five 5 2 end
holds q e = rest q (differ q enough e)

genuine : Unforged five end.log
genuine = unforged five end.log (holds unforged-blocks refl) (holds unforged-votes refl) (holds unforged-proposals refl)

starts : run_test five acts ≡ true
unfolding run_test acts
starts = refl

-- ---- what the theorems say of it

-- block 21 stays
pub block-stays : Stays 6 21 end
block-stays =
    let S = run-true five acts starts in
    by-weaker five S.opened end S.run 6 2 21 0 (only-in 2 end.log (built 6 2 21 0) (rw happened.blocks (Memᴰ.tail (Memᴰ.head refl))))
    rest weaker-holds

pub last-vote : AtOrAbove end.log 21 31
last-vote = block-stays.1.0 10 4 31 (only-in 1 end.log (voted 10 4 31) (rw happened.votes (Memᴰ.head refl))) (omega arith)

-- right after its vote in slot 3 node 0 has the deep block 21, and whoever has one then has the same
pub deep-0 : DeepAfterVote five end 0 3 21
unfolding deep_test acts
deep-0 = deep-true five acts starts 0 3 21 refl

pub same-deep : (j d : ℕ) → DeepAfterVote five end j 3 d → 21 ≡ d
unfolding FloodAgreement every_test needed_test acts
same-deep j d H =
    (flood-agreement five (run-true five acts starts).opened end 2 (conditions-from five end 2 (holds delivery refl) (holds majority refl))
    genuine (holds one-block refl) weaker-holds).1.0 (every_true five 2 end (omega arith) refl) 3 0 j 21 d (omega arith) deep-0 H

-- after its Merge of slot 2 node 4 finds block 21, and it stays
pub found : FoundAfterMerge five end 4 2 21
unfolding found_test acts
found = found-true five acts (before ++ flood) after refl starts 4 2 21 refl

few : 4 * dishonest five < 5
unfolding dishonest needed_test
few = omega arith

pub fast-stays : StaysAfter 2 21 end
unfolding FloodFastHolds Delivered Majority
fast-stays =
    (flood-fast-holds five (run-true five acts starts).opened end few 2 (λ b l. holds delivery refl b (omega arith)) genuine (holds one-block refl) weaker-holds
    (λ r l. holds majority refl r (omega arith)) 4 21 found).0
