-- Each premise of request 11 that the proof uses is needed: without it, or with a weaker one in its place, there is a run in which a node finds a fast block
-- after its Merge, and an honest node votes beside it later. Assumes nothing.
use Prim.Native.Nat.{ℕ, suc, ◌+◌, ◌*◌, ◌-◌, ◌/◌, ◌≤◌, ◌<◌}
use mathlib.Core.Path.{◌≡◌, refl}
use mathlib.Core.Bool.{true}
use mathlib.Core.List.{List, [], ◌∷◌, ◌++◌}
use native.Mathlib.Omega.{arith}
use Rattle.resilience.specs.Run.{Network, World, start}
use Rattle.resilience.specs.Resilience.{Opened, StaysAfter}
use Rattle.resilience.specs.FastHolds.{dishonest, FoundAfterMerge}
use Rattle.resilience.proofs.Witness.Runs.{runs}
use Rattle.resilience.proofs.Witness.Acts.{network, everyone, but_one, ten, Act, together, begin, awake, proposes, gossip, proposal, exchange, packet, block_with, vote_by, gossip_with}
use Rattle.resilience.proofs.Witness.Premises.{Premise, unforged-votes, one-block, enough, Holds, run_test, run-true, premises_test, premises-true, besides-true, beside_test, beside-true, needed_test}
use Rattle.resilience.proofs.Witness.FiveNodes.{proposal-11, proposal-12}
use Rattle.resilience.proofs.Witness.FastTests.{found_test, found-true}

-- In a run that meets `Premises` for slot t a node finds a fast block for t after its Merge, and it does not stay.
pub record Lost (Premises : Network → ℕ → World → Type 0) : Type 0 where
  pub network : Network
  pub opened : Opened network
  pub world : World
  pub slot : ℕ
  pub premises : Premises network slot world
  pub finder : ℕ
  pub block : ℕ
  pub found : FoundAfterMerge network world finder slot block
  pub fails : StaysAfter slot block world → ⊥

-- after `acts` node i finds F for t; in the end somebody votes for a block in `chain`
lost : (Premises : Network → ℕ → World → Type 0) (N : Network) (acts others : List Act) (i t F : ℕ) (chain : List ℕ)
    → run_test N (acts ++ others) ≡ true → found_test N acts i t F ≡ true → beside_test t F chain (runs N (start N) (together (acts ++ others))) ≡ true
    → Premises N t (runs N (start N) (together (acts ++ others))) → Lost Premises
lost Premises N acts others i t F chain r f b p = record {
  network = N;
  opened = (run-true N (acts ++ others) r).opened;
  world = runs N (start N) (together (acts ++ others));
  slot = t;
  premises = p;
  finder = i;
  block = F;
  found = found-true N (acts ++ others) acts others refl r i t F f;
  fails = beside-true t F chain _ b;
}

-- in the next slot node j votes
unfoldable next_vote : ℕ → List Act
next_vote j = begin ∷ begin ∷ awake j ∷ []

-- ---- "When 4 × the dishonest nodes is below n"

-- Node 1 of four is dishonest. It proposes 12 to nodes 0 and 2 and 11 to node 3, and votes for 12 at node 0 and for 11 at node 2. Node 0 counts three votes
-- for 12. Node 2 counts two and two, and votes for 11 in slot 2.
unfoldable quarter : List Act
quarter =
    begin ∷ packet proposal-12 0 ∷ packet proposal-12 2 ∷ packet proposal-11 3
    ∷ begin ∷ awake 0 ∷ awake 2 ∷ awake 3 ∷ exchange (0 ∷ 2 ∷ 3 ∷ [])
    ∷ packet (gossip_with [] (vote_by 1 1 12 ∷ [])) 0 ∷ packet (gossip_with [] (vote_by 1 1 11 ∷ [])) 2
    ∷ begin ∷ awake 0 ∷ awake 2 ∷ awake 3 ∷ exchange (0 ∷ 2 ∷ 3 ∷ [])
    ∷ []

-- as many as a quarter are too many
pub fewer-needed : Lost (λ N t w. (4 * dishonest N ≤ N.nodes) × ((q : Premise) → Holds q N (3 * t + 1) (suc t) w))
unfolding found_test premises_test needed_test dishonest quarter next_vote
fewer-needed =
    lost _ (network 4 2 1 but_one ten) quarter (next_vote 2) 0 1 12 (11 ∷ 0 ∷ []) refl refl refl
    (omega arith, premises-true (network 4 2 1 but_one ten) (quarter ++ next_vote 2) 4 2 refl)

-- ---- "packets sent from the vote beat of slot t on arrive"

-- All four nodes are honest. Node 1 proposes 7, and nodes 0, 1 and 2 vote for it. Node 0 hears of all three votes, node 3 of nothing before it has merged.
-- In slot 2 node 3 votes for block 0.
unfoldable unheard : List Act
unheard =
    begin ∷ proposes 1 7 ∷ proposal 1 0 ∷ proposal 1 2
    ∷ begin ∷ awake 0 ∷ awake 1 ∷ awake 2 ∷ awake 3 ∷ gossip 1 0 ∷ gossip 2 0
    ∷ begin ∷ awake 0 ∷ awake 1 ∷ awake 2 ∷ awake 3 ∷ exchange (0 ∷ 1 ∷ 2 ∷ 3 ∷ [])
    ∷ []

-- from the merge beat on is not enough
pub delivery-needed : Lost (λ N t w. (4 * dishonest N < N.nodes) × ((q : Premise) → Holds q N (3 * t + 2) (suc t) w))
unfolding found_test premises_test needed_test dishonest unheard next_vote
delivery-needed =
    lost _ (network 4 2 1 everyone ten) unheard (next_vote 3) 0 1 7 (0 ∷ []) refl refl refl
    (omega arith, premises-true (network 4 2 1 everyone ten) (unheard ++ next_vote 3) 5 2 refl)

-- ---- "its count of voters holds from slot t + 1 on"

-- Votes expire after one slot. All four honest nodes vote for 12 in slot 1. In slot 2 only node 0 votes, for 12, and node 1, for 11. Node 0 votes for 11 in slot 3.
unfoldable few_voters : List Act
few_voters =
    begin ∷ packet proposal-12 0 ∷ packet proposal-12 2 ∷ packet proposal-12 3 ∷ packet proposal-12 4
    ∷ begin ∷ awake 0 ∷ awake 2 ∷ awake 3 ∷ awake 4 ∷ exchange (0 ∷ 2 ∷ 3 ∷ 4 ∷ [])
    ∷ begin ∷ awake 0
    ∷ []

unfoldable few_voters_after : List Act
few_voters_after =
    begin
    ∷ begin ∷ awake 0 ∷ packet (gossip_with (block_with 11 0 1 ∷ []) (vote_by 1 2 11 ∷ [])) 0
    ∷ begin ∷ awake 0
    ∷ begin
    ∷ begin ∷ awake 0
    ∷ []

-- from slot t + 2 on is not enough
pub count-needed : Lost (λ N t w. (4 * dishonest N < N.nodes) × ((q : Premise) → Holds q N (3 * t + 1) (suc (suc t)) w))
unfolding found_test premises_test needed_test dishonest few_voters few_voters_after
count-needed =
    lost _ (network 5 1 1 but_one ten) few_voters few_voters_after 0 1 12 (11 ∷ 0 ∷ []) refl refl refl
    (omega arith, premises-true (network 5 1 1 but_one ten) (few_voters ++ few_voters_after) 4 3 refl)

-- ---- "its premises on forging, numbers and places": each by itself

-- all premises but q
abbrev pub Without : Premise → Network → ℕ → World → Type 0
Without q N t w = (4 * dishonest N < N.nodes) × ((r : Premise) → (r ≡ q → ⊥) → Holds r N (3 * t + 1) (suc t) w)

-- Node 1 is dishonest, nodes 2 and 3 sleep. Node 0 votes for 12 and node 4 for 11. Node 1 gives node 0 votes for 12 of nodes 2 and 3, which they did not
-- cast, and its own. Node 4 has not heard of them when it merges, and votes for 11 in slot 2.
unfoldable forged : List Act
forged =
    begin ∷ packet proposal-12 0 ∷ packet proposal-11 4
    ∷ begin ∷ awake 0 ∷ awake 4 ∷ exchange (0 ∷ 4 ∷ [])
    ∷ packet (gossip_with [] (vote_by 1 1 12 ∷ vote_by 2 1 12 ∷ vote_by 3 1 12 ∷ [])) 0
    ∷ begin ∷ awake 0 ∷ awake 4 ∷ exchange (0 ∷ 4 ∷ [])
    ∷ []

pub unforged-votes-needed : Lost (Without unforged-votes)
unfolding found_test premises_test needed_test dishonest forged next_vote
unforged-votes-needed =
    lost (Without unforged-votes) (network 5 2 1 but_one ten) forged (next_vote 4) 0 1 12 (11 ∷ 0 ∷ []) refl refl refl
    (omega arith, besides-true unforged-votes (network 5 2 1 but_one ten) 4 2 _ refl)

-- The dishonest node 1 gives node 4 blocks 5 and 7 of slot 1. In slot 2 node 2 proposes another block 7, and nodes 0, 1, 2 and 3 vote for it. Node 4 refuses
-- the packets that hold it, and votes for 5 in slots 2 and 3.
unfoldable shared_number : List Act
shared_number =
    begin ∷ packet (gossip_with (block_with 5 0 1 ∷ block_with 7 0 1 ∷ []) []) 4
    ∷ begin
    ∷ begin ∷ awake 0 ∷ awake 2 ∷ awake 3 ∷ awake 4
    ∷ begin ∷ proposes 2 7 ∷ proposal 2 0 ∷ proposal 2 3
    ∷ begin ∷ awake 0 ∷ awake 2 ∷ awake 3 ∷ awake 4 ∷ exchange (0 ∷ 2 ∷ 3 ∷ 4 ∷ []) ∷ packet (gossip_with [] (vote_by 1 2 7 ∷ [])) 0
    ∷ begin ∷ awake 0 ∷ awake 2 ∷ awake 3 ∷ awake 4 ∷ exchange (0 ∷ 2 ∷ 3 ∷ 4 ∷ [])
    ∷ []

pub one-block-needed : Lost (Without one-block)
unfolding found_test premises_test needed_test dishonest shared_number next_vote
one-block-needed =
    lost (Without one-block) (network 5 2 1 but_one ten) shared_number (next_vote 4) 0 2 7 (5 ∷ 0 ∷ []) refl refl refl
    (omega arith, besides-true one-block (network 5 2 1 but_one ten) 7 3 _ refl)

-- Node 4 has room for block 0 alone. It refuses the packets with block 11, which nodes 0, 1, 2 and 3 vote for, and votes for block 0 in slot 2.
unfoldable no_room : List Act
no_room =
    begin ∷ packet proposal-11 0 ∷ packet proposal-11 2 ∷ packet proposal-11 3
    ∷ begin ∷ awake 0 ∷ awake 2 ∷ awake 3 ∷ awake 4 ∷ exchange (0 ∷ 2 ∷ 3 ∷ 4 ∷ []) ∷ packet (gossip_with [] (vote_by 1 1 11 ∷ [])) 0
    ∷ begin ∷ awake 0 ∷ awake 2 ∷ awake 3 ∷ awake 4 ∷ exchange (0 ∷ 2 ∷ 3 ∷ 4 ∷ [])
    ∷ []

pub enough-needed : Lost (Without enough)
unfolding found_test premises_test needed_test dishonest no_room next_vote
enough-needed =
    lost (Without enough) (network 5 2 1 but_one (λ i. 10 - 9 * (i / 4))) no_room (next_vote 4) 0 1 11 (0 ∷ []) refl refl refl
    (omega arith, besides-true enough (network 5 2 1 but_one (λ i. 10 - 9 * (i / 4))) 4 2 _ refl)
