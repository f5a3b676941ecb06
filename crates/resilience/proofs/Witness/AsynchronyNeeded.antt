-- Each premise of asynchrony resilience on delivery and count is needed: without it, or with a weaker one in its place, there is a run in which an honest
-- block is left. The block has number 7, and where two branches weigh the same, block 5 goes before it. Those on forging, numbers and places are needed
-- by Witness.Needed: demand 3 is a case of this theorem. Assumes nothing.
use Prim.Native.Nat.{ℕ, suc, ◌+◌, ◌*◌, ◌≤◌}
use mathlib.Core.Path.{◌≡◌, refl}
use mathlib.Core.Bool.{Bool, true, ◌&&◌}
use mathlib.Core.List.{List, [], ◌∷◌, ◌++◌}
use lib.Dec.{ltb, leb}
use borrow.Author.Tests.{ltb-true, leb-true}
use Rattle.resilience.specs.Run.{Network, World, start}
use Rattle.resilience.specs.Resilience.{DeliveredAt, MoreVote, Stays}
use Rattle.resilience.proofs.Witness.Runs.{runs}
use Rattle.resilience.proofs.Witness.Acts.{network, everyone, but_one, ten, Act, together, begin, awake, proposes, gossip, proposal, exchange, packet, block_with, vote_by, gossip_with}
use Rattle.resilience.proofs.Witness.Tests.{delivered_at_test, count_opposed, count_voters}
use Rattle.resilience.proofs.Witness.Premises.{fails_test, fails-true, needed_test}
use Rattle.resilience.proofs.Witness.Needed.{late, unmerged}
use Rattle.resilience.proofs.Witness.AsynchronyTests.{Condition, Tested, Unasked, unasked, Merged, merged, Proposed, proposed, First, first, Every, every, IsGood, slot-true, every-good, Checked, check_test, checked}

-- a run that meets four premises, and the rest, and in which the block is left
pub record Abandoned (A B C D : Condition) : Type 0 where
  pub network : Network
  pub world : World
  pub beat : ℕ
  pub block : ℕ
  pub checked : Checked A B C D network world beat block
  pub fails : Stays beat block world → ⊥

abandoned : {A B C D : Condition} (a : Tested A) (b : Tested B) (c : Tested C) (d : Tested D) (N : Network) (acts : List Act) (beat p number parent : ℕ) (chain : List ℕ)
    → check_test a b c d N acts beat p number parent ≡ true → fails_test beat number chain (runs N (start N) (together acts)) ≡ true → Abandoned A B C D
abandoned a b c d N acts beat p number parent chain h e = record {
  network = N;
  world = runs N (start N) (together acts);
  beat = beat;
  block = number;
  checked = checked a b c d N acts beat p number parent h;
  fails = fails-true beat number chain _ e;
}

abbrev expiry : Network → ℕ
expiry N = N.expiry

-- ---- the slot of the block

-- packets of the merge beat before
pub merge-beat-needed : Abandoned Unasked Proposed First (Every IsGood expiry)
unfolding check_test needed_test unmerged
merge-beat-needed = abandoned unasked proposed first (every-good expiry) (network 2 1 1 everyone ten) unmerged 6 0 7 0 [] refl refl

-- packets of its propose beat
pub propose-beat-needed : Abandoned Merged Unasked First (Every IsGood expiry)
unfolding check_test needed_test late
propose-beat-needed = abandoned merged unasked first (every-good expiry) (network 2 1 1 everyone ten) late 3 1 7 0 [] refl refl

-- Node 1 of three is dishonest. Node 2 proposes 7 in slot 2, and nodes 0 and 2 vote for it.
unfoldable opening : List Act
opening =
    begin ∷ begin
    ∷ begin ∷ awake 0 ∷ awake 2 ∷ exchange (0 ∷ 2 ∷ [])
    ∷ begin ∷ proposes 2 7 ∷ proposal 2 0 ∷ gossip 2 0
    ∷ begin ∷ awake 0 ∷ awake 2
    ∷ []

-- Votes count for two slots. The votes of slot 2 are lost, and node 0 has a vote of node 1 for 5. So it votes for 5 in slot 3, which is good.
unfoldable unheld : List Act
unfolding opening
unheld =
    opening
    ++ (packet (gossip_with (block_with 5 0 1 ∷ []) (vote_by 1 2 5 ∷ [])) 0
    ∷ begin ∷ awake 0 ∷ awake 2
    ∷ begin
    ∷ begin ∷ awake 0 ∷ awake 2 ∷ exchange (0 ∷ 2 ∷ [])
    ∷ begin
    ∷ [])

-- that it is good
pub first-needed : Abandoned Merged Proposed Unasked (Every IsGood expiry)
unfolding check_test needed_test unheld
first-needed = abandoned merged proposed unasked (every-good expiry) (network 3 2 1 but_one ten) unheld 6 2 7 0 (5 ∷ 0 ∷ []) refl refl

-- ---- later slots

-- the votes of slot 2 arrive and are merged, and so do the packets of its merge beat
unfoldable heard : List Act
unfolding opening
heard = opening ++ (exchange (0 ∷ 2 ∷ []) ∷ begin ∷ awake 0 ∷ awake 2 ∷ exchange (0 ∷ 2 ∷ []) ∷ [])

-- node 1 votes in slot 3 for its block 5, and node 0 hears of it
unfoldable rival : Act
rival = packet (gossip_with (block_with 5 0 1 ∷ []) (vote_by 1 3 5 ∷ [])) 0

-- Votes count for one slot. In slot 3 nobody votes but node 1. So only 5 counts for slot 4, and node 0 votes for it.
unfoldable too_long : List Act
unfolding heard rival
too_long = heard ++ (begin ∷ begin ∷ rival ∷ begin ∷ awake 0 ∷ begin ∷ begin ∷ awake 0 ∷ [])

-- one of E + 1 slots is not enough
pub within-E : Abandoned Merged Proposed First (Every IsGood (λ N. suc N.expiry))
unfolding check_test needed_test too_long
within-E = abandoned merged proposed first (every-good (λ N. suc N.expiry)) (network 3 1 1 but_one ten) too_long 6 2 7 0 (5 ∷ 0 ∷ []) refl refl

-- In slot 3 node 2 votes for 7, and node 1 for 5. Node 0 sleeps, wakes for the merge, and votes for 5 in slot 4.
unfoldable level : List Act
unfolding heard rival
level = heard ++ (begin ∷ begin ∷ awake 2 ∷ gossip 2 0 ∷ rival ∷ begin ∷ awake 0 ∷ begin ∷ begin ∷ awake 0 ∷ [])

-- a slot whose votes arrive, and in which as many vote as they are counted against
pub record AsMany (N : Network) (w : World) (t g : ℕ) : Type 0 where
  pub arrive : DeliveredAt (3 * g + 1) w.log
  pub as_many : count_opposed N w g ≤ count_voters N w g

unfoldable as_many_test : Network → World → ℕ → ℕ → Bool
unfolding delivered_at_test
as_many_test N w t g = delivered_at_test (3 * g + 1) w.log && leb (count_opposed N w g) (count_voters N w g)

as-many-true : (N : Network) (w : World) (t g : ℕ) → as_many_test N w t g ≡ true → AsMany N w t g
unfolding as_many_test
as-many-true N w t g h = let r = slot-true (3 * g + 1) w _ h in record { arrive = r.0; as_many = leb-true _ _ r.1 }

-- is not enough
pub more-needed : Abandoned Merged Proposed First (Every AsMany expiry)
unfolding check_test needed_test as_many_test level
more-needed = abandoned merged proposed first (every AsMany as_many_test as-many-true expiry) (network 3 1 1 but_one ten) level 6 2 7 0 (5 ∷ 0 ∷ []) refl refl

-- In slot 3 nodes 0 and 2 vote for 7, and node 1 for 5. Node 0 merges before it hears of the vote of node 2, and votes for 5 in slot 4.
unfoldable unheard : List Act
unfolding heard rival
unheard =
    heard
    ++ (begin
    ∷ begin ∷ awake 0 ∷ awake 2 ∷ rival
    ∷ begin ∷ awake 0 ∷ awake 2 ∷ exchange (0 ∷ 2 ∷ [])
    ∷ begin
    ∷ begin ∷ awake 0
    ∷ [])

-- a slot in which the count holds, and in which the packets of the merge beat arrive
pub record Late (N : Network) (w : World) (t g : ℕ) : Type 0 where
  pub arrive : DeliveredAt (3 * g + 2) w.log
  pub more : MoreVote N g w.log

unfoldable late_test : Network → World → ℕ → ℕ → Bool
unfolding delivered_at_test
late_test N w t g = delivered_at_test (3 * g + 2) w.log && ltb (count_opposed N w g) (count_voters N w g)

late-true : (N : Network) (w : World) (t g : ℕ) → late_test N w t g ≡ true → Late N w t g
unfolding late_test
late-true N w t g h = let r = slot-true (3 * g + 2) w _ h in record { arrive = r.0; more = ltb-true _ _ r.1 }

-- is not enough
pub vote-beat-needed : Abandoned Merged Proposed First (Every Late expiry)
unfolding check_test needed_test late_test unheard
vote-beat-needed = abandoned merged proposed first (every Late late_test late-true expiry) (network 3 1 1 but_one ten) unheard 6 2 7 0 (5 ∷ 0 ∷ []) refl refl
