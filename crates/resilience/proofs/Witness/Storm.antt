-- A run with two faults, each of E - 1 slots, that meets every premise of asynchrony resilience, and what the theorem says of it; and one in which only the
-- smaller count holds. Assumes nothing.
use Prim.Native.Nat.{ℕ, ◌/◌}
use mathlib.Core.Path.{◌≡◌, refl, sym}
use mathlib.Core.Logic.{⊎_elim}
use mathlib.Core.Bool.{true, false, ◌||◌}
use mathlib.Core.List.Memᴰ
use mathlib.Core.List.{List, [], ◌∷◌, ◌++◌}
use native.Mathlib.Omega.{arith}
use lib.Dec.{eqb}
use borrow.Author.Tests.{eqb-true}
use Rattle.protocol.proofs.Basics.Tests.{either}
use Rattle.resilience.specs.Run.{Network, World, start, voted, built}
use Rattle.resilience.specs.Resilience.{AtOrAbove, Stays}
use Rattle.resilience.specs.DeepAgreement.{BlockEvery, DeepAfterVote}
use Rattle.resilience.specs.Asynchrony.{Good, Lasting, AsynchronyResilience, GoodSince, AsynchronyResilienceSince, AsynchronyAgreement}
use Rattle.resilience.proofs.Runs.Premises.{enough-for-honest}
use Rattle.resilience.proofs.Asynchrony.{asynchrony-resilient, asynchrony-resilient-since, lasting-by, good-since}
use Rattle.resilience.proofs.JustVoted.{while-joined}
use Rattle.resilience.proofs.DeepAgreement.{asynchrony-agreement}
use Rattle.resilience.proofs.Witness.Runs.{runs}
use Rattle.resilience.proofs.Witness.Acts.{network, but_one, ten, Act, together, begin, awake, proposes, gossip, proposal, exchange, packet, block_with, vote_by, gossip_with, proposal_with}
use Rattle.resilience.proofs.Witness.Events.{only, only-in}
use Rattle.resilience.proofs.Witness.Tests.{count_opposed, count_voters}
use Rattle.resilience.proofs.Witness.OneOfEvery.{one-of-true}
use Rattle.resilience.proofs.Witness.DeepTests.{deep_test, deep-true}
use Rattle.resilience.proofs.Witness.AsynchronyTests.{Merged, merged, Proposed, proposed, First, first, Every, IsGood, good_test, every-good, every-good-since, Checked, check_test, checked}

-- Votes count for three slots, and a block is deep after six. Node 1 of four is dishonest.
abbrev pub four : Network
four = network 4 3 6 but_one ten

-- In slot 1 node 0 votes for 11. In slot 2 node 2 proposes 21, and all three vote for it. In slots 3 and 4 they are awake, but all that they send is lost:
-- node 3 proposes 31, and node 0 proposes 41. Node 1 votes for 12.
unfoldable fault : List Act
fault =
    begin ∷ packet (proposal_with 1 11 (block_with 11 0 1 ∷ [])) 0
    ∷ begin ∷ awake 0 ∷ awake 2 ∷ awake 3
    ∷ begin ∷ awake 0 ∷ awake 2 ∷ awake 3 ∷ exchange (0 ∷ 2 ∷ 3 ∷ [])
    ∷ begin ∷ proposes 2 21 ∷ proposal 2 0 ∷ proposal 2 3 ∷ gossip 2 0 ∷ gossip 2 3
    ∷ begin ∷ awake 0 ∷ awake 2 ∷ awake 3 ∷ exchange (0 ∷ 2 ∷ 3 ∷ [])
    ∷ begin ∷ awake 0 ∷ awake 2 ∷ awake 3
    ∷ begin ∷ proposes 3 31 ∷ packet (gossip_with (block_with 12 0 1 ∷ []) []) 0
    ∷ begin ∷ awake 0 ∷ awake 2 ∷ awake 3 ∷ packet (gossip_with [] (vote_by 1 3 12 ∷ [])) 0
    ∷ begin ∷ awake 0 ∷ awake 2 ∷ awake 3
    ∷ begin ∷ proposes 0 41
    ∷ begin ∷ awake 0 ∷ awake 2 ∷ awake 3
    ∷ begin ∷ awake 0 ∷ awake 2 ∷ awake 3
    ∷ []

-- In slot 5 node 1 proposes 52, on 12, and all three vote, each for what it has, and their votes arrive.
unfoldable between : List Act
between =
    begin ∷ packet (proposal_with 5 52 (block_with 12 0 1 ∷ block_with 52 12 5 ∷ [])) 3
    ∷ begin ∷ awake 0 ∷ awake 2 ∷ awake 3 ∷ exchange (0 ∷ 2 ∷ 3 ∷ [])
    ∷ begin ∷ awake 0 ∷ awake 2 ∷ awake 3
    ∷ []

-- In slots 6 and 7 only node 2 is awake, proposes 61 and votes; all that it sends is lost. The others wake for the merge of slot 7, and from then on all
-- arrives. In slot 8 node 0 proposes 81, and all three vote for it.
unfoldable again : List Act
again =
    begin ∷ proposes 2 61
    ∷ begin ∷ awake 2
    ∷ begin ∷ awake 2
    ∷ begin
    ∷ begin ∷ awake 2
    ∷ begin ∷ awake 0 ∷ awake 2 ∷ awake 3 ∷ exchange (0 ∷ 2 ∷ 3 ∷ [])
    ∷ begin ∷ proposes 0 81 ∷ proposal 0 2 ∷ proposal 0 3 ∷ gossip 0 2 ∷ gossip 0 3
    ∷ begin ∷ awake 0 ∷ awake 2 ∷ awake 3
    ∷ begin
    ∷ []

unfoldable pub storm : List Act
unfolding fault between again
storm = fault ++ (between ++ again)

abbrev end : World
end = runs four (start four) (together storm)

-- In each list of events the latest comes first.
pub record Happened : Type 0 where
  -- In the first fault the chain forks above 21. In the second node 2 votes alone.
  pub votes : only 1 end.log
      ≡ voted 25 3 81 ∷ voted 25 2 81 ∷ voted 25 0 81
      ∷ voted 22 2 61 ∷ voted 19 2 61
      ∷ voted 16 3 31 ∷ voted 16 2 21 ∷ voted 16 0 41
      ∷ voted 13 3 31 ∷ voted 13 2 21 ∷ voted 13 0 41
      ∷ voted 10 3 31 ∷ voted 10 2 21 ∷ voted 10 0 21
      ∷ voted 7 3 21 ∷ voted 7 2 21 ∷ voted 7 0 21
      ∷ voted 4 3 0 ∷ voted 4 2 0 ∷ voted 4 0 11 ∷ []
  pub blocks : only 2 end.log ≡ built 24 0 81 61 ∷ built 18 2 61 31 ∷ built 12 0 41 21 ∷ built 9 3 31 21 ∷ built 6 2 21 11 ∷ []
  -- the slots of both faults are not good
  pub faults : (good_test four end 3 || (good_test four end 4 || (good_test four end 6 || good_test four end 7))) ≡ false

pub happened : Happened
unfolding check_test only storm
happened = record { votes = refl; blocks = refl; faults = refl }

-- ---- what the theorems say of it

met : Checked Merged Proposed First (Every IsGood (λ N. N.expiry)) four end 6 21
unfolding check_test storm
met = checked merged proposed first (every-good (λ N. N.expiry)) four storm 6 2 21 11 refl

pub block-21 : Lasting four end (λ t. Good four end) 6 21
block-21 = record { block = met.block; merge_beat = met.a; propose_beat = met.b; first = λ o. met.c; every = met.d }

-- block 21 stays
pub storm-stays : Stays 6 21 end
unfolding AsynchronyResilience
storm-stays = asynchrony-resilient four met.opened end met.run met.unforged met.one_block (enough-for-honest met.enough) 6 21 block-21

-- so the block that node 2 builds on alone, in the second fault, is above it
pub base-6 : AtOrAbove end.log 21 31
base-6 = storm-stays.1.1 18 2 61 31 (only-in 2 end.log (built 18 2 61 31) (rw happened.blocks (Memᴰ.tail (Memᴰ.head refl)))) (omega arith)

-- block 81 lasts, too; so of every six slots from slot 2 on one has an honest block that lasts
pub block-81 : Lasting four end (λ t. Good four end) 24 81
unfolding check_test storm
block-81 =
    let M = checked merged proposed first (every-good (λ N. N.expiry)) four storm 24 0 81 61 refl in
    record { block = M.block; merge_beat = M.a; propose_beat = M.b; first = λ o. M.c; every = M.d }

lasts : (beat B : ℕ) → Lasting four end (λ t. Good four end) beat B → Lasting four end (GoodSince four end) beat B
lasts beat B = lasting-by four end (λ t. Good four end) (GoodSince four end) beat B (good-since four end (beat / 3))

pub blocks : BlockEvery four end (Lasting four end (GoodSince four end)) 2
unfolding check_test storm
blocks = one-of-true (λ q. eqb q 2 || eqb q 8) _ (λ q h. ⊎_elim (two q) (eight q) (either (eqb q 2) _ h)) 6 2 end (omega arith) refl
  where
    two : (q : ℕ) → eqb q 2 ≡ true → (beat B : ℕ) × (beat / 3 ≡ q) × Lasting four end (GoodSince four end) beat B
    two q e = (6, 21, sym (eqb-true q 2 e), lasts 6 21 block-21)

    eight : (q : ℕ) → eqb q 8 ≡ true → (beat B : ℕ) × (beat / 3 ≡ q) × Lasting four end (GoodSince four end) beat B
    eight q e = (24, 81, sym (eqb-true q 8 e), lasts 24 81 block-81)

-- right after their votes in slot 8 nodes 0 and 3 have the same deep block
pub deep-0 : DeepAfterVote four end 0 8 21
unfolding deep_test check_test storm
deep-0 = deep-true four storm refl 0 8 21 refl

pub same-deep : (d : ℕ) → DeepAfterVote four end 3 8 d → 21 ≡ d
unfolding AsynchronyAgreement
same-deep d H =
    (asynchrony-agreement four met.opened end met.unforged met.one_block (enough-for-honest met.enough) 2).1.0 blocks 8 0 3 21 d (omega arith)
    (while-joined four end 0 8 21 deep-0) (while-joined four end 3 8 d H)

-- ---- the smaller count

-- In slot 5 node 0 sleeps, which voted in slots 3 and 4. So demand 3's count fails there, two against two. But node 0 voted in slot 2.
unfoldable asleep : List Act
asleep =
    begin ∷ packet (proposal_with 5 52 (block_with 12 0 1 ∷ block_with 52 12 5 ∷ [])) 3
    ∷ begin ∷ awake 2 ∷ awake 3 ∷ gossip 2 0 ∷ gossip 2 3 ∷ gossip 3 0 ∷ gossip 3 2
    ∷ begin ∷ awake 0 ∷ awake 2 ∷ awake 3
    ∷ []

unfoldable pub drowsy : List Act
unfolding fault asleep again
drowsy = fault ++ (asleep ++ again)

abbrev dawn : World
dawn = runs four (start four) (together drowsy)

pub two-against-two : (count_voters four dawn 5 ≡ 2) × (count_opposed four dawn 5 ≡ 2)
unfolding check_test drowsy
two-against-two = (refl, refl)

pub drowsy-stays : Stays 6 21 dawn
unfolding AsynchronyResilienceSince check_test drowsy
drowsy-stays =
    let M = checked merged proposed first every-good-since four drowsy 6 2 21 11 refl in
    asynchrony-resilient-since four M.opened dawn M.run M.unforged M.one_block (enough-for-honest M.enough) 6 21
    (record { block = M.block; merge_beat = M.a; propose_beat = M.b; first = λ o. good-since four dawn 2 2 (omega arith) M.c; every = M.d })
