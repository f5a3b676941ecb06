-- Asynchrony resilience: an honest block stays although whole slots go by in which packets are lost and any number of nodes sleep, as long as of any E
-- consecutive slots one is good. Demand 3 is the case in which every slot is good. Assumes nothing.
use Rattle.std.specs.Prelude.{ℕ, suc, ◌+◌, ◌*◌, ◌-◌, ◌/◌, ◌<◌, Bool, ◌&&◌, ◌||◌, not, List}
use Rattle.protocol.specs.Walk.{count_below}
use Rattle.resilience.specs.Run.{Network, World, Run, Event}
use Rattle.resilience.specs.Resilience.{Opened, Unforged, OneBlock, EnoughForHonest, DeliveredAt, votes_in, votes_before, voters, MoreVote, Stays}
use Rattle.resilience.specs.DeepAgreement.{OneOfEvery, HonestBlock, Agreed, DeepWhileJoined}
use Rattle.resilience.specs.FastHolds.{dishonest, FoundStays, HasFast}

-- Document 000, Theorem 11: "RLMD-GHOST is (η, η-1)-asynchrony-resilient", where η is E. Its terms, and ours:
-- Definition 2: "an interval (t1, t2) of consecutive slots after GST is a temporary period of asynchrony .. if synchrony does not hold in (t1, t2). If
-- t2 - t1 ≤ π, we also refer to it as π-tpa." There is one, of at most E - 2 slots. Ours lies between two good slots and has at most E - 1, and there may
-- be any number: for E = 2 a slot may be lost, where Theorem 11 says nothing.
-- Definition 3: "τ-sleepiness at slot t holds for t ∉ (t1, t2]", which is demand 3's count in slot t - 1; "|H_t1 \ A_t| > |A_t ∪ (H_{t-τ,t-1} \ H_t1)| for
-- t ∈ (t1, t2 + 1]"; "H_t1 are awake at round 3Δt1 + 2Δ". Ours asks for demand 3's count in good slots alone. Honest nodes that vote in the period and not in
-- t1 are not counted against the voters of t1, and these need not be awake at the merge beat of t1.
-- Definition 7: "any honest proposal from a slot t ≤ t1 .. is always in the canonical chain of all aware validators at rounds ≥ 3Δt + Δ"; in the period only
-- voters of t1 are aware. Ours is said of every honest vote and base.
-- For this it asks more of delivery: what honest nodes sent at the vote beat of a good slot reaches a node that slept before it wakes, be it in the period.

-- ---- good slots

-- Slot g is good: what honest nodes sent at its vote beat arrives, as in demand 3, and demand 3's count of voters holds in it. Nothing is asked of the
-- packets of its propose and merge beats.
pub record Good (N : Network) (w : World) (g : ℕ) : Type 0 where
  pub arrive : DeliveredAt (3 * g + 1) w.log
  pub more : MoreVote N g w.log

-- ---- the claim

-- B is the block of an honest joined proposer, proposed at this beat, in slot t. `GoodFor t g`: slot g is good for a block of slot t, as the claims below say.
pub record Lasting (N : Network) (w : World) (GoodFor : ℕ → ℕ → Type 0) (beat B : ℕ) : Type 0 where
  pub block : HonestBlock w beat B
  -- packets of the merge beat of slot t - 1 and of the propose beat of slot t arrive
  pub merge_beat : DeliveredAt (beat - 1) w.log
  pub propose_beat : DeliveredAt beat w.log
  -- slot t is good, once its vote beat is over
  pub first : 3 * (beat / 3) + 1 < w.beat → GoodFor (beat / 3) (beat / 3)
  -- and so is one of any E consecutive slots from t on whose vote beats are over: a fault may last E - 1 slots, and there may be any number of faults
  pub every : OneOfEvery N.expiry (GoodFor (beat / 3)) (beat / 3) w

-- Nobody forges and a number names one block, as in demand 3, and neither a call of an honest node nor a packet that an honest node sent is refused for want.
-- Then such a block stays, as in demand 3.
abbrev pub LastingStays : Network → World → (ℕ → ℕ → Type 0) → Type 0
LastingStays N w GoodFor =
    Unforged N w.log → OneBlock w.log → EnoughForHonest w.log →
    (beat B : ℕ) → Lasting N w GoodFor beat B → Stays beat B w

unfoldable pub AsynchronyResilience : Type 0
AsynchronyResilience = (N : Network) → Opened N → (w : World) → Run N w → LastingStays N w (λ t. Good N w)

-- ---- wider: a smaller count

-- Of the nodes below n, those against whom the voters of slot g are counted when a block of slot t is to last: dishonest ones, and honest ones who voted in
-- any of the E - 1 slots before g, but before t, and neither in t nor in g. In slot t itself they are those of demand 3, and in a later slot no more. If every
-- honest node votes in slot t, they are the dishonest ones alone.
abbrev pub opposed_since : Network → List Event → ℕ → ℕ → ℕ → Bool
opposed_since N log t g i = not (N.honest i) || (votes_before (N.expiry - 1 - (g - t)) log t i && not (votes_in log t i || votes_in log g i))

abbrev pub MoreVoteSince : Network → ℕ → ℕ → List Event → Type 0
MoreVoteSince N t g log = count_below (opposed_since N log t g) N.nodes < count_below (voters N log g) N.nodes

pub record GoodSince (N : Network) (w : World) (t g : ℕ) : Type 0 where
  pub arrive : DeliveredAt (3 * g + 1) w.log
  pub more : MoreVoteSince N t g w.log

unfoldable pub AsynchronyResilienceSince : Type 0
AsynchronyResilienceSince = (N : Network) → Opened N → (w : World) → Run N w → LastingStays N w (GoodSince N w)

-- ---- requests 7 and 11 in the same form

-- Deep blocks agree, if of every K consecutive slots one has an honest block that lasts in this sense. Nothing is asked of the other slots.
abbrev pub AgreeByLasting : Network → World → (ℕ → ℕ → ℕ → Type 0) → Type 0
AgreeByLasting N w Had =
    Unforged N w.log → OneBlock w.log → EnoughForHonest w.log →
    (s : ℕ) → Agreed N w Had (Lasting N w (GoodSince N w)) s

unfoldable pub AsynchronyAgreement : Type 0
AsynchronyAgreement = (N : Network) → Opened N → (w : World) → AgreeByLasting N w (DeepWhileJoined N w)

-- A fast block of slot t stays, if the packets of the vote beat of t arrive and of any E consecutive later slots one is good.
abbrev pub HoldByGood : Network → World → (ℕ → ℕ → ℕ → Type 0) → Type 0
HoldByGood N w Found =
    4 * dishonest N < N.nodes →
    (t : ℕ) → DeliveredAt (3 * t + 1) w.log → Unforged N w.log → OneBlock w.log → EnoughForHonest w.log →
    OneOfEvery N.expiry (Good N w) (suc t) w →
    FoundStays w Found t

unfoldable pub AsynchronyFastHolds : Type 0
AsynchronyFastHolds = (N : Network) → Opened N → (w : World) → HoldByGood N w (HasFast N w)
