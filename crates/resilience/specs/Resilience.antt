-- Reorg resilience, the whole of demand 3: an honest block stays, whichever nodes sleep.
-- Each part quotes the customer's words that it stands for. Assumes nothing.
use Rattle.std.specs.Prelude.{◌≡◌, ℕ, zero, suc, ◌+◌, ◌*◌, ◌-◌, ◌/◌, ◌%◌, ◌≤◌, ◌<◌, Bool, true, false, ◌&&◌, ◌||◌, not, eqb, ltb, T}
use mathlib.Core.List.{List, [], ◌∷◌, ◌++◌, Memᴰ}
use Rattle.protocol.specs.Entry.{Block, Vote}
use Rattle.protocol.specs.Lists.{Same}
use Rattle.protocol.specs.Walk.{count_below}
use Rattle.protocol.specs.Packet.{Packet, packet_of, is_proposal}
use Rattle.protocol.specs.Refusal.{done}
use Rattle.protocol.specs.Calls.Open.{open_node}
use Rattle.resilience.specs.Run.{Network, World, Run, Event, woke, voted, built, sent, given, lacked, turned_away, is_honest, settings}

-- "freshly opened honest nodes": the Open of each was carried out.
unfoldable pub Opened : Network → Type 0
Opened N = (i : ℕ) → T (is_honest N i) → (open_node (settings N i) (N.places i) (N.before i)).answer ≡ done tt

-- ---- blocks of the run

-- "accepted packets and honest proposers' blocks give it one parent and one slot"
pub data Gives (log : List Event) (b : Block) : Type 0 where
  by-packet : (beat i : ℕ) (bytes : List ℕ) → Memᴰ (given beat i bytes true) log → Memᴰ b (packet_of bytes).blocks → Gives log b
  by-proposer : (beat i : ℕ) → Memᴰ (built beat i b.number b.parent) log → b.slot ≡ beat / 3 → Gives log b

-- "that a number names one block"
unfoldable pub OneBlock : List Event → Type 0
OneBlock log = (b c : Block) → Gives log b → Gives log c → b.number ≡ c.number → b ≡ c

-- "B or stands above B": "these parents lead from it to that one"
pub data AtOrAbove (log : List Event) (b : ℕ) : ℕ → Type 0 where
  here : AtOrAbove log b b
  on_parent : (c : Block) → Gives log c → AtOrAbove log b c.parent → AtOrAbove log b c.number

-- ---- "that nobody forges an honest node's block, vote or proposal"

-- What an accepted packet holds of honest nodes they had made earlier: "a block by Propose, a vote by Vote, a proposal by sending
-- one of the same slot, number and entries". Of the entries only the members are compared, whatever their order: we ask less.
-- A proposal is one of kind 1 or 3: narrow and wide are not told apart.
pub record Genuine (N : Network) (earlier : List Event) (p : Packet) : Type 0 where
  pub blocks : (b : Block) → Memᴰ b p.blocks → T (is_honest N (b.slot % N.nodes)) →
      (beat : ℕ) × (beat / 3 ≡ b.slot) × Memᴰ (built beat (b.slot % N.nodes) b.number b.parent) earlier
  pub votes : (a : Vote) → Memᴰ a p.votes → T (is_honest N a.voter) →
      (beat : ℕ) × (beat / 3 ≡ a.slot) × Memᴰ (voted beat a.voter a.number) earlier
  pub proposal : is_proposal p.kind ≡ true → T (is_honest N (p.slot % N.nodes)) →
      (beat : ℕ) × (bytes : List ℕ) × Memᴰ (sent beat (p.slot % N.nodes) bytes) earlier
      × (is_proposal (packet_of bytes).kind ≡ true) × ((packet_of bytes).slot ≡ p.slot) × ((packet_of bytes).number ≡ p.number)
      × Same Block (packet_of bytes).blocks p.blocks × Same Vote (packet_of bytes).votes p.votes

unfoldable pub Unforged : Network → List Event → Type 0
Unforged N log =
    (newer older : List Event) (beat i : ℕ) (bytes : List ℕ) → log ≡ newer ++ (given beat i bytes true ∷ older) →
    Genuine N older (packet_of bytes)

-- ---- "that no honest node refuses for want of places or buffer"; since request 9 this "then includes a packet too long"

pub record Enough (log : List Event) : Type 0 where
  pub own : (beat i : ℕ) → Memᴰ (lacked beat i) log → ⊥
  pub packets : (beat j : ℕ) (bytes : List ℕ) → Memᴰ (turned_away beat j bytes) log → ⊥

-- Less, and still enough: of packets only those count that an honest node had sent before they were turned away. A refused Receive changes nothing, so a
-- packet of a dishonest node that is turned away does no harm.
pub record EnoughForHonest (log : List Event) : Type 0 where
  pub own : (beat i : ℕ) → Memᴰ (lacked beat i) log → ⊥
  pub packets : (newer older : List Event) (beat j : ℕ) (bytes : List ℕ) → log ≡ newer ++ (turned_away beat j bytes ∷ older) →
      (b i : ℕ) → Memᴰ (sent b i bytes) older → ⊥

-- ---- "that honest packets sent from the merge beat of slot t-1 on reach every other honest node before its next waking beat"

-- What i sent at beat b was given to j after that and at a beat before the one at which j is awake.
-- The beat may have begun: nothing is asked before j makes its call.
unfoldable pub DeliveredAt : ℕ → List Event → Type 0
DeliveredAt b log =
    (j beat : ℕ) (newer older : List Event) → log ≡ newer ++ (woke beat j ∷ older) →
    (i : ℕ) (bytes : List ℕ) (since before : List Event) → older ≡ since ++ (sent b i bytes ∷ before) →
    b < beat → (i ≡ j → ⊥) →
    (c : ℕ) × ((c < beat) × (ok : Bool) × Memᴰ (given c j bytes ok) since)

-- "from the merge beat of slot t-1 on"
unfoldable pub Delivered : ℕ → List Event → Type 0
Delivered from log = (b : ℕ) → from ≤ b → DeliveredAt b log

-- ---- "more honest nodes vote than the dishonest nodes together with the honest ones who voted in any of the E - 1 slots before it but not in it"

-- node i votes in this slot
unfoldable pub votes_in : List Event → ℕ → ℕ → Bool
votes_in [] slot i = false
votes_in (voted beat j x ∷ log) slot i = (eqb (beat / 3) slot && eqb i j) || votes_in log slot i
votes_in (given beat j bytes ok ∷ log) slot i = votes_in log slot i
votes_in (woke beat j ∷ log) slot i = votes_in log slot i
votes_in (built beat j x y ∷ log) slot i = votes_in log slot i
votes_in (sent beat j bytes ∷ log) slot i = votes_in log slot i
votes_in (lacked beat j ∷ log) slot i = votes_in log slot i
votes_in (turned_away beat j bytes ∷ log) slot i = votes_in log slot i

-- node i votes in any of the k slots before this one; "slots below 1 have no votes"
unfoldable pub votes_before : ℕ → List Event → ℕ → ℕ → Bool
votes_before zero log slot i = false
votes_before (suc k) log slot i = (ltb (suc k) slot && votes_in log (slot - suc k) i) || votes_before k log slot i

-- of the nodes below n: those who vote in slot r, and those against whom they are counted
abbrev pub voters : Network → List Event → ℕ → ℕ → Bool
voters N log r i = N.honest i && votes_in log r i

abbrev pub opposed : Network → List Event → ℕ → ℕ → Bool
opposed N log r i = not (N.honest i) || (votes_before (N.expiry - 1) log r i && not (votes_in log r i))

abbrev pub MoreVote : Network → ℕ → List Event → Type 0
MoreVote N r log = count_below (opposed N log r) N.nodes < count_below (voters N log r) N.nodes

-- "in each slot from t on whose vote beat is over": the next beat has begun
unfoldable pub Majority : Network → ℕ → World → Type 0
Majority N t w = (r : ℕ) → t ≤ r → 3 * r + 1 < w.beat → MoreVote N r w.log

-- ---- the claim

-- B stays in the slots after t
abbrev pub StaysAfter : ℕ → ℕ → World → Type 0
StaysAfter t B w =
    -- "in every later slot every honest vote"
    ((b i x : ℕ) → Memᴰ (voted b i x) w.log → t < b / 3 → AtOrAbove w.log B x)
    -- "and every block an honest proposer builds on is B or stands above B"
    × ((b i x y : ℕ) → Memᴰ (built b i x y) w.log → t < b / 3 → AtOrAbove w.log B y)

-- the block B, proposed at this beat, stays
abbrev pub Stays : ℕ → ℕ → World → Type 0
Stays beat B w =
    -- "every honest vote of slot t is for B"
    ((b i x : ℕ) → Memᴰ (voted b i x) w.log → b / 3 ≡ beat / 3 → x ≡ B)
    -- "and in every later slot .."
    × StaysAfter (beat / 3) B w

-- `Ample` is the premise on places, buffers and lengths.
abbrev pub BlockStays : (List Event → Type 0) → Network → World → Type 0
BlockStays Ample N w =
    -- "let B be the block of an honest joined proposer in slot t": a Propose that was carried out at beat 3 t, so p was joined
    (beat p B parent : ℕ) → Memᴰ (built beat p B parent) w.log →
    -- "Assume .."
    Delivered (beat - 1) w.log → Unforged N w.log → OneBlock w.log → Ample w.log → Majority N (beat / 3) w →
    -- "Then .."
    Stays beat B w

-- "For every run .. on freshly opened honest nodes .. whatever the dishonest nodes send, in any order, and at whatever point the run stands"
unfoldable pub Resilience : Type 0
Resilience = (N : Network) → Opened N → (w : World) → Run N w → BlockStays Enough N w
