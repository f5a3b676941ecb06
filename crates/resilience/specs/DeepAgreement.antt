-- Request 7, "Two corrections in force must agree": the deep blocks that honest nodes have right after their votes stand on one chain. Each part
-- quotes the customer's words that it stands for. Assumes nothing.
use Rattle.std.specs.Prelude.{◌≡◌, ℕ, ◌+◌, ◌*◌, ◌/◌, ◌≤◌, ◌<◌, T}
use mathlib.Core.List.{List, Memᴰ}
use Rattle.protocol.specs.Refusal.{done}
use Rattle.protocol.specs.Calls.Vote.{vote}
use Rattle.protocol.specs.Calls.Query.{deep_of, deep_query}
use Rattle.resilience.specs.Run.{Network, World, Run, Onward, CarriedOut, Event, built, is_honest, settings}
use Rattle.resilience.specs.Resilience.{Opened, OneBlock, Unforged, Enough, EnoughForHonest, DeliveredAt, MoreVote, AtOrAbove}

-- ---- "let every slot from a slot s on whose vote beat is over meet the conditions that let an honest block last"

-- What the third demand asks of slot q: the packets that honest nodes sent at the merge beat before it, at its propose beat and at its vote beat
-- arrive, and its count of voters holds.
pub record Conditions (N : Network) (q : ℕ) (w : World) : Type 0 where
  pub arrive : (b : ℕ) → 3 * q ≤ b + 1 → b ≤ 3 * q + 1 → DeliveredAt b w.log
  pub more : MoreVote N q w.log

unfoldable pub ConditionsFrom : Network → ℕ → World → Type 0
ConditionsFrom N s w = (q : ℕ) → s ≤ q → 3 * q + 1 < w.beat → Conditions N q w

-- ---- "let every K consecutive ones of these slots hold at least one honest joined proposer who makes a block"

-- of any k consecutive slots from s on whose vote beats are over `Slot` holds of one
unfoldable pub OneOfEvery : ℕ → (ℕ → Type 0) → ℕ → World → Type 0
OneOfEvery k Slot s w =
    (r : ℕ) → s ≤ r → ((q : ℕ) → r ≤ q → q < r + k → 3 * q + 1 < w.beat) →
    (q : ℕ) × (r ≤ q) × (q < r + k) × Slot q

-- B is the block of an honest joined proposer: a Propose that was carried out at this beat
pub record HonestBlock (w : World) (beat B : ℕ) : Type 0 where
  pub proposer : ℕ
  pub parent : ℕ
  pub proposed : Memᴰ (built beat proposer B parent) w.log

-- `Block beat B`: B was proposed at this beat, and is such a block as the claims below say.
abbrev pub BlockEvery : Network → World → (ℕ → ℕ → Type 0) → ℕ → Type 0
BlockEvery N w Block s = OneOfEvery N.depth (λ q. (beat B : ℕ) × (beat / 3 ≡ q) × Block beat B) s w

-- ---- the claim

-- `Had i a d`: before the run stood in w, node i had the deep block d for slot a, at such a point as the claims below say.
abbrev pub Agreed : Network → World → (ℕ → ℕ → ℕ → Type 0) → (ℕ → ℕ → Type 0) → ℕ → Type 0
Agreed N w Had Block s =
    -- "and let every K consecutive ones of these slots hold at least one honest joined proposer who makes a block. Then the deep block ..
    -- with a at least s + K, is the same as or below the one that any honest joined node has .. for b from a on"
    (BlockEvery N w Block s → (a b i j d e : ℕ) → s + N.depth ≤ a → a ≤ b → Had i a d → Had j b e → AtOrAbove w.log d e)
    -- so in one slot all have the same
    × ((BlockEvery N w Block s → (a i j d e : ℕ) → s + N.depth ≤ a → Had i a d → Had j a e → d ≡ e)
    -- "An honest block of slot p, from s on, is at or below the deep block after every honest vote from slot p + K on"; this does not ask for
    -- a block in every K slots
    × ((beat B b j e : ℕ) → Block beat B → s ≤ beat / 3 → beat / 3 + N.depth ≤ b → Had j b e → AtOrAbove w.log B e))

-- `Ample` is the premise on places, buffers and lengths.
abbrev pub Agree : (List Event → Type 0) → Network → World → (ℕ → ℕ → ℕ → Type 0) → Type 0
Agree Ample N w Had =
    -- "let every slot from a slot s on whose vote beat is over meet the conditions that let an honest block last"
    (s : ℕ) → ConditionsFrom N s w → Unforged N w.log → OneBlock w.log → Ample w.log →
    Agreed N w Had (HonestBlock w) s

-- "right after its vote in slot a"
abbrev pub JustVoted : Network → ℕ → ℕ → World → Type 0
JustVoted N i a u = CarriedOut N vote i (3 * a + 1) u

-- "the deep block that an honest joined node has right after its vote in slot a": what its Deep for a answers there; and the run went on from there
-- and stands in w
pub record DeepAfterVote (N : Network) (w : World) (i a d : ℕ) : Type 0 where
  pub world : World
  pub just_voted : JustVoted N i a world
  pub deep : deep_query (settings N i) (N.places i) (world.node i) a ≡ done d
  pub onward : Onward N world w

-- "At whatever point a run stands": in w
unfoldable pub DeepAgreement : Type 0
DeepAgreement = (N : Network) → Opened N → (w : World) → Agree Enough N w (DeepAfterVote N w)

-- It has one there: Deep for a is answered.
unfoldable pub DeepAnswered : Type 0
DeepAnswered =
    (N : Network) (i a : ℕ) (u : World) → JustVoted N i a u →
    deep_query (settings N i) (N.places i) (u.node i) a ≡ done (deep_of (settings N i) (u.node i) a)

-- ---- wider

-- The deep block for a of an honest node that is joined for slot a, before its vote or after it and whether it votes or not, or that has
-- merged slot a: the slot that it merged last is a - 1 or a.
pub record DeepWhileJoined (N : Network) (w : World) (i a d : ℕ) : Type 0 where
  pub world : World
  pub run : Run N world
  pub honest : T (is_honest N i)
  pub since : a ≤ (world.node i).clock.merged + 1
  pub until : (world.node i).clock.merged ≤ a
  pub deep : deep_of (settings N i) (world.node i) a ≡ d
  pub onward : Onward N world w

unfoldable pub JoinedAgreement : Type 0
JoinedAgreement = (N : Network) → Opened N → (w : World) → Agree EnoughForHonest N w (DeepWhileJoined N w)
