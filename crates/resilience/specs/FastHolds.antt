-- Request 11, "Fast confirmation must hold": a fast block that an honest node finds stays. Each part quotes the customer's words that it stands for.
-- Assumes nothing.
use Rattle.std.specs.Prelude.{◌≡◌, ℕ, suc, ◌+◌, ◌*◌, ◌≤◌, ◌<◌, ◌⊎◌, not, T}
use mathlib.Core.List.{List, Memᴰ}
use Rattle.protocol.specs.Filters.{chosen}
use Rattle.protocol.specs.Walk.{count_below}
use Rattle.protocol.specs.Refusal.{done}
use Rattle.protocol.specs.Calls.Merge.{merge}
use Rattle.protocol.specs.Calls.Query.{fast_of, fast_query}
use Rattle.resilience.specs.Run.{Network, World, Run, Onward, CarriedOut, Event, woke, is_honest, settings}
use Rattle.resilience.specs.Resilience.{Opened, OneBlock, AtOrAbove, Unforged, Enough, EnoughForHonest, Delivered, Majority, StaysAfter}

-- ---- the claim

-- "the dishonest nodes"
unfoldable pub dishonest : Network → ℕ
dishonest N = count_below (λ i. not (N.honest i)) N.nodes

-- `Found i t F`: before the run stood in w, node i found the fast block F for slot t, at such a point as the claims below say.
abbrev pub FoundStays : World → (ℕ → ℕ → ℕ → Type 0) → ℕ → Type 0
FoundStays w Found t =
    -- "then a fast block .. is at or below every honest vote and every honest base from slot t + 1 on", those from before it was found, too
    (i F : ℕ) → Found i t F →
    StaysAfter t F w
    -- and it is on one chain with every fast block of this slot or a later one: two foremen never cut on different branches
    × ((s j G : ℕ) → t ≤ s → Found j s G → AtOrAbove w.log F G ⊎ AtOrAbove w.log G F)

-- `Ample` is the premise on places, buffers and lengths.
abbrev pub Hold : (List Event → Type 0) → Network → World → (ℕ → ℕ → ℕ → Type 0) → Type 0
Hold Ample N w Found =
    -- "When 4 × the dishonest nodes is below n"
    4 * dishonest N < N.nodes →
    -- "and packets sent from the vote beat of slot t on arrive as in the third demand"
    (t : ℕ) → Delivered (3 * t + 1) w.log →
    -- "with its premises on forging, numbers and places"
    Unforged N w.log → OneBlock w.log → Ample w.log →
    -- "and its count of voters holds from slot t + 1 on"
    Majority N (suc t) w →
    FoundStays w Found t

-- "that an honest joined node finds for t between its Merge of t and its next beat": its Merge of t was carried out, by which it is joined for t + 1. The
-- run went on, and in this world it has not been awake again. There its Fast for t answers F; and the run went on from there and stands in w.
pub record FoundAfterMerge (N : Network) (w : World) (i t F : ℕ) : Type 0 where
  pub merged : World
  pub just_merged : CarriedOut N merge i (3 * t + 2) merged
  pub world : World
  pub since : Onward N merged world
  pub asleep : (b : ℕ) → Memᴰ (woke b i) world.log → b ≤ 3 * t + 2
  pub fast : fast_query (settings N i) (N.places i) (world.node i) t ≡ done (chosen F)
  pub onward : Onward N world w

unfoldable pub FastHolds : Type 0
FastHolds = (N : Network) → Opened N → (w : World) → Hold Enough N w (FoundAfterMerge N w)

-- ---- wider

-- An honest node, joined or not, has the fast block F for t at any point of the run; also where it has merged a later slot and 17 would refuse.
pub record HasFast (N : Network) (w : World) (i t F : ℕ) : Type 0 where
  pub world : World
  pub run : Run N world
  pub honest : T (is_honest N i)
  pub fast : fast_of (settings N i) (world.node i) t ≡ chosen F
  pub onward : Onward N world w

unfoldable pub FastHoldsAlways : Type 0
FastHoldsAlways = (N : Network) → Opened N → (w : World) → Hold EnoughForHonest N w (HasFast N w)
