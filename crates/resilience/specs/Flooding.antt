-- Demand 3 and requests 7 and 11 under a flood. Of the refusals for want, by 10, 18 or 24, only two kinds count: of an honest node's own call, and of a packet
-- that an honest node sent. So a dishonest packet that is too long for a rack, or for which there are no places, ends no guarantee. Each claim is the
-- customer's with this premise, which asks less, in place of the literal one. Assumes nothing.
use Rattle.resilience.specs.Run.{Network, World, Run}
use Rattle.resilience.specs.Resilience.{Opened, EnoughForHonest, BlockStays}
use Rattle.resilience.specs.DeepAgreement.{Agree, DeepAfterVote}
use Rattle.resilience.specs.FastHolds.{Hold, FoundAfterMerge}

-- demand 3
unfoldable pub FloodResilience : Type 0
FloodResilience = (N : Network) → Opened N → (w : World) → Run N w → BlockStays EnoughForHonest N w

-- request 7
unfoldable pub FloodAgreement : Type 0
FloodAgreement = (N : Network) → Opened N → (w : World) → Agree EnoughForHonest N w (DeepAfterVote N w)

-- request 11
unfoldable pub FloodFastHolds : Type 0
FloodFastHolds = (N : Network) → Opened N → (w : World) → Hold EnoughForHonest N w (FoundAfterMerge N w)
