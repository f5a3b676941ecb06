-- Demand 3 and requests 7 and 11 of the code under a flood: the claims of resilience/specs/Flooding, on the log of what the code answered. Assumes nothing.
use Rattle.resilience.specs.Resilience.{EnoughForHonest, BlockStays}
use Rattle.resilience.specs.DeepAgreement.{Agree}
use Rattle.resilience.specs.FastHolds.{Hold}
use Rattle.conformance.specs.State.{Deployment, State, network, decoded}
use Rattle.conformance.specs.CodeRun.{CodeRun}
use Rattle.conformance.specs.CodeDeepAgreement.{CodeDeepAfterVote}
use Rattle.conformance.specs.CodeFastHolds.{CodeHasFast}

-- an honest block stays
unfoldable pub CodeFloodResilience : Type 0
CodeFloodResilience = (D : Deployment) (w : State) → CodeRun D w → BlockStays EnoughForHonest (network D) (decoded D w)

-- what Deep answers right after votes agrees
unfoldable pub CodeFloodAgreement : Type 0
CodeFloodAgreement = (D : Deployment) (w : State) → Agree EnoughForHonest (network D) (decoded D w) (CodeDeepAfterVote D w)

-- a block that Fast answers stays
unfoldable pub CodeFloodFastHolds : Type 0
CodeFloodFastHolds = (D : Deployment) (w : State) → Hold EnoughForHonest (network D) (decoded D w) (CodeHasFast D w)
