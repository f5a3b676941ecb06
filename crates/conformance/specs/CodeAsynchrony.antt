-- Asynchrony resilience of the code: the claims of resilience/specs/Asynchrony, on the log of what the code answered. Assumes nothing.
use Rattle.resilience.specs.Asynchrony.{Good, GoodSince, LastingStays, AgreeByLasting, HoldByGood}
use Rattle.conformance.specs.State.{Deployment, State, network, decoded}
use Rattle.conformance.specs.CodeRun.{CodeRun}
use Rattle.conformance.specs.CodeDeepAgreement.{CodeDeepAfterVote}
use Rattle.conformance.specs.CodeFastHolds.{CodeHasFast}

-- an honest block stays
unfoldable pub CodeAsynchronyResilience : Type 0
CodeAsynchronyResilience = (D : Deployment) (w : State) → CodeRun D w → LastingStays (network D) (decoded D w) (λ t. Good (network D) (decoded D w))

-- with the smaller count
unfoldable pub CodeAsynchronyResilienceSince : Type 0
CodeAsynchronyResilienceSince = (D : Deployment) (w : State) → CodeRun D w → LastingStays (network D) (decoded D w) (GoodSince (network D) (decoded D w))

-- what Deep answers right after votes agrees
unfoldable pub CodeAsynchronyAgreement : Type 0
CodeAsynchronyAgreement = (D : Deployment) (w : State) → AgreeByLasting (network D) (decoded D w) (CodeDeepAfterVote D w)

-- a block that Fast answers stays
unfoldable pub CodeAsynchronyFastHolds : Type 0
CodeAsynchronyFastHolds = (D : Deployment) (w : State) → HoldByGood (network D) (decoded D w) (CodeHasFast D w)
