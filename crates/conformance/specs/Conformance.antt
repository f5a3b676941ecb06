-- The tie between the theorem and the code, and demand 3 said of runs of the code. Assumes nothing.
use Rattle.std.specs.Prelude.{◌≡◌}
use Rattle.resilience.specs.Run.{World, Run}
use Rattle.resilience.specs.Resilience.{Opened, Enough, BlockStays}
use Rattle.conformance.specs.State.{Deployment, State, network, decoded}
use Rattle.conformance.specs.CodeRun.{CodeRun}

-- Every run of the code is a run of `resilience`, of opened nodes. It stands in the decoded world, so its log is what the code answered.
unfoldable pub Conformance : Type 0
Conformance = (D : Deployment) (w : State) → CodeRun D w → Opened (network D) × Run (network D) (decoded D w)

-- And every run of `resilience` over lent memory is a run of the code: its calls have answers that meet the promises.
unfoldable pub Completeness : Type 0
Completeness =
    (D : Deployment) → Opened (network D) → (v : World) → Run (network D) v → (w : State) × CodeRun D w × (decoded D w ≡ v)

-- Demand 3 of runs of the code: with the premises of `resilience` on the log of what the code answered, a block that a Propose built stays.
unfoldable pub CodeResilience : Type 0
CodeResilience = (D : Deployment) (w : State) → CodeRun D w → BlockStays Enough (network D) (decoded D w)
