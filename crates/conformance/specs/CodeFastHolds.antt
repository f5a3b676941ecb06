-- Request 11 of the code: what Fast answers on the memory of an honest node, by the promises of the calls alone. The claim is the one of
-- resilience/specs/FastHolds, on the log of what the code answered. Assumes nothing.
use Rattle.std.specs.Prelude.{ℕ, ◌≡◌, T, Some, Ok}
use Rattle.protocol.specs.declared.Number.{Number}
use Rattle.protocol.specs.Words.{value}
use Rattle.answers.specs.Promises.{IsFast}
use Rattle.resilience.specs.Run.{settings, is_honest}
use Rattle.resilience.specs.Resilience.{Enough}
use Rattle.resilience.specs.FastHolds.{Hold}
use Rattle.conformance.specs.State.{Deployment, State, network, decoded}
use Rattle.conformance.specs.CodeRun.{CodeRun, CodeOnward}

-- At any point of a run Fast for t answers the block F to an honest node: between its Merge of t and its next beat, or later, joined or not. The run went on
-- from there and stands in w.
pub record CodeHasFast (D : Deployment) (w : State) (i t F : ℕ) : Type 0 where
  pub state : State
  pub run : CodeRun D state
  pub honest : T (is_honest (network D) i)
  pub number : Number
  pub fast : IsFast (settings (network D) i) (state.memory i) t (Ok (Some number))
  pub block : F ≡ value number
  pub onward : CodeOnward D state w

unfoldable pub CodeFastHolds : Type 0
CodeFastHolds = (D : Deployment) (w : State) → Hold Enough (network D) (decoded D w) (CodeHasFast D w)
