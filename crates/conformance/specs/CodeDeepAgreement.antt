-- Request 7 of the code: what Deep answers on the memory right after a Vote of the code, by the promises of the calls alone. The claim is the one of
-- resilience/specs/DeepAgreement, on the log of what the code answered. Assumes nothing.
use Rattle.std.specs.Prelude.{◌≡◌, ℕ, ◌+◌, ◌*◌, true, false, [], ◌∷◌, T, Result, Ok}
use Rattle.protocol.specs.declared.Number.{Number}
use Rattle.protocol.specs.Words.{value}
use Rattle.protocol.specs.Lent.{Lent}
use Rattle.verdicts.specs.declared.Refusal.{Refusal}
use Rattle.answers.specs.Promises.{Votes, IsDeep}
use Rattle.resilience.specs.Run.{Due, woke, voted, owes, settings, allowed}
use Rattle.resilience.specs.Resilience.{Enough}
use Rattle.resilience.specs.DeepAgreement.{Agree}
use Rattle.conformance.specs.State.{Deployment, State, network, decoded}
use Rattle.conformance.specs.CodeRun.{CodeRun, CodeOnward, state_after}

-- "right after its vote in slot a": in a state of a run the Vote of node i was due, in slot a, and answered a block; this call left the state u
pub record CodeJustVoted (D : Deployment) (i a : ℕ) (u : State) : Type 0 where
  pub before : State
  pub run : CodeRun D before
  pub number : ℕ
  pub due : T (allowed (network D) (decoded D before) (Due i number))
  pub beat : before.beat ≡ 3 * a + 1
  pub block : Number
  pub memory : Lent
  pub vote : Votes (settings (network D) i) (before.memory i) before.beat memory (Ok block)
  pub left : u ≡ state_after before i memory (owes true false) (voted before.beat i (value block) ∷ woke before.beat i ∷ [])

-- what Deep for a answers there; and the run went on from there and stands in w
pub record CodeDeepAfterVote (D : Deployment) (w : State) (i a d : ℕ) : Type 0 where
  pub state : State
  pub just_voted : CodeJustVoted D i a state
  pub number : Number
  pub deep : IsDeep (settings (network D) i) (state.memory i) a (Ok number)
  pub block : d ≡ value number
  pub onward : CodeOnward D state w

unfoldable pub CodeDeepAgreement : Type 0
CodeDeepAgreement = (D : Deployment) (w : State) → Agree Enough (network D) (decoded D w) (CodeDeepAfterVote D w)

-- whatever Deep for a answers there, it is a block
unfoldable pub CodeDeepAnswered : Type 0
CodeDeepAnswered =
    (D : Deployment) (i a : ℕ) (u : State) → CodeJustVoted D i a u →
    (r : Result Number Refusal) → IsDeep (settings (network D) i) (u.memory i) a r → (d : Number) × (r ≡ Ok d)
