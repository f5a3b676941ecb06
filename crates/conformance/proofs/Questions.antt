-- A question to an honest node of the code is the question to its node of `resilience`. Assumes nothing.
use Prim.Native.Nat.{ℕ}
use mathlib.Core.Path.{◌≡◌, sym, ap, ◌∙◌}
use mathlib.Core.Bool.{true, cond}
use Rattle.protocol.specs.Store.{Places, Node}
use Rattle.protocol.specs.Refusal.{Answer}
use Rattle.protocol.specs.Lent.{node_of, ask_lent}
use Rattle.protocol.proofs.Lent.Calls.{ask-lent}
use Rattle.resilience.specs.Run as model
use Rattle.resilience.specs.Run.{Network, settings, is_honest}
use Rattle.conformance.specs.State.{Deployment, State, network, decoded}
use Rattle.conformance.proofs.Steps.{AllHealthy}

module _ (D : Deployment) (u : State) (H : AllHealthy D u) (i : ℕ) (h : is_honest (network D) i ≡ true) where
  abbrev N : Network
  N = network D

  pub holds : (decoded D u).node i ≡ node_of (u.memory i)
  holds = ap (λ b. cond b (node_of (u.memory i)) ((model.start N).node i)) h

  pub asked : {A : Type 0} (ask : Places → Node → Answer A) → ask_lent (settings N i) ask (u.memory i) ≡ ask (N.places i) ((decoded D u).node i)
  asked ask = ask-lent (settings N i) ask (u.memory i) (H i h).sound ∙ (λ k. ask ((H i h).places k) (sym holds k))
