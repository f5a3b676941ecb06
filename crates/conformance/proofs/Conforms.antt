-- Every run of the code is a run of `resilience`, and so reorg resilience, under a flood too, and asynchrony resilience hold of what the code answers. Assumes nothing.
use Prim.Native.Nat.{ℕ}
use mathlib.Core.Path.{◌≡◌, refl, sym, subst}
use mathlib.Core.Bool.{Bool, true, false, cond}
use mathlib.Core.List.{[]}
use lib.Dec.{T}
use Rattle.std.specs.Prelude.{Ok}
use Rattle.protocol.specs.Lent.{Lent, node_of}
use Rattle.answers.specs.Promises.{Opens}
use Rattle.resilience.specs.Run as model
use Rattle.resilience.specs.Run.{World, Run, Onward, settings, is_honest}
use Rattle.resilience.specs.Resilience.{Opened}
use Rattle.resilience.specs.Flooding.{FloodResilience}
use Rattle.resilience.specs.Asynchrony.{AsynchronyResilience, AsynchronyResilienceSince}
use Rattle.resilience.proofs.Steps.Allowed.{is_true, truth}
use Rattle.resilience.proofs.Asynchrony.{asynchrony-resilient, asynchrony-resilient-since}
use Rattle.resilience.proofs.Runs.Premises.{enough-for-honest}
use Rattle.resilience.proofs.Resilient.{flood-resilient}
use Rattle.conformance.specs.State.{Deployment, State, network, decoded}
use Rattle.conformance.specs.CodeRun.{CodeRun, opened, then_step, CodeOnward, no_step, next}
use Rattle.conformance.specs.Conformance.{Conformance, CodeResilience}
use Rattle.conformance.specs.CodeFlooding.{CodeFloodResilience}
use Rattle.conformance.specs.CodeAsynchrony.{CodeAsynchronyResilience, CodeAsynchronyResilienceSince}
use Rattle.conformance.proofs.Memory.{opened-done, opened-node, opened-healthy}
use Rattle.conformance.proofs.Steps.{AllHealthy, follows}

-- what holds at every point of a run of the code
pub record Conforming (D : Deployment) (w : State) : Type 0 where
  pub opened : Opened (network D)
  pub run : Run (network D) (decoded D w)
  pub healthy : AllHealthy D w

-- ---- the start

module _ (D : Deployment) (memory : ℕ → Lent)
    (O : (i : ℕ) → T (is_honest (network D) i) → Opens (settings (network D) i) (D.lent i) (memory i) (Ok tt)) where
  -- an honest node is as Open leaves it
  starts : (i : ℕ) (b : Bool) → is_honest (network D) i ≡ b
      → cond b (node_of (memory i)) ((model.start (network D)).node i) ≡ (model.start (network D)).node i
  starts i true h = opened-node (settings (network D) i) (D.lent i) (memory i) (O i (truth h))
  starts i false h = refl

  pub start-world : model.start (network D) ≡ decoded D (record { beat = 2; memory = memory; turn = λ i. model.ahead; log = [] })
  start-world = λ k. record { beat = 2; node = λ i. sym (starts i (is_honest (network D) i) refl) k; turn = λ i. model.ahead; log = [] }

  starting : Conforming D (record { beat = 2; memory = memory; turn = λ i. model.ahead; log = [] })
  unfolding Opened
  starting = record {
    opened = λ i h. opened-done (settings (network D) i) (D.lent i) (memory i) (O i h);
    run = subst (λ (o : World). Run (network D) o) start-world model.opened;
    healthy = λ i h. opened-healthy (settings (network D) i) (D.lent i) (memory i) (O i (truth h));
  }

-- ---- the steps

pub conforming : (D : Deployment) (w : State) → CodeRun D w → Conforming D w
conforming D w (opened memory O) = starting D memory O
conforming D w (then_step {w = v} R s a c) = next (conforming D v R)
  where
    next : Conforming D v → Conforming D w
    next C =
        let F = follows D v C.healthy s w (is_true _ a) c in
        record {
          opened = C.opened;
          run = subst (λ (o : World). Run (network D) o) F.world (model.then_step C.run s a);
          healthy = F.healthy;
        }

-- a run of the code goes on as a run of `resilience` does
pub record Going (D : Deployment) (u w : State) : Type 0 where
  pub onward : Onward (network D) (decoded D u) (decoded D w)
  pub healthy : AllHealthy D w

pub going : (D : Deployment) (u w : State) → AllHealthy D u → CodeOnward D u w → Going D u w
going D u w H no_step = record { onward = model.no_step; healthy = H }
going D u w H (next {w = v} O s a c) = more (going D u v H O)
  where
    more : Going D u v → Going D u w
    more G =
        let F = follows D v G.healthy s w (is_true _ a) c in
        record { onward = subst (λ (o : World). Onward (network D) (decoded D u) o) F.world (model.next G.onward s a); healthy = F.healthy }

pub conforms : Conformance
unfolding Conformance
conforms D w R = let C = conforming D w R in (C.opened, C.run)

pub code-flood-resilient : CodeFloodResilience
unfolding CodeFloodResilience FloodResilience
code-flood-resilient D w R = let C = conforming D w R in flood-resilient (network D) C.opened (decoded D w) C.run

pub code-resilient : CodeResilience
unfolding CodeResilience CodeFloodResilience
code-resilient D w R beat p B parent m del unforged one_block enough =
    code-flood-resilient D w R beat p B parent m del unforged one_block (enough-for-honest enough)

pub code-asynchrony-resilient : CodeAsynchronyResilience
unfolding CodeAsynchronyResilience AsynchronyResilience
code-asynchrony-resilient D w R = let C = conforming D w R in asynchrony-resilient (network D) C.opened (decoded D w) C.run

pub code-asynchrony-resilient-since : CodeAsynchronyResilienceSince
unfolding CodeAsynchronyResilienceSince AsynchronyResilienceSince
code-asynchrony-resilient-since D w R = let C = conforming D w R in asynchrony-resilient-since (network D) C.opened (decoded D w) C.run
