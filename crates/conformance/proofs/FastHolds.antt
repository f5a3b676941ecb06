-- A fast block stays, said of what the code answers. Assumes nothing.
use Prim.Native.Nat.{ℕ}
use mathlib.Core.Path.{ap, sym, ◌∙◌}
use Rattle.protocol.specs.Filters.{chosen}
use Rattle.protocol.specs.Refusal.{first, done}
use Rattle.protocol.specs.Calls.Query.{query_tests, fast_query}
use Rattle.protocol.proofs.Calls.Refusal.{answer-done}
use Rattle.resilience.specs.Run.{settings}
use Rattle.resilience.specs.FastHolds.{HasFast, FastHoldsAlways}
use Rattle.resilience.specs.Asynchrony.{AsynchronyFastHolds}
use Rattle.resilience.proofs.Steps.Allowed.{is_true}
use Rattle.resilience.proofs.Runs.Premises.{enough-for-honest}
use Rattle.resilience.proofs.FastHolds.{asynchrony-fast-holds, fast-holds-always, stays_by}
use Rattle.conformance.specs.State.{Deployment, State, network, decoded}
use Rattle.conformance.specs.CodeFastHolds.{CodeHasFast, CodeFastHolds}
use Rattle.conformance.specs.CodeFlooding.{CodeFloodFastHolds}
use Rattle.conformance.specs.CodeAsynchrony.{CodeAsynchronyFastHolds}
use Rattle.conformance.proofs.Conforms.{conforming, going}
use Rattle.conformance.proofs.Questions.{asked}

decoded-fast : (D : Deployment) (w : State) (i t F : ℕ) → CodeHasFast D w i t F → HasFast (network D) (decoded D w) i t F
unfolding fast_query
decoded-fast D w i t F H =
    let u = H.state in
    let C = conforming D u H.run in
    let s = settings (network D) i in
    record {
      world = decoded D u;
      run = C.run;
      honest = H.honest;
      fast = (answer-done (first (query_tests s ((network D).places i) ((decoded D u).node i) t)) _ _
          (sym (asked D u C.healthy i (is_true _ H.honest) (λ p x. fast_query s p x t)) ∙ sym H.fast ∙ ap (λ (x : ℕ). done (chosen x)) (sym H.block))).1;
      onward = (going D u w C.healthy H.onward).onward;
    }

pub code-flood-fast-holds : CodeFloodFastHolds
unfolding CodeFloodFastHolds FastHoldsAlways
code-flood-fast-holds D w few t del unforged one_block enough maj =
    stays_by (decoded D w) (CodeHasFast D w) (HasFast (network D) (decoded D w)) (decoded-fast D w) t
    (λ i F H. fast-holds-always (network D) (conforming D H.state H.run).opened (decoded D w) few t del unforged one_block enough maj)

pub code-fast-holds : CodeFastHolds
unfolding CodeFastHolds CodeFloodFastHolds
code-fast-holds D w few t del unforged one_block enough = code-flood-fast-holds D w few t del unforged one_block (enough-for-honest enough)

pub code-asynchrony-fast-holds : CodeAsynchronyFastHolds
unfolding CodeAsynchronyFastHolds AsynchronyFastHolds
code-asynchrony-fast-holds D w few t arrive unforged one_block enough every =
    stays_by (decoded D w) (CodeHasFast D w) (HasFast (network D) (decoded D w)) (decoded-fast D w) t
    (λ i F H. asynchrony-fast-holds (network D) (conforming D H.state H.run).opened (decoded D w) few t arrive unforged one_block enough every)
