-- `queries::compared` meets its contract. Assumes nothing.
use Prim.Native.Nat.{ℕ}
use mathlib.Core.List.{List}
use mathlib.Core.Path.{◌≡◌, refl, ap, ◌∙◌}
use lib.ListN.{length, replicate, length-replicate}
use Rattle.search_tree.specs.Tree.{Blank}
use Rattle.queries.proofs.Asks.{first-leaves, second-leaves, compare-finds}
use Rattle.queries.proofs.compared.Goals as goal

-- links are free again, as many as they were
free-again : {n : ℕ} {links : List ℕ} → Blank links → length links ≡ n → links ≡ replicate n 0
free-again b e = b ∙ ap (λ (k : ℕ). replicate k 0) e

pub fresh_verdict-requires : goal.fresh_verdict-requires
fresh_verdict-requires c = (refl, refl)

pub returns-in_err-map_err : goal.returns-in_err-map_err
returns-in_err-map_err c =
    first-leaves _ _ _ _ _ c.fresh_verdict.ensures c.map_err.result c.map_err.ensures.cases c.in_err-map_err.was c.from_residual.result c.from_residual.ensures.1

pub fresh_verdict-requires-2 : goal.fresh_verdict-requires-2
fresh_verdict-requires-2 c = (
  free-again c.free_all.ensures (c.free_all.auto.links ∙ c.fresh_verdict.auto.vote_links ∙ length-replicate {A = ℕ} 24576 0),
  free-again c.free_all-2.ensures (c.free_all-2.auto.links ∙ c.fresh_verdict.auto.packet_links ∙ length-replicate {A = ℕ} 81919 0),
)

pub returns-in_err-map_err-2 : goal.returns-in_err-map_err-2
returns-in_err-map_err-2 c =
    second-leaves _ _ _ _ _ c.fresh_verdict.ensures c.map_err.result c.map_err.ensures.cases c.in_ok-map_err.was _ c.fresh_verdict-2.ensures
    c.map_err-2.result c.map_err-2.ensures.cases c.in_err-map_err-2.was c.from_residual-in_err-map_err-2.result c.from_residual-in_err-map_err-2.ensures.1

pub first_equivocation-requires : goal.first_equivocation-requires
first_equivocation-requires c =
    free-again c.free_all-3.ensures
    (c.free_all-3.auto.links ∙ c.fresh_verdict-2.auto.packet_links ∙ c.free_all-2.auto.links
    ∙ c.fresh_verdict.auto.packet_links ∙ length-replicate {A = ℕ} 81919 0)

pub returns : goal.returns
returns c =
    compare-finds _ _ _ _ _ c.fresh_verdict.ensures c.map_err.result c.map_err.ensures.cases c.in_ok-map_err.was _ c.fresh_verdict-2.ensures
    c.map_err-2.result c.map_err-2.ensures.cases c.first_equivocation.result c.in_ok-map_err-2.was c.first_equivocation.ensures
