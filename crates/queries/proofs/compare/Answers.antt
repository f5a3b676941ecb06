-- `queries::compare` meets its contract: Compare. Assumes nothing.
use Rattle.queries.proofs.Asks.{compare-leaves, compare-answers}
use Rattle.queries.proofs.compare.Goals as goal

pub returns-in_err-map_err : goal.returns-in_err-map_err
returns-in_err-map_err c =
    compare-leaves _ _ _ _ _ _ c.sound_verdict.ensures c.map_err.result c.map_err.ensures.cases c.in_err-map_err.was c.from_residual.result c.from_residual.ensures.1

pub returns : goal.returns
returns c =
    compare-answers _ _ _ _ _ _ c.sound_verdict.ensures c.map_err.result c.map_err.ensures.cases c.compared.result c.in_ok-map_err.was c.compared.ensures
