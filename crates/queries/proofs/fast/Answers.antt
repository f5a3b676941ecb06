-- `queries::fast` meets its contract: Fast. Assumes nothing.
use Rattle.verdicts.proofs.Passed.{passed-sound}
use Rattle.queries.proofs.Asks.{slot-bound, fast-told, fast-leaves, fast-answers}
use Rattle.queries.proofs.fast.Goals as goal

pub returns-in_err-query_verdict : goal.returns-in_err-query_verdict
returns-in_err-query_verdict c = fast-leaves _ _ _ c.query_verdict.ensures c.from_residual.result c.in_err-query_verdict.was c.from_residual.ensures.1

pub of-requires : goal.of-requires
of-requires c = passed-sound _ _ _ c.query_verdict.ensures c.in_ok-query_verdict.was

pub fast-requires : goal.fast-requires
fast-requires c = slot-bound _ _ _ c.query_verdict.ensures c.in_ok-query_verdict.was

pub returns : goal.returns
returns c =
    fast-answers _ _ _ c.query_verdict.ensures c.fast.result c.in_ok-query_verdict.was
    (fast-told c.args.lent c.of.ensures.settings c.of.ensures.blocks c.of.ensures.blocks_used c.of.ensures.votes c.of.ensures.votes_used _ c.fast.ensures)
