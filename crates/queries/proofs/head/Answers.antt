-- `queries::head` meets its contract: Head. Assumes nothing.
use Rattle.verdicts.proofs.Passed.{passed-sound}
use Rattle.queries.proofs.Asks.{slot-bound, head-told, head-leaves, head-answers}
use Rattle.queries.proofs.head.Goals as goal

pub returns-in_err-query_verdict : goal.returns-in_err-query_verdict
returns-in_err-query_verdict c = head-leaves _ _ _ c.query_verdict.ensures c.from_residual.result c.in_err-query_verdict.was c.from_residual.ensures.1

pub of-requires : goal.of-requires
of-requires c = passed-sound _ _ _ c.query_verdict.ensures c.in_ok-query_verdict.was

pub head-requires : goal.head-requires
head-requires c = slot-bound _ _ _ c.query_verdict.ensures c.in_ok-query_verdict.was

pub returns : goal.returns
returns c =
    head-answers _ _ _ c.query_verdict.ensures c.head.result c.in_ok-query_verdict.was
    (head-told c.args.lent c.of.ensures.settings c.of.ensures.blocks c.of.ensures.blocks_used c.of.ensures.votes c.of.ensures.votes_used _ c.head.ensures)
