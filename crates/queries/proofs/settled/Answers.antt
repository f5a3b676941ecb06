-- `queries::settled` meets its contract: Settled. Assumes nothing.
use Rattle.verdicts.proofs.Passed.{passed-sound}
use Rattle.queries.proofs.Asks.{settled-bounds, settled-told, settled-leaves, settled-answers}
use Rattle.queries.proofs.settled.Goals as goal

pub returns-in_err-settled_verdict : goal.returns-in_err-settled_verdict
returns-in_err-settled_verdict c = settled-leaves _ _ _ _ c.settled_verdict.ensures c.from_residual.result c.in_err-settled_verdict.was c.from_residual.ensures.1

pub of-requires : goal.of-requires
of-requires c = passed-sound _ _ _ c.settled_verdict.ensures c.in_ok-settled_verdict.was

pub settled_block-requires : goal.settled_block-requires
settled_block-requires c =
    let b = settled-bounds _ _ _ _ c.settled_verdict.ensures c.in_ok-settled_verdict.was in
    (b.0, rw c.of.ensures.settings b.1)

pub returns : goal.returns
returns c =
    settled-answers _ _ _ _ c.settled_verdict.ensures c.settled_block.result c.in_ok-settled_verdict.was
    (settled-told c.args.lent c.of.ensures.settings c.of.ensures.blocks c.of.ensures.blocks_used c.of.ensures.votes c.of.ensures.votes_used _ _ c.settled_block.ensures)
