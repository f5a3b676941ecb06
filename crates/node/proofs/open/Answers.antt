-- `node::open` meets its contract: Open. Assumes nothing.
use Rattle.protocol.specs.Store.{fresh_clock}
use Rattle.protocol.specs.Lent.{cleared}
use Rattle.node.proofs.Calls.{open-told, open-leaves, open-room, open-clears}
use Rattle.node.proofs.open.Goals as goal

pub returns-in_err-open_verdict-clause-promise : goal.returns-in_err-open_verdict-clause-promise
returns-in_err-open_verdict-clause-promise c =
    open-leaves _ _ (open-told c.read.result c.read.ensures.settings c.read.ensures.memory c.open_verdict.ensures) c.from_residual.result c.in_err-open_verdict.was c.from_residual.ensures.1

pub clear-requires : goal.clear-requires
clear-requires c = open-room _ _ (open-told c.read.result c.read.ensures.settings c.read.ensures.memory c.open_verdict.ensures) c.in_ok-open_verdict.was

pub returns-clause-promise : goal.returns-clause-promise
unfolding cleared
returns-clause-promise c =
    open-clears _ _ (open-told c.read.result c.read.ensures.settings c.read.ensures.memory c.open_verdict.ensures) c.in_ok-open_verdict.was
    (λ i. record { blocks = c.clear.ensures.0 i; votes = c.clear.ensures.1 i; blocks_used = 1; votes_used = 0; clock = fresh_clock })
