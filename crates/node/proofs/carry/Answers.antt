-- `node::carry` meets its contract: the call that is asked for. Assumes nothing.
use Rattle.node.proofs.Calls.{carries-receive, carries-propose, carries-vote, carries-merge}
use Rattle.node.proofs.carry.Goals as goal

pub returns-in-Receive-clause-promise : goal.returns-in-Receive-clause-promise
returns-in-Receive-clause-promise c = carries-receive _ _ _ _ _ _ c.in-Receive.is c.map.ensures.cases c.receive.ensures.promise

pub returns-in-Propose-clause-promise : goal.returns-in-Propose-clause-promise
returns-in-Propose-clause-promise c = carries-propose _ _ _ _ _ _ c.in-Propose.is c.map-in-Propose.ensures.cases c.propose.ensures.promise

pub returns-in-Vote-clause-promise : goal.returns-in-Vote-clause-promise
returns-in-Vote-clause-promise c = carries-vote _ _ _ _ _ _ c.in-Vote.is c.map-in-Vote.ensures.cases c.vote.ensures.promise

pub returns-in-Merge-clause-promise : goal.returns-in-Merge-clause-promise
returns-in-Merge-clause-promise c = carries-merge _ _ _ _ _ _ c.in-Merge.is c.and.ensures c.merge.ensures.promise
