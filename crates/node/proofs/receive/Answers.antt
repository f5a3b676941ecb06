-- `node::receive` meets its contract: Receive. Assumes nothing.
use borrow.Author.Rules.{rules}
use mathlib.Core.Path.{refl}
use Rattle.node.proofs.Calls.{receive-told, firsts-told, receive-ready, receive-leaves, receive-accepts, receive-block-room, receive-few, receive-vote-room, blocks-grow, votes-grow, receive-stores}
use Rattle.node.proofs.receive.Goals as goal

pub receive_verdict-requires : goal.receive_verdict-requires
receive_verdict-requires c = (refl, refl)

pub returns-in_err-receive_verdict-clause-promise : goal.returns-in_err-receive_verdict-clause-promise
returns-in_err-receive_verdict-clause-promise c =
    receive-leaves _ _ _ _ (receive-told c.read.result c.read.ensures.settings c.read.ensures.memory c.args.beat _ c.receive_verdict.ensures.verdict) c.from_residual.result c.in_err-receive_verdict.was c.from_residual.ensures.1

pub receive_blocks-requires : goal.receive_blocks-requires
receive_blocks-requires c =
    let h = receive-told c.read.result c.read.ensures.settings c.read.ensures.memory c.args.beat _ c.receive_verdict.ensures.verdict in
    let e = c.in_ok-receive_verdict.was in
    let n = firsts-told c.read.result c.read.ensures.settings c.read.ensures.memory c.in_ok-receive_verdict.ensures.firsts in
    (receive-block-room _ _ _ _ h e, (receive-ready _ _ _ _ h e).memory.block-marks, receive-accepts _ _ _ _ h e, n.blocks-fit, n.blocks-new, n.blocks-named, receive-few _ _ _ _ h e)

pub receive_votes-requires : goal.receive_votes-requires
receive_votes-requires c =
    let h = receive-told c.read.result c.read.ensures.settings c.read.ensures.memory c.args.beat _ c.receive_verdict.ensures.verdict in
    let e = c.in_ok-receive_verdict.was in
    let n = firsts-told c.read.result c.read.ensures.settings c.read.ensures.memory c.in_ok-receive_verdict.ensures.firsts in
    (receive-vote-room _ _ _ _ h e c.kept_from-from.ensures, (receive-ready _ _ _ _ h e).memory.vote-marks, n.votes-fit, n.votes-new, n.votes-named)

pub overflow_sub-new_blocks : goal.overflow_sub-new_blocks
overflow_sub-new_blocks c = blocks-grow _ _ _ _ c.receive_blocks.ensures

pub overflow_sub-new_votes : goal.overflow_sub-new_votes
overflow_sub-new_votes c = votes-grow _ _ _ _ _ c.receive_votes.ensures

pub returns-clause-promise : goal.returns-clause-promise
returns-clause-promise c =
    let h = receive-told c.read.result c.read.ensures.settings c.read.ensures.memory c.args.beat _ c.receive_verdict.ensures.verdict in
    receive-stores _ _ _ _ h c.in_ok-receive_verdict.was c.viewed_at_once-viewed.ensures c.kept_from-from.ensures
    c.receive_blocks.ensures c.receive_votes.ensures (search rules)
