-- `node::vote` meets its contract: Vote. Assumes nothing.
use Rattle.node.proofs.Calls.{vote-told, sound-told, head-told, vote-ready, vote-sound, vote-leaves, vote-room, vote-stores}
use Rattle.node.proofs.vote.Goals as goal

pub returns-in_err-vote_verdict-clause-promise : goal.returns-in_err-vote_verdict-clause-promise
returns-in_err-vote_verdict-clause-promise c =
    let h = vote-told c.read.result c.read.ensures.settings c.read.ensures.memory c.args.beat c.vote_verdict.ensures in
    vote-leaves _ _ _ h c.from_residual.result c.in_err-vote_verdict.was c.from_residual.ensures.1

pub of-requires : goal.of-requires
of-requires c =
    let h = vote-told c.read.result c.read.ensures.settings c.read.ensures.memory c.args.beat c.vote_verdict.ensures in
    sound-told c.read-2.result c.read-2.ensures.settings c.read-2.ensures.memory (vote-sound _ _ _ h c.in_ok-vote_verdict.was)

pub append-requires : goal.append-requires
append-requires c =
    let h = vote-told c.read.result c.read.ensures.settings c.read.ensures.memory c.args.beat c.vote_verdict.ensures in
    (vote-room _ _ _ h c.in_ok-vote_verdict.was, (vote-ready _ _ _ h c.in_ok-vote_verdict.was).memory.vote-marks)

pub returns-clause-promise : goal.returns-clause-promise
returns-clause-promise c =
    let h = vote-told c.read.result c.read.ensures.settings c.read.ensures.memory c.args.beat c.vote_verdict.ensures in
    let f = head-told c.read-2.result c.read-2.ensures.settings c.read-2.ensures.memory c.of.ensures.settings c.of.ensures.blocks c.of.ensures.blocks_used
    c.of.ensures.votes c.of.ensures.votes_used _ c.head-head.ensures in
    vote-stores _ _ _ h c.in_ok-vote_verdict.was f c.append.ensures.0 c.append.ensures.1
