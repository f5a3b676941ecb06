-- `node::merge` meets its contract: Merge. Assumes nothing.
use Rattle.node.proofs.Calls.{merge-told, merge-ready, merge-leaves, merge-stores}
use Rattle.node.proofs.merge.Goals as goal

pub returns-in_err-merge_verdict-clause-promise : goal.returns-in_err-merge_verdict-clause-promise
returns-in_err-merge_verdict-clause-promise c =
    merge-leaves _ _ _ (merge-told c.read.result c.read.ensures.settings c.read.ensures.memory c.args.beat c.merge_verdict.ensures) c.from_residual.result c.in_err-merge_verdict.was c.from_residual.ensures.1

pub view_all-requires : goal.view_all-requires
view_all-requires c = (merge-ready _ _ _ (merge-told c.read.result c.read.ensures.settings c.read.ensures.memory c.args.beat c.merge_verdict.ensures) c.in_ok-merge_verdict.was).memory.block_words

pub merge_votes-requires : goal.merge_votes-requires
merge_votes-requires c = (merge-ready _ _ _ (merge-told c.read.result c.read.ensures.settings c.read.ensures.memory c.args.beat c.merge_verdict.ensures) c.in_ok-merge_verdict.was).memory.vote-words

pub returns-clause-promise : goal.returns-clause-promise
returns-clause-promise c =
    merge-stores _ _ _ (merge-told c.read.result c.read.ensures.settings c.read.ensures.memory c.args.beat c.merge_verdict.ensures) c.in_ok-merge_verdict.was c.kept_from-from.ensures c.view_all.ensures
    c.merge_votes.ensures.0 c.merge_votes.ensures.1
