-- `node::propose` meets its contract: Propose. Assumes nothing.
use native.Mathlib.Omega.{arith}
use Rattle.protocol.proofs.Lent.Rows.{block-codec}
use Rattle.node.proofs.Tables.{viewed-marks}
use Rattle.node.proofs.Calls.{propose-told, sound-told, base-told, propose-ready, propose-sound, propose-leaves, propose-room, propose-stores}
use Rattle.node.proofs.propose.Goals as goal

pub returns-in_err-propose_verdict-clause-promise : goal.returns-in_err-propose_verdict-clause-promise
returns-in_err-propose_verdict-clause-promise c =
    propose-leaves _ _ _ _ (propose-told c.read.result c.read.ensures.settings c.read.ensures.memory c.args.beat _ c.propose_verdict.ensures) c.from_residual.result c.in_err-propose_verdict.was c.from_residual.ensures.1

pub of-requires : goal.of-requires
of-requires c =
    sound-told c.read-2.result c.read-2.ensures.settings c.read-2.ensures.memory (propose-sound _ _ _ _ (propose-told c.read.result c.read.ensures.settings c.read.ensures.memory c.args.beat _ c.propose_verdict.ensures) c.in_ok-propose_verdict.was)

pub view_all-requires : goal.view_all-requires
view_all-requires c = (propose-ready _ _ _ _ (propose-told c.read.result c.read.ensures.settings c.read.ensures.memory c.args.beat _ c.propose_verdict.ensures) c.in_ok-propose_verdict.was).memory.block_words

pub append-requires : goal.append-requires
append-requires c = (
  omega (arith, propose-room _ _ _ _ (propose-told c.read.result c.read.ensures.settings c.read.ensures.memory c.args.beat _ c.propose_verdict.ensures) c.in_ok-propose_verdict.was, c.view_all.auto.words),
  viewed-marks block-codec _ _ c.view_all.ensures,
)

pub view_all-requires-2 : goal.view_all-requires-2
view_all-requires-2 c = (propose-ready _ _ _ _ (propose-told c.read.result c.read.ensures.settings c.read.ensures.memory c.args.beat _ c.propose_verdict.ensures) c.in_ok-propose_verdict.was).memory.vote-words

pub returns-clause-promise : goal.returns-clause-promise
returns-clause-promise c =
    propose-stores _ _ _ _ (propose-told c.read.result c.read.ensures.settings c.read.ensures.memory c.args.beat _ c.propose_verdict.ensures) c.in_ok-propose_verdict.was
    (base-told c.read-2.result c.read-2.ensures.settings c.read-2.ensures.memory c.of.ensures.settings c.of.ensures.blocks c.of.ensures.blocks_used c.of.ensures.votes c.of.ensures.votes_used _ c.base-base.ensures) c.view_all.ensures c.append.ensures.0 c.append.ensures.1 c.view_all-2.ensures
