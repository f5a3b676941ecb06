-- `asking::answered` meets its contract. Assumes nothing.
use Rattle.std.proofs.Common.{◌∙◌}
use Rattle.std.proofs.lemmas.Result.{err_from_is_err_and}
use Rattle.protocol.proofs.Lent.Calls.{ask-lent}
use Rattle.protocol.specs.Words.{value}
use Rattle.asking.specs.Ask.{settled_is, ask_settled, ask_for}
use Rattle.asking.proofs.Gather.{map-refused, map-done}
use Rattle.asking.proofs.answered.Goals as goal

pub returns-in-Chain : goal.returns-in-Chain
unfolding ask_for
returns-in-Chain c = rw c.in-Chain.is c.queried.ensures

pub returns-in_err-block-in-Settled : goal.returns-in_err-block-in-Settled
unfolding ask_for ask_settled
returns-in_err-block-in-Settled c =
    let k = err_from_is_err_and c.from_residual.result c.from_residual.ensures.1 in
    rw (c.in-Settled.is, k.1, k.2) (map-refused value settled_is (c.settled.ensures ∙ ask-lent _ _ _ c.requires) c.in_err-block-in-Settled.was)

pub returns-in_ok-block-in-Settled : goal.returns-in_ok-block-in-Settled
unfolding ask_for ask_settled
returns-in_ok-block-in-Settled c = rw c.in-Settled.is (map-done value settled_is (c.settled.ensures ∙ ask-lent _ _ _ c.requires) c.in_ok-block-in-Settled.was)
