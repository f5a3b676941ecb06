-- `asking::queried` meets its contract. Assumes nothing.
use Rattle.std.proofs.Common.{◌∙◌}
use Rattle.protocol.proofs.Lent.Calls.{ask-lent}
use Rattle.asking.specs.Ask.{ask_all}
use Rattle.asking.proofs.Gather.{head-refuses, deep-refuses, fast-refuses, all-found}
use Rattle.asking.proofs.queried.Goals as goal

pub returns-in_err-head : goal.returns-in_err-head
unfolding ask_all
returns-in_err-head c = head-refuses _ _ c.from_residual.ensures.1 _ _ _ (c.head.ensures ∙ ask-lent _ _ _ c.requires) c.in_err-head.was

pub returns-in_err-deep : goal.returns-in_err-deep
unfolding ask_all
returns-in_err-deep c =
    deep-refuses _ _ c.from_residual-in_err-deep.ensures.1 _ _ _ (c.head.ensures ∙ ask-lent _ _ _ c.requires) c.in_ok-head.was (c.deep.ensures ∙ ask-lent _ _ _ c.requires) c.in_err-deep.was

pub returns-in_err-fast : goal.returns-in_err-fast
unfolding ask_all
returns-in_err-fast c =
    fast-refuses _ _ c.from_residual-in_err-fast.ensures.1 _ _ _ (c.head.ensures ∙ ask-lent _ _ _ c.requires) c.in_ok-head.was (c.deep.ensures ∙ ask-lent _ _ _ c.requires) c.in_ok-deep.was
    (c.fast.ensures ∙ ask-lent _ _ _ c.requires) c.in_err-fast.was

pub returns : goal.returns
unfolding ask_all
returns c =
    all-found (c.head.ensures ∙ ask-lent _ _ _ c.requires) c.in_ok-head.was (c.deep.ensures ∙ ask-lent _ _ _ c.requires) c.in_ok-deep.was
    (c.fast.ensures ∙ ask-lent _ _ _ c.requires) c.in_ok-fast.was
