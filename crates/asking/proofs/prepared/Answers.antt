-- `asking::prepared` meets its contract. Assumes nothing.
use Rattle.std.proofs.Common.{sym, ◌∙◌}
use Rattle.protocol.specs.Calls.Receive.{receive}
use Rattle.protocol.specs.Calls.Merge.{merge}
use Rattle.protocol.proofs.Lent.Calls.{receive-lawful, merge-lawful}
use Rattle.asking.specs.Ask.{prepared}
use Rattle.asking.proofs.Steps.{open-carried, call-carried, left-sound, stopped, went_on}
use Rattle.asking.proofs.prepared.Goals as goal

pub returns-in_err-open-clause-carried : goal.returns-in_err-open-clause-carried
unfolding prepared
returns-in_err-open-clause-carried c = stopped _ (open-carried _ _ _ c.open.ensures.promise) _ c.from_residual.ensures.1 c.in_err-open.was

pub returns-in_err-receive-clause-carried : goal.returns-in_err-receive-clause-carried
unfolding prepared
returns-in_err-receive-clause-carried c =
    let s = c.args.lent.now.settings in
    let o = open-carried s _ _ c.open.ensures.promise in
    let S = left-sound o c.in_ok-open.was in
    let r = call-carried s (λ t p x. receive t p x c.args.beat c.args.packet.now) (receive-lawful s _ _) _ S c.open.ensures.same.settings c.receive.ensures.promise in
    went_on _ o c.in_ok-open.was (stopped _ r _ c.from_residual-in_err-receive.ensures.1 c.in_err-receive.was)

pub returns-clause-carried : goal.returns-clause-carried
unfolding prepared
returns-clause-carried c =
    let s = c.args.lent.now.settings in
    let o = open-carried s _ _ c.open.ensures.promise in
    let S = left-sound o c.in_ok-open.was in
    let r = call-carried s (λ t p x. receive t p x c.args.beat c.args.packet.now) (receive-lawful s _ _) _ S c.open.ensures.same.settings c.receive.ensures.promise in
    let S' = left-sound r c.in_ok-receive.was in
    let m = call-carried s (λ t p x. merge t p x c.args.beat) (merge-lawful s _) _ S' (c.receive.ensures.same.settings ∙ c.open.ensures.same.settings) c.merge.ensures.promise in
    went_on _ o c.in_ok-open.was (went_on _ r c.in_ok-receive.was m)
