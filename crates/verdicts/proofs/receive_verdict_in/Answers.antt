-- `receive_verdict_in` meets its contract. Assumes nothing.
use native.Mathlib.Omega.{arith}
use Prim.Native.Nat.{ℕ}
use mathlib.Core.Path.{◌≡◌, ap, sym, ◌∙◌}
use lib.ListN.{length, replicate, length-replicate}
use Rattle.verdicts.proofs.Sequence.{refused-at, receive-front}
use Rattle.verdicts.proofs.Receive.{packet-ready, blocks-full, votes-full, room}
use Rattle.verdicts.proofs.receive_verdict_in.Goals as goal

pub packet_verdict-requires : goal.packet_verdict-requires
packet_verdict-requires c =
    let e : length c.args.vote_links.now ≡ 24576 = ap length c.requires.2 ∙ length-replicate {A = ℕ} 24576 0 in
    (c.requires.0, c.requires.1, (omega arith, omega (arith, e)), c.requires.2 ∙ ap (λ (k : ℕ). replicate k 0) (sym e), c.requires.3)

pub returns-in_err-new-clause-verdict : goal.returns-in_err-new-clause-verdict
returns-in_err-new-clause-verdict c = refused-at _ _ _ _ 7 (receive-front _ _ _) c.packet_verdict.ensures.verdict _ c.from_residual.ensures.1 c.in_err-new.was

pub overflow_sub-places : goal.overflow_sub-places
overflow_sub-places c = omega (arith, (packet-ready _ _ _ _ c.packet_verdict.ensures.verdict c.in_ok-new.was).fit-blocks, c.places.ensures)

pub returns-then-places-lent-clause-verdict : goal.returns-then-places-lent-clause-verdict
returns-then-places-lent-clause-verdict c =
    blocks-full _ _ _ _ c.packet_verdict.ensures.verdict c.in_ok-new.was c.in_ok-new.ensures.counts c.places.ensures c.if-places-lent.true

pub overflow_sub-places-2 : goal.overflow_sub-places-2
overflow_sub-places-2 c = omega (arith, (packet-ready _ _ _ _ c.packet_verdict.ensures.verdict c.in_ok-new.was).fit-votes, c.places-2.ensures)

pub returns-then-places-lent-2-clause-verdict : goal.returns-then-places-lent-2-clause-verdict
returns-then-places-lent-2-clause-verdict c =
    votes-full _ _ _ _ c.packet_verdict.ensures.verdict c.in_ok-new.was c.in_ok-new.ensures.counts c.places.ensures c.if-places-lent.false c.places-2.ensures c.if-places-lent-2.true

pub returns-clause-verdict : goal.returns-clause-verdict
returns-clause-verdict c =
    room _ _ _ _ c.packet_verdict.ensures.verdict c.in_ok-new.was c.in_ok-new.ensures.counts c.places.ensures c.if-places-lent.false c.places-2.ensures c.if-places-lent-2.false
