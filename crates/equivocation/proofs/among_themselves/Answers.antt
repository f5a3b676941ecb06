-- `among_themselves` meets its contract. Assumes nothing.
use native.Mathlib.Omega.{arith}
use Prim.Native.Nat.{◌≤◌, ◌<◌}
use mathlib.Core.Path.{◌≡◌, sym, ◌∙◌}
use lib.ListN.{length}
use Rattle.protocol.specs.Packet.{packet_of}
use Rattle.index.proofs.Firsts.{linked-within}
use Rattle.index.proofs.Shapes.{links-within}
use Rattle.equivocation.proofs.Passes.{among-turn, among-end}
use Rattle.equivocation.proofs.among_themselves.Goals as goal

pub join_slot-earlier-requires : goal.join_slot-earlier-requires
join_slot-earlier-requires c =
    let h : c.loop-i.i < length (packet_of c.args.bytes.now).votes = omega (arith, c.count-i-end.ensures.0, c.loop-i-test.true) in (
      h,
      (omega (arith, c.requires.0.0, h), omega (arith, c.requires.0.1, links-within c.args.salt c.loop-i.i _ h)),
      c.loop-i.invariant.0,
      c.at-vote.ensures,
    )

pub meet_at-best-requires : goal.meet_at-best-requires
meet_at-best-requires c = omega (arith, linked-within _ c.join_slot-earlier.ensures.0, c.count-i-end.ensures.0, c.loop-i-test.true)

pub loop-i-preserved : goal.loop-i-preserved
loop-i-preserved c =
    let l = c.loop-i in (
      c.join_slot-earlier.ensures.1,
      among-turn _ l.i _ c.at-vote.ensures c.join_slot-earlier.ensures.0 c.meet_at-best.ensures (omega (arith, c.count-i-end.ensures.0, c.loop-i-test.true)) ∙ l.invariant.1,
    )

pub returns : goal.returns
returns c =
    let l = c.loop-i in
    let h : length (packet_of c.args.bytes.now).votes ≤ l.i = omega (arith, c.count-i-end.ensures.0, c.loop-i-test.false) in
    let z : l.i ≡ length (packet_of c.args.bytes.now).votes = omega (arith, h, c.count-i-end.ensures.0) in
    (sym (among-end _ l.i _ h) ∙ l.invariant.1, rw z at l.invariant.0)
