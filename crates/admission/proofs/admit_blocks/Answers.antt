-- `admit_blocks` meets its contract. Assumes nothing.
use native.Mathlib.Omega.{arith}
use Prim.Native.Nat.{◌<◌}
use mathlib.Core.Path.{◌≡◌, sym, ◌∙◌}
use lib.ListN.{length}
use Rattle.protocol.specs.Chain.{genesis}
use Rattle.protocol.specs.Packet.{packet_of}
use Rattle.protocol.specs.Lent.{make_block}
use Rattle.protocol.specs.Calls.Receive.{add_blocks}
use Rattle.protocol.proofs.Store.Views.{length-entries}
use Rattle.protocol.proofs.Store.New.{knows_block, adding-blocks}
use Rattle.protocol.proofs.Lent.Rows.{length-rows_of}
use Rattle.admission.proofs.FirstBad.{block-begin, block-good, block-bad, block-end}
use Rattle.admission.proofs.Counts.{flag_one, count-begin, count_turn}
use Rattle.admission.proofs.admit_blocks.Goals as goal

pub loop-i-init : goal.loop-i-init
loop-i-init c =
    record {
      count = c.count-i-end.ensures.0;
      few = omega arith;
      new = count-begin knows_block add_blocks adding-blocks _ (packet_of c.args.bytes.now).blocks _ (length-entries _ ∙ length-rows_of make_block _ _);
      indexed = c.requires.indexed;
      seen = c.requires.seen;
      bad = block-begin _ _ _;
    }

pub returns-in_default-clause-bad : goal.returns-in_default-clause-bad
returns-in_default-clause-bad c =
    sym (c.loop-i.invariant.bad ∙ block-bad _ _ _ c.loop-i.i (omega (arith, c.loop-i.invariant.count)) (sym c.in_default.ensures.allowed))

pub loop-i-preserved : goal.loop-i-preserved
loop-i-preserved c =
    let l = c.loop-i in
    let s = c.in-Some.ensures in
    let f = flag_one c.in-Some.is_new in
    let h : l.i < length (packet_of c.args.bytes.now).blocks = omega (arith, l.invariant.count) in
    record {
      count = l.invariant.count;
      few = omega (arith, f);
      new = count_turn knows_block add_blocks adding-blocks _ (packet_of c.args.bytes.now).blocks _ genesis _ l.i h l.invariant.new s.new;
      indexed = s.indexed;
      seen = s.seen;
      bad = l.invariant.bad ∙ block-good _ _ _ l.i h (sym s.allowed);
    }

pub returns-clause-bad : goal.returns-clause-bad
returns-clause-bad c =
    let l = c.loop-i in
    let z : l.i ≡ length (packet_of c.args.bytes.now).blocks = omega (arith, l.invariant.count) in
    sym (l.invariant.bad ∙ block-end _ _ _ l.i (omega arith) ∙ z)
