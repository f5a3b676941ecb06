-- `bytewise_at` meets its contract. Assumes nothing.
use mathlib.Core.Path.{sym}
use native.Mathlib.Omega.{arith}
use Rattle.packets.proofs.Fields.{field_none, field-next, field-next-below}
use Rattle.packets.proofs.bytewise_at.Goals as goal

pub loop-i-init : goal.loop-i-init
loop-i-init c = record { read = sym (field_none _ _); below = omega arith }

pub loop-i-preserved : goal.loop-i-preserved
loop-i-preserved c = record {
  read = field-next c.loop-i.i c.loop-i.sum c.byte_at.result (omega arith) c.loop-i.invariant.below c.byte_at.ensures.1 c.args.bytes.now c.args.at c.loop-i.invariant.read c.byte_at.ensures.0;
  below = field-next-below c.loop-i.i c.loop-i.sum c.byte_at.result (omega arith) c.loop-i.invariant.below c.byte_at.ensures.1;
}
