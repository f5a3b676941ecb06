-- `whole_at` meets its contract. Assumes nothing.
use Prim.Native.Nat.{◌+◌, ◌<◌}
use mathlib.Core.Path.{refl, sym}
use native.Mathlib.Omega.{arith}
use lib.ListN.{get_or}
use Rattle.packets.proofs.Fields.{field_none, field-next, field-next-below}
use Rattle.packets.proofs.whole_at.Goals as goal

pub loop-i-init : goal.loop-i-init
loop-i-init g c = record { read = sym (field_none _ _); below = omega arith }

pub loop-i-preserved : goal.loop-i-preserved
loop-i-preserved g c =
    let b = get_or c.args.bytes.now (c.args.at + c.loop-i.i) 0 in
    let most : c.loop-i.i < 8 = omega arith in
    let byte : b < 256 = omega (arith, c.type_inv.bytes (c.args.at + c.loop-i.i)) in
    record {
      read = field-next c.loop-i.i c.loop-i.sum b most c.loop-i.invariant.below byte c.args.bytes.now c.args.at c.loop-i.invariant.read refl;
      below = field-next-below c.loop-i.i c.loop-i.sum b most c.loop-i.invariant.below byte;
    }
