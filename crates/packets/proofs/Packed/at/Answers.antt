-- `Packed::at` meets its contract. Assumes nothing.
use Prim.Native.Nat.{◌+◌, ◌*◌}
use mathlib.Core.Path.{◌∙◌}
use native.Mathlib.Nat.{mul-le-mul}
use native.Mathlib.Omega.{arith}
use Rattle.std.proofs.Common.{zero-add}
use Rattle.protocol.specs.Packet.{width_of}
use Rattle.protocol.proofs.Packet.Numbers.{bytes-by-index}
use Rattle.packets.proofs.Reading.{Stands, stands-new, stands-skip, stands-entry}
use Rattle.packets.proofs.Entries.{entry-few, entry-there}
use Rattle.packets.proofs.Packed.at.Goals as goal

pub overflow_mul-at : goal.overflow_mul-at
overflow_mul-at g c =
    let bs = c.args.bytes.now in
    let p = g.Self.Packed in
    let few = entry-few g.Self.Entry.packed p.width p.front bs _ (g.met.Self.Packed.section bs) c.args.i (bytes-by-index bs (λ j _. omega (arith, c.type_inv.bytes j))) c.requires in
    omega (arith, mul-le-mul c.size.ensures.1 few)

pub overflow_add-at-2 : goal.overflow_add-at-2
overflow_add-at-2 g c =
    let bs = c.args.bytes.now in
    let p = g.Self.Packed in
    let few = entry-few g.Self.Entry.packed p.width p.front bs _ (g.met.Self.Packed.section bs) c.args.i (bytes-by-index bs (λ j _. omega (arith, c.type_inv.bytes j))) c.requires in
    omega (arith, mul-le-mul c.size.ensures.1 few, c.front.ensures.1)

pub returns : goal.returns
returns g c =
    let bytes = c.args.bytes in
    let p = g.Self.Packed in
    let e = g.Self.Entry in
    let at = c.front.result + 2 + c.size.result * c.args.i in
    let s : Stands c.skip.result bytes.now at = rw (zero-add at) at (stands-skip (stands-new bytes c.new.result c.new.ensures) c.skip.result at c.skip.ensures) in
    stands-entry s (e.packed (width_of c.number_at-kind.result)) (e.of c.take_entry.result) c.take_entry.ensures
    ∙ entry-there e.packed p.width p.front bytes.now _ (g.met.Self.Packed.section bytes.now) c.number_at-kind.result c.upper_bytes-upper.result c.front.result c.number_at-kind.ensures.0
    c.upper_bytes-upper.ensures.0 c.front.ensures.0 c.size.result c.args.i e.none c.size.ensures.0 c.requires
