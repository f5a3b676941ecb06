-- `Packed::count` meets its contract. Assumes nothing.
use native.Mathlib.Omega.{arith}
use Rattle.packets.proofs.Entries.{count-there}
use Rattle.packets.proofs.Packed.count.Goals as goal

pub returns : goal.returns
returns g c =
    let bs = c.args.bytes.now in
    let p = g.Self.Packed in
    let e = g.Self.Entry in (
      count-there e.packed p.width p.front bs _ (g.met.Self.Packed.section bs) c.number_at.result c.upper_bytes-upper.result c.front.result c.number_at.ensures.0 c.upper_bytes-upper.ensures.0 c.front.ensures.0 c.number_at-2.result c.number_at-2.ensures.0,
      omega (arith, c.number_at-2.ensures.1),
    )
