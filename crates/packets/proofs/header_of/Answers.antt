-- `packets::header_of` meets its contract. Assumes nothing.
use native.Mathlib.Omega.{arith}
use Rattle.protocol.proofs.Packet.Numbers.{bytes-by-index}
use Rattle.packets.proofs.Reading.{header_made}
use Rattle.packets.proofs.header_of.Goals as goal

pub returns : goal.returns
returns c =
    let bs = c.args.bytes.now in
    header_made bs _ _ _ _ _ _ _ _ (bytes-by-index bs (λ j _. omega (arith, c.type_inv.bytes j))) c.number_from-kind.ensures.0 c.number_from-slot.ensures.0 c.upper_bytes-upper.ensures.0 c.number_from-lower.ensures.0
    c.number_from-half.ensures.0 c.number_from-blocks.ensures.0 c.behind_blocks-at.ensures.0 c.number_from-votes.ensures.0
