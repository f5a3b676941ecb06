-- `well_formed` meets its contract: the length decides, and then the header. Assumes nothing.
use mathlib.Core.Path.{sym, ◌∙◌}
use native.Mathlib.Omega.{arith}
use borrow.Author.Tests.{ne_eqb}
use Rattle.protocol.proofs.Packet.Numbers.{bytes-by-index}
use Rattle.packets.proofs.Form.{counts-below, formed-not, formed-header}
use Rattle.packets.proofs.well_formed.Goals as goal

pub packet_length-length-requires : goal.packet_length-length-requires
packet_length-length-requires c =
    let bs = c.args.bytes.now in
    let b = counts-below bs c.header_of-h.result c.header_of-h.ensures (bytes-by-index bs (λ j _. omega (arith, c.type_inv.bytes j))) in
    (c.upper_bytes.ensures.1, omega (arith, b.0), omega (arith, b.1))

pub returns-then-bytes-length : goal.returns-then-bytes-length
returns-then-bytes-length c =
    let h = c.header_of-h in
    c.header_formed.ensures ∙ sym (formed-header c.args.bytes.now h.result h.ensures c.upper_bytes.result c.upper_bytes.ensures.0 (omega (arith, c.if-bytes-length.true, c.packet_length-length.ensures.size.0)))

pub returns-else-bytes-length : goal.returns-else-bytes-length
returns-else-bytes-length c =
    let h = c.header_of-h in
    ne_eqb _ _ c.if-bytes-length.false
    ∙ sym (formed-not c.args.bytes.now h.result h.ensures c.upper_bytes.result c.upper_bytes.ensures.0 (λ e. c.if-bytes-length.false (e ∙ sym c.packet_length-length.ensures.size.0)))
