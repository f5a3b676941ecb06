-- `number_from` meets its contract. Assumes nothing.
use Rattle.std.proofs.Common.{zero-add}
use Rattle.packets.proofs.Reading.{Stands, stands-new, stands-skip, stands-take}
use Rattle.packets.proofs.number_from.Goals as goal

pub returns : goal.returns
returns c =
    let bytes = c.args.bytes in
    let s : Stands c.skip.result bytes.now c.args.at = rw (zero-add c.args.at) at (stands-skip (stands-new bytes c.new.result c.new.ensures) c.skip.result c.args.at c.skip.ensures) in
    (stands-take s c.take.result c.args.width c.take.ensures.0, c.take.ensures.1)
