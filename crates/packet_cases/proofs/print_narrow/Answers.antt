-- `packet_cases::print_narrow` meets its contract. Assumes nothing.
use Rattle.std.proofs.Common.{refl}
use Rattle.protocol.specs.Words.{from_halves}
use Rattle.protocol.specs.Calls.Write.{gossip_of, sent_of}
use Rattle.packet_cases.proofs.print_narrow.Goals as goal

pub too_wide-requires : goal.too_wide-requires
unfolding sent_of gossip_of from_halves
too_wide-requires g c = refl
