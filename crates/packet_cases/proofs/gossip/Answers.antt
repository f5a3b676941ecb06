-- `packet_cases::gossip` meets its contract. Assumes nothing.
use Rattle.std.proofs.Common.{refl}
use Rattle.protocol.specs.Words.{from_halves}
use Rattle.protocol.specs.Calls.Write.{gossip_of, sent_of}
use Rattle.packet_cases.proofs.gossip.Goals as goal

pub put-requires : goal.put-requires
unfolding sent_of gossip_of from_halves
put-requires c = (refl, refl)
