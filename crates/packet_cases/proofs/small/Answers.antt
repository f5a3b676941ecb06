-- `packet_cases::small` meets its contract. Assumes nothing.
use Rattle.std.proofs.Common.{refl}
use Rattle.protocol.specs.Store.{view_of}
use Rattle.protocol.specs.Calls.Write.{last_block, proposal_of, sent_of}
use Rattle.protocol.specs.Lent.{rows_of}
use Rattle.writer.specs.Sent.{node_in}
use Rattle.packet_cases.proofs.small.Goals as goal

pub put-requires : goal.put-requires
unfolding node_in sent_of proposal_of view_of last_block rows_of
put-requires c = rw (c.new.ensures.words, c.new.ensures.used) (refl, refl)
