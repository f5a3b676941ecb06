-- `add_blocks` meets its contract. Assumes nothing.
use Rattle.protocol.specs.Packet.{packet_of}
use Rattle.protocol.specs.Lent.{rows_of, make_block}
use Rattle.protocol.specs.Calls.Receive.{add_blocks}
use Rattle.protocol.proofs.Store.New.{knows_block, adding-blocks}
use Rattle.storing.proofs.Adding.{grown-new}
use Rattle.storing.proofs.Chosen.{blocks-chosen, chosen-room}
use Rattle.storing.proofs.add_blocks.Goals as goal

pub add_new-requires : goal.add_new-requires
add_new-requires c = (
  chosen-room knows_block add_blocks adding-blocks make_block _ _ (packet_of c.args.bytes.now).blocks (blocks-chosen _ _ _ _ c.requires.3) c.requires.0,
  c.requires.1,
  c.requires.2,
)

pub returns : goal.returns
returns c =
    rw (grown-new knows_block add_blocks adding-blocks (rows_of make_block c.args.blocks.now c.args.used.now) (packet_of c.args.bytes.now).blocks)
    (rw (blocks-chosen _ _ _ _ c.requires.3) at c.add_new.ensures)
