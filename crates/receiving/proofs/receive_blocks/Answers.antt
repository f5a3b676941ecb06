-- `receive_blocks` meets its contract. Assumes nothing.
use native.Mathlib.Omega.{arith}
use Rattle.protocol.specs.Packet.{packet_of}
use Rattle.protocol.specs.Lent.{rows_of, make_block}
use Rattle.protocol.specs.Calls.Receive.{add_blocks}
use Rattle.protocol.proofs.Lent.Rows.{block-codec}
use Rattle.protocol.proofs.Store.New.{knows_block, adding-blocks}
use Rattle.receiving.proofs.Held.{rows-held, marks-held, used-added, used_grows}
use Rattle.receiving.proofs.Naming.{blocks-agree}
use Rattle.receiving.proofs.Receiving.{accepted-carried, blocks-kept, blocks-stood-on}
use Rattle.receiving.proofs.receive_blocks.Goals as goal

pub view_stood_on-requires : goal.view_stood_on-requires
view_stood_on-requires c =
    let H = c.add_blocks.ensures in
    let n = used-added knows_block add_blocks adding-blocks block-codec c.args.blocks.now c.args.used.now (packet_of c.args.bytes.now).blocks H in
    let g = used_grows knows_block add_blocks adding-blocks block-codec c.args.blocks.now c.args.used.now (packet_of c.args.bytes.now).blocks H in (
      omega (arith, c.add_blocks.auto.blocks, c.requires.0, n),
      marks-held block-codec _ _ H,
      rw (rows-held block-codec _ _ H) (accepted-carried _ _ c.requires.2),
      g,
      omega (arith, c.requires.3),
      omega (arith, c.requires.6, n),
      blocks-agree _ _ _ _ H c.requires.5,
    )

pub returns-then-viewed : goal.returns-then-viewed
returns-then-viewed c =
    rw c.if-viewed.true
    (blocks-stood-on (rows_of make_block c.args.blocks.now c.args.used.now) _ _ c.add_blocks.ensures c.view_stood_on.ensures)

pub returns-else-viewed : goal.returns-else-viewed
returns-else-viewed c =
    rw (c.if-viewed.false, blocks-kept (rows_of make_block c.args.blocks.now c.args.used.now) (packet_of c.args.bytes.now)) c.add_blocks.ensures
