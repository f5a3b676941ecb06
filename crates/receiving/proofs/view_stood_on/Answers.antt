-- `view_stood_on` meets its contract. Assumes nothing.
use native.Mathlib.Omega.{arith}
use Rattle.protocol.specs.Packet.{packet_of}
use Rattle.index.specs.Firsts.{named}
use Rattle.receiving.proofs.Carrying.{ordered-named, marks-named, stood-viewed}
use Rattle.receiving.proofs.view_stood_on.Goals as goal

pub view_ancestors-requires : goal.view_ancestors-requires
view_ancestors-requires c = (
  omega (arith, c.view_named.auto.words, c.requires.0),
  marks-named _ _ _ c.requires.2 ((c.view_named.ensures (named (packet_of c.args.bytes.now)) c.requires.6)),
  ordered-named _ _ _ c.requires.2 ((c.view_named.ensures (named (packet_of c.args.bytes.now)) c.requires.6)),
  rw (c.new.ensures.words, c.new.ensures.used) at c.build_blocks.ensures.1,
)

pub returns : goal.returns
returns c =
    stood-viewed _ _ _ c.requires.2 ((c.view_named.ensures (named (packet_of c.args.bytes.now)) c.requires.6)) c.view_ancestors.ensures
