-- `written_length` meets its contract. Assumes nothing.
use mathlib.Core.Path.{sym, ◌∙◌}
use native.Mathlib.Omega.{arith}
use Rattle.protocol.specs.Lent.{make_block, make_vote}
use Rattle.writer.proofs.Rows.{rest-most}
use Rattle.writer.proofs.Packet.{sent-size}
use Rattle.writer.proofs.written_length.Goals as goal

pub packet_length-requires : goal.packet_length-requires
packet_length-requires c =
    let s = c.args.sent in (
      c.upper_bytes.ensures.1,
      omega (arith, c.count_sent-b.ensures, s.readable.block_count, rest-most make_block s.proposal s.blocks.words.now s.blocks.used 1),
      omega (arith, c.count_sent-v.ensures, s.readable.vote_count, rest-most make_vote s.proposal s.votes.words.now s.votes.used 0),
    )

pub returns : goal.returns
returns c =
    let s = c.args.sent in
    c.packet_length.ensures.size.0
    ∙ rw (c.upper_bytes.ensures.0, c.count_sent-b.ensures, c.count_sent-v.ensures)
    (sym (sent-size s.proposal s.width s.blocks.words.now s.blocks.used s.votes.words.now s.votes.used s.readable))
