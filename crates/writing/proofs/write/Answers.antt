-- `writing::write` meets its contract: Write. Assumes nothing.
use Rattle.writer.specs.Sent.{node_in}
use Rattle.verdicts.proofs.Passed.{passed-sound, passed-ready}
use Rattle.verdicts.proofs.Write.{readable, header-fields}
use Rattle.writing.proofs.Packet.{write-leaves, write-room, write-fills}
use Rattle.writing.proofs.write.Goals as goal

pub returns-in_err-write_verdict : goal.returns-in_err-write_verdict
returns-in_err-write_verdict c = write-leaves _ _ _ _ _ c.write_verdict.ensures _ c.from_residual.ensures.1 c.in_err-write_verdict.was

pub of-tables-requires : goal.of-tables-requires
of-tables-requires c = passed-sound _ _ _ c.write_verdict.ensures c.in_ok-write_verdict.was

pub invariant_of-sent : goal.invariant_of-sent
invariant_of-sent c = record {
  readable =
      rw (c.of-tables.ensures.blocks, c.of-tables.ensures.blocks_used, c.of-tables.ensures.votes, c.of-tables.ensures.votes_used)
      (readable _ _ (passed-ready _ _ _ c.write_verdict.ensures c.in_ok-write_verdict.was));
}

pub write_packet-requires : goal.write_packet-requires
unfolding node_in
write_packet-requires c =
    let f = header-fields _ _ _ c.header_block-named.ensures in (
      f.0,
      f.1,
      rw (c.of-tables.ensures.blocks, c.of-tables.ensures.blocks_used, c.of-tables.ensures.votes, c.of-tables.ensures.votes_used)
          (write-room _ _ _ _ _ c.write_verdict.ensures c.in_ok-write_verdict.was),
    )

pub returns : goal.returns
returns c =
    write-fills _ _ _ _ _ c.write_verdict.ensures c.in_ok-write_verdict.was
    (rw (c.of-tables.ensures.blocks, c.of-tables.ensures.blocks_used, c.of-tables.ensures.votes, c.of-tables.ensures.votes_used) at c.written_length-length.ensures)
    (rw (c.of-tables.ensures.blocks, c.of-tables.ensures.blocks_used, c.of-tables.ensures.votes, c.of-tables.ensures.votes_used) at c.write_packet.ensures)
