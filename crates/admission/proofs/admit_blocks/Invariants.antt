-- The loop of `admit_blocks`: its invariant. Assumes nothing.
use Prim.Native.Nat.{◌+◌, ◌≤◌}
use mathlib.Core.Path.{◌≡◌}
use lib.ListN.{length, take, drop}
use Rattle.protocol.specs.Store.{entries}
use Rattle.protocol.specs.Packet.{packet_of}
use Rattle.protocol.specs.Lent.{rows_of, make_block}
use Rattle.protocol.specs.Calls.Receive.{add_blocks, first_bad_block}
use Rattle.index.specs.Links.{BlocksIndexed}
use Rattle.admission.specs.Seen.{BlocksSeen}
use Rattle.admission.proofs.admit_blocks.Given as goal

abbrev pub invariant-loop-i : goal.invariant-loop-i
invariant-loop-i l =
    record {
      count : l.i-end ≡ length (packet_of l.bytes).blocks;
      few : l.new ≤ l.i;
      new : l.blocks.used + l.new ≡ length (add_blocks (entries (rows_of make_block l.blocks.words.now l.blocks.used)) (take l.i (packet_of l.bytes).blocks));
      indexed : BlocksIndexed l.salt l.blocks.words.now l.blocks.used l.bytes l.i l.links l.packet_links;
      seen : BlocksSeen l.blocks.words.now l.blocks.used l.bytes l.i l.firsts;
      bad : first_bad_block l.slot (entries (rows_of make_block l.blocks.words.now l.blocks.used)) (packet_of l.bytes).blocks
          ≡ l.i + first_bad_block l.slot (add_blocks (entries (rows_of make_block l.blocks.words.now l.blocks.used)) (take l.i (packet_of l.bytes).blocks)) (drop l.i (packet_of l.bytes).blocks);
    }
