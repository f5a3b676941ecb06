-- The loop of `admit_votes`: its invariant. Assumes nothing.
use Prim.Native.Nat.{◌+◌}
use mathlib.Core.Path.{◌≡◌}
use lib.ListN.{length, drop}
use Rattle.protocol.specs.Store.{entries}
use Rattle.protocol.specs.Packet.{packet_of}
use Rattle.protocol.specs.Lent.{rows_of, make_block}
use Rattle.protocol.specs.Calls.Receive.{add_blocks, first_bad_vote}
use Rattle.admission.specs.Seen.{VotedSeen}
use Rattle.admission.proofs.admit_votes.Given as goal

abbrev pub invariant-loop-j : goal.invariant-loop-j
invariant-loop-j l =
    record {
      known : l.known ≡ length (packet_of l.bytes).blocks;
      count : l.j-end ≡ length (packet_of l.bytes).votes;
      seen : VotedSeen l.blocks.words.now l.blocks.used l.bytes l.j l.firsts;
      bad : first_bad_vote l.nodes l.slot (add_blocks (entries (rows_of make_block l.blocks.words.now l.blocks.used)) (packet_of l.bytes).blocks) (packet_of l.bytes).votes
          ≡ l.j + first_bad_vote l.nodes l.slot (add_blocks (entries (rows_of make_block l.blocks.words.now l.blocks.used)) (packet_of l.bytes).blocks) (drop l.j (packet_of l.bytes).votes);
    }
