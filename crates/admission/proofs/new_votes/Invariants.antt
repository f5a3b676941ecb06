-- The loop of `new_votes`: its invariant. Assumes nothing.
use Prim.Native.Nat.{◌+◌, ◌≤◌}
use mathlib.Core.Path.{◌≡◌}
use lib.ListN.{length, take}
use Rattle.protocol.specs.Store.{entries}
use Rattle.protocol.specs.Packet.{packet_of}
use Rattle.protocol.specs.Lent.{rows_of, make_vote}
use Rattle.protocol.specs.Calls.Receive.{add_since}
use Rattle.index.specs.Links.{VotesIndexed}
use Rattle.admission.specs.Seen.{VotesSeen}
use Rattle.admission.proofs.new_votes.Given as goal

abbrev pub invariant-loop-i : goal.invariant-loop-i
invariant-loop-i l =
    record {
      count : l.i-end ≡ length (packet_of l.bytes).votes;
      few : l.new ≤ l.i;
      new : l.votes.used + l.new ≡ length (add_since l.from (entries (rows_of make_vote l.votes.words.now l.votes.used)) (take l.i (packet_of l.bytes).votes));
      indexed : VotesIndexed l.salt l.votes.words.now l.votes.used l.bytes l.i l.links l.packet_links;
      seen : VotesSeen l.votes.words.now l.votes.used l.bytes l.i l.firsts;
    }
