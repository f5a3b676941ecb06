-- How many of a packet's entries are new to the memory. Assumes nothing.
use Rattle.std.specs.Prelude.{ℕ, ◌+◌, ◌≡◌, List, length}
use Rattle.protocol.specs.declared.Settings.{Settings}
use Rattle.protocol.specs.Store.{kept_from}
use Rattle.protocol.specs.Packet.{packet_of}
use Rattle.protocol.specs.Calls.Receive.{blocks_after, votes_after}
use Rattle.protocol.specs.Lent.{Lent, node_of}
use Rattle.verdicts.specs.declared.NewCounts.{NewCounts}

-- with the used ones they are as many as there would be
pub record CountsNew (s : Settings) (m : Lent) (bytes : List ℕ) (n : NewCounts) : Type 0 where
  pub blocks : m.blocks_used + n.blocks ≡ length (blocks_after (node_of m) (packet_of bytes))
  pub votes : m.votes_used + n.votes ≡ length (votes_after (kept_from s m.clock.merged) (node_of m) (packet_of bytes))
