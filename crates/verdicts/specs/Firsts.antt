-- What the sets of first rows tell where a packet passes. Assumes nothing.
use Rattle.std.specs.Prelude.{ℕ, ◌+◌, ◌*◌, ◌≤◌, List, length}
use Rattle.protocol.specs.Packet.{packet_of}
use Rattle.index.specs.Firsts.{BlocksNew, BlocksNamed, VotesNew, VotesNamed}

-- which of the packet's entries are new, and which rows it names; each has its bit in the set's words
pub record FirstsNoted (bw : List ℕ) (bu : ℕ) (vw : List ℕ) (vu : ℕ) (bytes bf vf : List ℕ) : Type 0 where
  pub blocks-fit : bu + length (packet_of bytes).blocks ≤ 64 * length bf
  pub votes-fit : vu + length (packet_of bytes).votes ≤ 64 * length vf
  pub blocks-new : BlocksNew bw bu bytes bf
  pub blocks-named : BlocksNamed bw bu bytes bf
  pub votes-new : VotesNew vw vu bytes vf
  pub votes-named : VotesNamed vw vu bytes vf
