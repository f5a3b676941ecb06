-- For a caller that holds a whole node: passed tests give what the functions ask. Assumes nothing.
use Prim.Native.Nat.{ℕ, ◌/◌}
use mathlib.Core.List.{List}
use native.Mathlib.Omega.{arith}
use Rattle.protocol.specs.declared.Settings.{Settings}
use Rattle.protocol.specs.Store.{Places, Node}
use Rattle.protocol.specs.Packet.{packet_of}
use Rattle.protocol.specs.Calls.Receive.{blocks_after}
use Rattle.protocol.proofs.Calls.Passed.{Receives}
use Rattle.protocol.proofs.Store.Tables.{table-holds}
use Rattle.receiving.specs.Accepted.{Accepted}

pub receives-accepted : (s : Settings) (pl : Places) (x : Node) (beat : ℕ) (bytes : List ℕ) → Receives s pl x beat bytes → Accepted x.blocks (packet_of bytes)
unfolding blocks_after
receives-accepted s pl x beat bytes R =
    let G = R.base.good in
    record {
      slot = x.clock.seen / 3;
      later = beat / 3;
      order = omega (arith, R.base.after);
      sound = table-holds (x.clock.seen / 3) x.blocks G.blocks G.closed-blocks;
      nodes = s.nodes;
      blocks = R.allowed.blocks;
      votes = R.allowed.votes;
    }
