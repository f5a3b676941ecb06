-- `VoteWritten::put` meets its contract. Assumes nothing.
use Prim.Native.Nat.{◌+◌}
use Rattle.protocol.specs.Words.{value}
use Rattle.protocol.specs.Packet.{bytes_of, vote_bytes}
use Rattle.protocol.proofs.Packet.Numbers.{le-length}
use Rattle.writer.proofs.Positions.{three-behind}
use Rattle.writer.proofs.VoteWritten.put.Goals as goal

pub returns : goal.returns
unfolding vote_bytes
returns c =
    let a = c.args in
    three-behind 1 4 a.at (bytes_of 1 a.self.voter) (bytes_of 4 a.self.slot) (bytes_of (8 + a.upper) (value a.self.number)) a.buf.now c.put_word.new.buf c.put_word-2.new.buf c.put_number.new.buf
    (le-length 1 _) (le-length 4 _) c.put_word.ensures c.put_word-2.ensures c.put_number.ensures
