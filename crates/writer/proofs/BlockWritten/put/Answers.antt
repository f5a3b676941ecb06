-- `BlockWritten::put` meets its contract. Assumes nothing.
use Prim.Native.Nat.{◌+◌, ◌*◌}
use mathlib.Core.Path.{◌≡◌, ap, ◌∙◌}
use native.Mathlib.Omega.{arith}
use lib.Seq.{sets}
use Rattle.protocol.specs.Words.{value}
use Rattle.protocol.specs.Packet.{bytes_of, block_bytes}
use Rattle.protocol.proofs.Packet.Numbers.{le-length}
use Rattle.writer.proofs.Positions.{three-behind}
use Rattle.writer.proofs.BlockWritten.put.Goals as goal

pub returns : goal.returns
unfolding block_bytes
returns c =
    let a = c.args in
    let w = 8 + a.upper in
    let behind : a.at + (16 + 2 * a.upper) ≡ a.at + (w + w) = omega arith in
    three-behind w w a.at (bytes_of w (value a.self.number)) (bytes_of w (value a.self.parent)) (bytes_of 4 a.self.slot) a.buf.now c.put_number.new.buf c.put_number-2.new.buf c.put_word.new.buf
    (le-length w _) (le-length w _) c.put_number.ensures c.put_number-2.ensures (c.put_word.ensures ∙ ap (λ k. sets c.put_number-2.new.buf k (bytes_of 4 a.self.slot)) behind)
