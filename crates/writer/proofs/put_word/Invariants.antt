-- The loop of `put_word`: its invariant. Assumes nothing.
use Prim.Native.Nat.{◌+◌, ◌-◌}
use mathlib.Core.Path.{◌≡◌}
use lib.ListN.{length}
use lib.Seq.{sets}
use Rattle.protocol.specs.Packet.{bytes_of}
use Rattle.writer.proofs.put_word.Given as goal

abbrev pub invariant-loop-i : goal.invariant-loop-i
invariant-loop-i l = record { size : length l.buf ≡ length l.initial.buf; same : sets l.initial.buf l.at (bytes_of l.width l.n) ≡ sets l.buf (l.at + l.i) (bytes_of (l.width - l.i) l.rest) }
