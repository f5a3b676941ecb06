-- The loop of `put_entries`: its invariant. Assumes nothing.
use Prim.Native.Nat.{ℕ, ◌+◌}
use mathlib.Core.Path.{◌≡◌}
use mathlib.Core.List.{List}
use lib.ListN.{length}
use lib.Seq.{sets}
use Rattle.writer.specs.Rows.{entries_bytes}
use Rattle.writer.proofs.Rows.{rest}
use Rattle.writer.proofs.put_entries.Given as goal

abbrev pub invariant-loop-i : goal.invariant-loop-i
invariant-loop-i g l =
    let bytes : ℕ → List ℕ = λ k. entries_bytes (g.E.Entry.bytes (8 + l.upper)) (rest g.E.Entry.make l.proposal l.table.words.now l.table.used k) in
    record {
      size : length l.buf ≡ length l.initial.buf;
      left : l.at + length (bytes l.i) ≡ length (bytes l.from);
      same : sets l.initial.buf 0 (bytes l.from) ≡ sets l.buf l.at (bytes l.i);
    }
