-- `put_section` meets its contract: the entries go into the rest behind the count. Assumes nothing.
use Prim.Native.Nat.{ℕ, ◌+◌, ◌≤◌}
use mathlib.Core.List.{List}
use native.Mathlib.Omega.{arith}
use lib.ListN.{length}
use borrow.Author.Rules.{rules}
use Rattle.protocol.specs.Packet.{section}
use Rattle.writer.specs.Rows.{entries_bytes}
use Rattle.writer.proofs.Rows.{rest, section-size, section-lent}
use Rattle.writer.proofs.put_section.Goals as goal

-- the entries fit behind the count
room : {A : Type 0} (written : A → List ℕ) (xs : List A) (n : ℕ) → length (section written xs) ≤ n → 2 + length (entries_bytes written xs) ≤ n
room written xs n h = omega (arith, h, section-size written xs)

pub put_word-requires : goal.put_word-requires
put_word-requires g c = let h = room _ _ _ c.requires.1 in search rules

pub slice_bounds-put_entries-count : goal.slice_bounds-put_entries-count
slice_bounds-put_entries-count g c = let h = room _ _ _ c.requires.1 in search rules

pub slice_bounds-put_entries-start : goal.slice_bounds-put_entries-start
slice_bounds-put_entries-start g c = let h = room _ _ _ c.requires.1 in search rules

pub put_entries-requires : goal.put_entries-requires
put_entries-requires g c = let h = room _ _ _ c.requires.1 in search rules

pub overflow_add-result : goal.overflow_add-result
overflow_add-result g c = let h = room _ _ _ c.requires.1 in omega (arith, h, c.put_entries.ensures.0)

pub returns : goal.returns
returns g c =
    let written = g.E.Entry.bytes (8 + c.args.upper) in
    let xs = rest g.E.Entry.make c.args.proposal c.args.table.words.now c.args.table.used c.args.from in (
      omega (arith, section-size written xs, c.put_entries.ensures.0),
      section-lent written xs c.count_sent.result c.args.buf.now c.put_word.new.buf c.put_entries.new.buf c.count_sent.ensures (room _ _ _ c.requires.1) c.put_word.ensures c.put_entries.ensures.1,
    )
