-- `add_new` meets its contract. Assumes nothing.
use native.Mathlib.Omega.{arith}
use Prim.Native.Nat.{◌<◌}
use lib.ListN.{length}
use Rattle.protocol.specs.Packet.{packet_of}
use Rattle.rows.proofs.Width.{rows-most}
use Rattle.storing.proofs.Turns.{add_begin, add-marks, turn-old, turn-room, turn-new}
use Rattle.storing.proofs.Chosen.{late-added, early-left, known-left}
use Rattle.storing.proofs.add_new.Goals as goal
use Rattle.storing.proofs.add_new.Goals.{then-has+then-slot-from, then-has+else-slot-from, else-has}

pub loop-i-init : goal.loop-i-init
loop-i-init g c = add_begin g.met.E.Entry.codec _ _ _ (g.E.Entry.listed (packet_of c.args.bytes.now)) (omega (arith, c.requires.0)) c.requires.1

-- the number of the row fits a word: the rows are in the table, and a packet has fewer than 65,536 entries
pub overflow_add-before : goal.overflow_add-before
overflow_add-before g c = omega (arith, rows-most g.met.E.Entry.codec c.args.used.now, c.requires.0, c.count-i-end.ensures.1)

pub append-requires : goal.append-requires
append-requires g c = (
  turn-room g.met.E.Entry.codec _ _ _ (g.E.Entry.listed (packet_of c.args.bytes.now)) c.loop-i.i c.loop-i.invariant g.E.Entry.none (omega (arith, c.count-i-end.ensures.0))
      (late-added _ _ g.E.Entry.slot _ _ _ c.has.ensures c.at-entry.ensures c.slot.ensures c.if-has.true c.if-slot-from.true) c.requires.0 (omega arith),
  add-marks g.met.E.Entry.codec _ _ _ (g.E.Entry.listed (packet_of c.args.bytes.now)) c.loop-i.i c.loop-i.invariant,
)

pub loop-i-preserved : goal.loop-i-preserved
loop-i-preserved g c =
    let xs = g.E.Entry.listed (packet_of c.args.bytes.now) in
    let h : c.loop-i.i < length xs = omega (arith, c.count-i-end.ensures.0) in
    elim c.if-has.branch [
      | then-has+then-slot-from w ↦
          rw (w.words-is, w.used-is) (turn-new g.met.E.Entry.codec _ _ _ xs c.loop-i.i c.loop-i.invariant g.E.Entry.none h
          (late-added _ _ g.E.Entry.slot _ _ _ c.has.ensures w.at-entry.ensures w.slot.ensures w.if-has.true w.if-slot-from.true) w.at-entry.ensures
          w.append.ensures.0 w.append.ensures.1)
      | then-has+else-slot-from w ↦
          rw (w.words-is, w.used-is) (turn-old g.met.E.Entry.codec _ _ _ xs c.loop-i.i c.loop-i.invariant g.E.Entry.none h
          (early-left _ _ g.E.Entry.slot _ _ _ c.has.ensures w.at-entry.ensures w.slot.ensures w.if-slot-from.false))
      | else-has w ↦
          rw (w.words-is, w.used-is) (turn-old g.met.E.Entry.codec _ _ _ xs c.loop-i.i c.loop-i.invariant g.E.Entry.none h
          (known-left _ _ g.E.Entry.slot _ _ _ c.has.ensures w.if-has.false))
    ]
