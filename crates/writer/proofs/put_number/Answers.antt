-- `put_number` meets its contract. Assumes nothing.
use native.Mathlib.Omega.{arith}
use Rattle.writer.proofs.Positions.{halves-behind}
use Rattle.writer.proofs.put_number.Goals as goal

pub returns : goal.returns
returns c =
    let a = c.args in
    halves-behind a.n.lower a.n.upper a.upper a.at a.buf.now c.put_word.new.buf c.put_word-2.new.buf (omega arith) c.put_word.ensures c.put_word-2.ensures
