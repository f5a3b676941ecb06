-- `ranks_before` meets its contract. Assumes nothing.
use native.Mathlib.Omega.{arith}
use Rattle.protocol.specs.Equivocation.{ranks_before}
use Rattle.equivocation.proofs.ranks_before.Goals as goal

pub returns : goal.returns
unfolding ranks_before
returns c = grind (arith, c.lt.ensures)
