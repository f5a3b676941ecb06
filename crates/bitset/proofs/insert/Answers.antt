-- `insert` meets its contract. Assumes nothing.
use Rattle.bitset.specs.Bitset.{inserted}
use Rattle.bitset.proofs.insert.Goals as goal

pub returns : goal.returns
unfolding inserted
returns c = rw c.with.ensures
