-- `has` meets its contract. Assumes nothing.
use Rattle.bitset.specs.Bitset.{in_set}
use Rattle.bitset.proofs.has.Goals as goal

pub returns : goal.returns
unfolding in_set
returns c = c.has.ensures
