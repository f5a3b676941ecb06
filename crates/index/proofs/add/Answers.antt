-- `add` meets its contract. Assumes nothing.
use Rattle.index.proofs.Added.{added-points, added-index}
use Rattle.index.proofs.add.Goals as goal

pub returns : goal.returns
returns g c = (added-points c.join.ensures, added-index c.join.ensures c.requires.1.1 c.requires.2)
