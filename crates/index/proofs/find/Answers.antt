-- `find` meets its contract. Assumes nothing.
use Rattle.index.proofs.find.Goals as goal

pub returns : goal.returns
returns g c = c.seek.ensures.linked
