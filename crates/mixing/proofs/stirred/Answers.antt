-- `stirred` meets its contract. Assumes nothing.
use Rattle.mixing.specs.Mixing.{stir}
use Rattle.mixing.proofs.stirred.Goals as goal

pub returns : goal.returns
unfolding stir
returns c = cc
