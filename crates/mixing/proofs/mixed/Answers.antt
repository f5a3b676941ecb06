-- `mixed` meets its contract. Assumes nothing.
use Rattle.mixing.specs.Mixing.{mix, seeded}
use Rattle.mixing.proofs.mixed.Goals as goal

pub returns : goal.returns
unfolding mix seeded
returns c = cc
