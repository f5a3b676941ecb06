-- `base` meets its contract. Assumes nothing.
use Rattle.fork_choice.proofs.SoundTables.{base-number}
use Rattle.fork_choice.proofs.base.Goals as goal

pub returns : goal.returns
returns c = base-number _ _ _ _ _ _ _ c.heaviest.ensures
