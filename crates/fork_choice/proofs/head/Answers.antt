-- `head` meets its contract. Assumes nothing.
use Rattle.fork_choice.proofs.SoundTables.{head-number}
use Rattle.fork_choice.proofs.head.Goals as goal

pub returns : goal.returns
returns c = head-number _ _ _ _ _ _ _ c.heaviest.ensures
