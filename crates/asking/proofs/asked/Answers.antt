-- `asking::asked` meets its contract. Assumes nothing.
use Rattle.asking.specs.Ask.{ask_with}
use Rattle.asking.proofs.asked.Goals as goal

pub returns : goal.returns
unfolding ask_with
returns c = c.asked_after.ensures
