-- `asking::fit_asked` meets its contract. Assumes nothing.
use Rattle.asking.specs.AskPackets.{fit_with}
use Rattle.asking.proofs.fit_asked.Goals as goal

pub returns : goal.returns
unfolding fit_with
returns c = c.asked_two.ensures
