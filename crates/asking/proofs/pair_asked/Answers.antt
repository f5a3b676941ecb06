-- `asking::pair_asked` meets its contract. Assumes nothing.
use Rattle.asking.specs.AskPackets.{pair_with}
use Rattle.asking.proofs.pair_asked.Goals as goal

pub returns : goal.returns
unfolding pair_with
returns c = c.asked_two.ensures
