-- `merge_verdict` meets its contract. Assumes nothing.
use Rattle.protocol.specs.Calls.Merge.{merge_tests}
use Rattle.verdicts.specs.Lent.{due_tests}
use Rattle.verdicts.proofs.merge_verdict.Goals as goal

pub returns : goal.returns
unfolding merge_tests due_tests
returns c = c.due_verdict.ensures
