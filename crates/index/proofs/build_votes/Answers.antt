-- `build_votes` meets its contract. Assumes nothing.
use mathlib.Core.Path.{◌∙◌}
use Rattle.index.proofs.Tables.{votes-differ}
use Rattle.index.proofs.build_votes.Goals as goal

pub returns : goal.returns
returns c = (c.build.ensures.0 ∙ votes-differ _ _, c.build.ensures.1)
