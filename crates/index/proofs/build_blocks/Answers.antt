-- `build_blocks` meets its contract. Assumes nothing.
use mathlib.Core.Path.{◌∙◌}
use Rattle.index.proofs.Tables.{numbers-differ}
use Rattle.index.proofs.build_blocks.Goals as goal

pub returns : goal.returns
returns c = (c.build.ensures.0 ∙ numbers-differ _ _, c.build.ensures.1)
