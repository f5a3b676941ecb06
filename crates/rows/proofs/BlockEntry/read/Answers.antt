-- `read` of a block meets its contract. Assumes nothing.
use mathlib.Core.Path.{refl}
use Rattle.numbers.specs.NumberWords.{number_in}
use Rattle.rows.proofs.BlockEntry.read.Goals as goal

pub returns : goal.returns
unfolding number_in
returns c = rw (c.kept_at.ensures, c.kept_at-2.ensures) refl
