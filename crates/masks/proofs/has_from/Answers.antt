-- `has_from` meets its contract. Assumes nothing.
use borrow.Author.Tests.{le-ltb}
use mathlib.Core.Path.{◌∙◌}
use Rattle.masks.proofs.Masks.{from-word, from-none}
use Rattle.masks.proofs.has_from.Goals as goal

pub returns-then-n-lt64 : goal.returns-then-n-lt64
returns-then-n-lt64 c = from-word c.args.n c.args.mask

pub returns-else-n-lt64 : goal.returns-else-n-lt64
returns-else-n-lt64 c = le-ltb c.args.n 64 c.if-n-lt64.false ∙ from-none _ _ c.ranges.mask.fits c.if-n-lt64.false
