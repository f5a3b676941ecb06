-- `digits` meets its contract. Assumes nothing.
use borrow.Author.Tests.{eq-eqb}
use mathlib.Core.Path.{◌∙◌}
use Rattle.index.specs.Keys.{mix_of}
use Rattle.index.proofs.Tree.digits.Goals as goal

pub returns-then-self-eq0 : goal.returns-then-self-eq0
unfolding mix_of
returns-then-self-eq0 c = c.mixed.ensures ∙ rw (eq-eqb _ _ c.if-self-eq0.true)
