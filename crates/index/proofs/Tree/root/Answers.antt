-- `root` meets its contract. Assumes nothing.
use borrow.Author.Tests.{eq-eqb, ne_eqb}
use Rattle.index.specs.Keys.{low_root, mix_of}
use Rattle.index.proofs.Tree.root.Goals as goal

pub returns-then-self-eq0-clause-is : goal.returns-then-self-eq0-clause-is
unfolding low_root
returns-then-self-eq0-clause-is c = rw (eq-eqb _ _ c.if-self-eq0.true)

pub returns-clause-is : goal.returns-clause-is
unfolding mix_of
returns-clause-is c = rw (ne_eqb _ _ c.if-self-eq0.false, c.mixed.ensures)
