-- The loop of `descend`: its invariant and its measure. Assumes nothing.
use Prim.Native.Nat.{◌-◌}
use Rattle.search_tree.specs.Tree.{links_of, Descent}
use Rattle.index.specs.Keys.{shape}
use Rattle.index.proofs.descend.Given as goal

abbrev pub invariant-loop-row : goal.invariant-loop-row
invariant-loop-row g l = Descent (shape (g.K.Keyed.tree l.keys).roots (g.K.Keyed.tree l.keys).salt) (g.K.Keyed.keys l.keys) l.n l.links l.key l.at l.digits

abbrev pub decreases-loop-row : goal.decreases-loop-row
decreases-loop-row g l = links_of (shape (g.K.Keyed.tree l.keys).roots (g.K.Keyed.tree l.keys).salt) l.n - l.at
