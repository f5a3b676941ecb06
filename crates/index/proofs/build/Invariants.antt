-- The loop of `build`: its invariant. Assumes nothing.
use mathlib.Core.Path.{◌≡◌}
use Rattle.search_tree.specs.Tree.{Index}
use Rattle.index.specs.Keys.{shape}
use Rattle.index.specs.Index.{keys_differ}
use Rattle.index.proofs.build.Given as goal

abbrev pub invariant-loop-i : goal.invariant-loop-i
invariant-loop-i g l =
    (l.differ ≡ keys_differ (g.K.Keyed.keys l.keys) l.i)
    × Index (shape (g.K.Keyed.tree l.keys).roots (g.K.Keyed.tree l.keys).salt) (λ k. Unit) (g.K.Keyed.keys l.keys) l.i l.links
