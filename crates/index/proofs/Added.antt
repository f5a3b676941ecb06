-- What a row that has joined leaves: an index with it, and a link to the first row of its key. Assumes nothing.
use Prim.Native.Nat.{ℕ, ◌+◌, ◌≤◌}
use mathlib.Core.Bool.{Bool, true, false, cond}
use mathlib.Core.List.{List}
use mathlib.Core.Path.{◌≡◌, refl}
use borrow.Author.Tests.{eqb-true, eqb-false}
use lib.Dec.{eqb}
use lib.ListN.{length, set}
use Rattle.search_tree.specs.Tree.{Shape, links_of, Index, Points}
use Rattle.search_tree.proofs.Tree.{index-old, index-new}
use Rattle.index.specs.declared.Key.{Key}
use Rattle.index.specs.Index.{Added}

module _ {w : Shape Key ℕ} {wanted : Key → Type 0} {key : ℕ → Key} {n : ℕ} {old new : List ℕ} {link : ℕ} where
  pub added-index : Added w key n old new link → links_of w (n + 1) ≤ length old → Index w wanted key n old → Index w wanted key (n + 1) new
  added-index a h x = rw a.links (go (eqb link 0) refl)
    where
      go : (b : Bool) → eqb link 0 ≡ b → Index w wanted key (n + 1) (cond b (set old a.at (n + 1)) old)
      go true e = index-new x h refl a.sought (eqb-true link 0 e)
      go false e = index-old x h refl a.sought (eqb-false link 0 e)

pub added-points : {w : Shape Key ℕ} {key : ℕ → Key} {n : ℕ} {old new : List ℕ} {link : ℕ} → Added w key n old new link → Points key n (key n) link
added-points a = a.sought.linked
