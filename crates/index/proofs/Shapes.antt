-- Where the links of rows stand. Assumes nothing.
use Prim.Native.Nat.{ℕ, ◌+◌, ◌*◌, ◌%◌, ◌≤◌, ◌<◌}
use mathlib.Core.Bool.{Bool, true, false, cond}
use mathlib.Core.Path.{◌≡◌}
use native.Mathlib.Omega.{arith}
use lib.Dec.{eqb}
use Rattle.search_tree.specs.Tree.{links_of, child}
use Rattle.index.specs.Keys.{shape, packet_shape}

-- the links of n rows, by whether each has two
abbrev span : ℕ → Bool → ℕ → ℕ
span roots b n = roots + cond b 2 1 * n

module _ (roots salt : ℕ) where
  -- a row's links are among those of n rows, if it is one of them
  pub row-within : (p n : ℕ) → p < n → links_of (shape roots salt) (p + 1) ≤ links_of (shape roots salt) n
  row-within p n h = go (eqb salt 0)
    where
      go : (b : Bool) → span roots b (p + 1) ≤ span roots b n
      go true = omega arith
      go false = omega arith

  -- the roots come first
  pub roots-first : (n : ℕ) → roots ≤ links_of (shape roots salt) n
  roots-first n = go (eqb salt 0)
    where
      go : (b : Bool) → roots ≤ span roots b n
      go true = omega arith
      go false = omega arith

  -- the link by which a descent goes on is one of the row's
  pub child-within : (p s : ℕ) → (links_of (shape roots salt) p ≤ child (shape roots salt) p s) × (child (shape roots salt) p s < links_of (shape roots salt) (p + 1))
  child-within p s = go (eqb salt 0)
    where
      go : (b : Bool) → (span roots b p ≤ span roots b p + cond b (s % 2) 0) × (span roots b p + cond b (s % 2) 0 < span roots b (p + 1))
      go true = (omega arith, omega arith)
      go false = (omega arith, omega arith)

-- the link by which a descent goes on from row p is one of those of n rows, and stands past those before p's
module _ (roots salt p n s : ℕ) {at : ℕ} (h : p < n) (e : at ≡ child (shape roots salt) p s) where
  pub past : links_of (shape roots salt) p ≤ at
  past = omega (arith, e, (child-within roots salt p s).0)

  pub below : at < links_of (shape roots salt) n
  below = omega (arith, e, (child-within roots salt p s).1, row-within roots salt p n h)

-- the same of a packet's entries
pub links-within : (salt p n : ℕ) → p < n → links_of (packet_shape salt) (p + 1) ≤ links_of (packet_shape salt) n
links-within salt p n h = row-within 16384 salt p n h

-- the roots alone are among the links of some entries
pub first-links : (salt : ℕ) {m : ℕ} (n : ℕ) → m ≡ links_of (packet_shape salt) n → links_of (packet_shape salt) 0 ≤ m
first-links salt {m} n e = go (eqb salt 0) e
  where
    go : (b : Bool) → m ≡ span 16384 b n → span 16384 b 0 ≤ m
    go true e = omega arith
    go false e = omega arith
