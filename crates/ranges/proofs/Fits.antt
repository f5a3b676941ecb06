-- As many rows as words have places for fit into them. Assumes nothing.
use Prim.Native.Nat.{ℕ, ◌*◌, ◌/◌, ◌%◌, ◌≤◌, ◌<◌}
use mathlib.Core.Bool.{Bool, true, false, cond}
use mathlib.Core.List.{List}
use native.Mathlib.Nat.{mul-le-mul_left}
use native.Mathlib.Omega.{arith}
use lib.Dec.{eqb}
use lib.ListN.{length}
use Rattle.protocol.specs.Lent.{places_in}

pub places-fit : (w : ℕ) (ws : List ℕ) (n : ℕ) → 0 < w → n ≤ places_in w ws → w * n ≤ length ws
unfolding places_in
places-fit w ws n p h = go (eqb (length ws % w) 0) h
  where
    go : (b : Bool) → n ≤ cond b (length ws / w) 0 → w * n ≤ length ws
    go true l = omega (arith, mul-le-mul_left w l)
    go false l = omega (arith, mul-le-mul_left w l)
