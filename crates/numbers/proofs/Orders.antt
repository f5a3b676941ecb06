-- Two numbers compared by their fields, the upper half first, are compared as the numbers that they are. Assumes nothing.
use Prim.Native.Nat.{◌^◌, ◌<◌}
use mathlib.Core.Bool.{◌&&◌}
use mathlib.Core.Path.{◌≡◌}
use native.Mathlib.Omega.{arith}
use lib.Dec.{eqb, ltb}
use Rattle.std.specs.Ordering.{partial_lt}
use Rattle.protocol.specs.declared.Number.{Number}
use Rattle.protocol.specs.contracts.NumberPartialOrd.TheImpl as order
use Rattle.protocol.specs.Words.{from_halves, value}

module _ (a b : Number) (h : a.lower < 2 ^ 64) (l : b.lower < 2 ^ 64) where
  -- `a == b`, as derived
  pub same_lem : (eqb a.upper b.upper && eqb a.lower b.lower) ≡ eqb (value a) (value b)
  unfolding from_halves
  same_lem = grind arith

  -- `a < b`, as derived
  pub below_lem : partial_lt order.partial_cmp-value.it a b ≡ ltb (value a) (value b)
  unfolding from_halves
  below_lem = grind arith
