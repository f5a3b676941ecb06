-- No profile's limits are above a loom's, and what is shorter than a packet that is not too long is not too long either. Assumes nothing.
use Prim.Native.Nat.{ℕ, ◌≤◌}
use mathlib.Core.Path.{◌≡◌, refl}
use mathlib.Core.Bool.{false}
use native.Mathlib.Omega.{arith}
use borrow.Author.Tests.{ltb-false, le-ltb}
use Rattle.protocol.specs.declared.Profile.{Profile}
use Rattle.protocol.specs.declared.Profile.TheVariants.{Loom, Rack}
use Rattle.protocol.specs.Limits.{loom, limits_of}

pub record WithinLoom (p : Profile) : Type 0 where
  pub nodes : (limits_of p).nodes ≤ loom.nodes
  pub blocks : (limits_of p).blocks ≤ loom.blocks
  pub votes : (limits_of p).votes ≤ loom.votes

pub within-loom : (p : Profile) → WithinLoom p
unfolding limits_of
within-loom Loom = record { nodes = omega arith; blocks = omega arith; votes = omega arith }
within-loom Rack = record { nodes = omega arith; blocks = omega arith; votes = omega arith }

pub shorter : (p : Profile) (a b : ℕ) → a ≤ b → (limits_of p).too_long b ≡ false → (limits_of p).too_long a ≡ false
unfolding limits_of
shorter Loom a b l e = refl
shorter Rack a b l e = le-ltb 4096 a (omega (arith, ltb-false 4096 b e))
