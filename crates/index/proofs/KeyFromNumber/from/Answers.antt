-- `from` meets its contract. Assumes nothing.
use native.Mathlib.Omega.{arith}
use Prim.Native.Nat.{◌^◌, ◌<◌}
use mathlib.Core.Path.{sym}
use Rattle.protocol.proofs.Words.{lower-join, upper-join}
use Rattle.index.proofs.KeyFromNumber.from.Goals as goal

pub returns : goal.returns
returns c =
    let n = c.args.number in
    let h : n.lower < 2 ^ 64 = omega (arith, c.well_formed) in
    let l = sym (lower-join n.lower n.upper h) in
    let u = sym (upper-join n.lower n.upper h) in
    λ i. record { a = l i; b = l i; c = l i; d = u i }
