-- `from` meets its contract. Assumes nothing.
use native.Mathlib.Omega.{arith}
use Prim.Native.Nat.{◌^◌, ◌<◌}
use mathlib.Core.Path.{sym}
use Rattle.protocol.proofs.Words.{lower-join, upper-join}
use Rattle.index.proofs.KeyFromVote.from.Goals as goal

pub returns : goal.returns
returns c =
    let v = c.args.vote in
    let h : v.number.lower < 2 ^ 64 = omega (arith, c.well_formed) in
    let l = sym (lower-join v.number.lower v.number.upper h) in
    let u = sym (upper-join v.number.lower v.number.upper h) in
    λ i. record { a = l i; b = v.slot; c = v.voter; d = u i }
