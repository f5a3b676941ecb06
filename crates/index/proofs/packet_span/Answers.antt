-- `packet_span` meets its contract. Assumes nothing.
use borrow.Author.Tests.{eq-eqb, ne_eqb}
use native.Mathlib.Omega.{arith}
use Prim.Native.Nat.{ℕ, ◌+◌, ◌*◌}
use mathlib.Core.Bool.{Bool, cond}
use mathlib.Core.Path.{◌≡◌, ap, sym, ◌∙◌}
use Rattle.index.proofs.packet_span.Goals as goal

abbrev span : ℕ → Bool → ℕ
span n b = 16384 + cond b 2 1 * n

pub returns-then-salt-eq0 : goal.returns-then-salt-eq0
returns-then-salt-eq0 c =
    let a = c.args in
    (ap (span a.count) (sym (eq-eqb a.salt 0 c.if-salt-eq0.true)), omega (arith, c.requires.1 c.if-salt-eq0.true))

pub returns : goal.returns
returns c =
    let a = c.args in
    let z : 16384 + a.count ≡ 16384 + 1 * a.count = omega arith in
    (z ∙ ap (span a.count) (sym (ne_eqb a.salt 0 c.if-salt-eq0.false)), omega (arith, c.requires.0))
