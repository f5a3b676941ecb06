-- `seek` meets its contract. Assumes nothing.
use native.Mathlib.Omega.{arith}
use Prim.Native.Nat.{ℕ, ◌<◌}
use mathlib.Core.List.{List}
use mathlib.Core.Path.{◌≡◌, refl, sym}
use Rattle.search_tree.specs.Tree.{Index, Descent}
use Rattle.search_tree.proofs.Descent.{descent-root, descent-row, descent-hit, descent-none}
use Rattle.index.specs.declared.Key.{Key}
use Rattle.index.specs.declared.Tree.{Tree}
use Rattle.index.specs.Keys.{same_key, shape}
use Rattle.index.proofs.Keys.{told_same}
use Rattle.index.proofs.Shapes.{roots-first}
use Rattle.index.proofs.seek.Goals as goal

-- the descent at its root
begins : {t u : Tree} {key : ℕ → Key} {n at : ℕ} {ls : List ℕ} {k : Key} → Index (shape u.roots u.salt) (λ y. y ≡ k) key n ls → t ≡ u
    → at ≡ (shape t.roots t.salt).root k → at < t.roots → Descent (shape u.roots u.salt) key n ls k at ((shape u.roots u.salt).first k)
begins {u = u} {n = n} {at = at} {k = k} x e a h =
    let l = rw e at h in
    descent-root x k refl at (rw e at a) refl (omega (arith, l, roots-first u.roots u.salt n))

pub returns-in_default : goal.returns-in_default
returns-in_default g c =
    descent-none c.requires.1 (begins c.requires.1 c.tree.ensures c.root-at.ensures.is c.root-at.ensures.among) (sym c.in_default.ensures)

pub key-requires : goal.key-requires
key-requires g c =
    let d = begins c.requires.1 c.tree.ensures c.root-at.ensures.is c.root-at.ensures.among in
    omega (arith, descent-row c.requires.1 d (sym c.in-Some.ensures), c.requires.0)

pub returns-then-eq : goal.returns-then-eq
unfolding same_key
returns-then-eq g c =
    let d = begins c.requires.1 c.tree.ensures c.root-at.ensures.is c.root-at.ensures.among in
    descent-hit c.requires.1 d (sym c.in-Some.ensures) (told_same c.eq.ensures c.key.ensures c.if-eq.true)
