-- Keys that are compared. Assumes nothing.
use mathlib.Core.Bool.{Bool, true, false}
use mathlib.Core.Path.{◌≡◌, refl, ap, sym, ◌∙◌}
use borrow.Author.Tests.{eqb-true, eq-eqb}
use lib.Dec.{eqb}
use Rattle.protocol.proofs.Basics.Tests.{both, and_left, and_right, clashing}
use Rattle.index.specs.declared.Key.{Key}
use Rattle.index.specs.Keys.{same_key}

pub key-same : (x y : Key) → same_key x y ≡ true → x ≡ y
unfolding same_key
key-same x y e =
    let p : x.a ≡ y.a = eqb-true x.a y.a (and_left _ _ e) in
    let f = and_right (eqb x.a y.a) _ e in
    let q : x.b ≡ y.b = eqb-true x.b y.b (and_left _ _ f) in
    let g = and_right (eqb x.b y.b) _ f in
    let r : x.c ≡ y.c = eqb-true x.c y.c (and_left _ _ g) in
    let s : x.d ≡ y.d = eqb-true x.d y.d (and_right (eqb x.c y.c) _ g) in
    λ i. record { a = p i; b = q i; c = r i; d = s i }

pub same_key_lem : (x y : Key) → x ≡ y → same_key x y ≡ true
unfolding same_key
same_key_lem x y e =
    ap (same_key x) (sym e)
    ∙ both (eq-eqb x.a x.a refl) (both (eq-eqb x.b x.b refl) (both (eq-eqb x.c x.c refl) (eq-eqb x.d x.d refl)))

-- two keys were compared
module _ {x y z : Key} {b : Bool} (e : b ≡ same_key x y) (s : x ≡ z) where
  pub told_same : b ≡ true → z ≡ y
  told_same t = sym s ∙ key-same x y (sym e ∙ t)

  pub told_other : b ≡ false → z ≡ y → ⊥
  told_other f g = clashing (e ∙ same_key_lem x y (s ∙ g)) f
