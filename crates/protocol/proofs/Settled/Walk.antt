-- The walk with a margin ends at the settled block. Assumes nothing.
use Prim.Native.Nat.{ℕ, suc, ◌≤◌, ◌<◌}
use mathlib.Core.Path.{◌≡◌, refl, sym, ap, ◌∙◌}
use mathlib.Core.Logic.{◌⊎◌, inl, inr}
use mathlib.Core.Bool.{Bool, true, false}
use mathlib.Core.List.{List}
use native.Mathlib.Omega.{arith}
use lib.Dec.{eqb, ltb}
use borrow.Author.Tests.{eqb-true, eqb-false, ltb-true, ltb-false}
use Rattle.protocol.specs.Entry.{Block, Vote}
use Rattle.protocol.specs.Chain.{genesis}
use Rattle.protocol.specs.Filters.{Choice, chosen, nothing, kept_choice}
use Rattle.protocol.specs.Walk.{count_below, walk_in}
use Rattle.protocol.specs.Settled.{Filling, filled_head, settled_block, Certain}
use Rattle.protocol.specs.SettledWalk.{heard_at, settled_walk}
use Rattle.protocol.proofs.Chain.Above.{above-trans, above-split, above-compare, siblings-apart, above-true, above_holds}
use Rattle.protocol.proofs.Chain.Relations.{In, Known, Sound, Above, here}
use Rattle.protocol.proofs.Confirm.Height.{height-above}
use Rattle.protocol.proofs.Walk.Best.{child-above, walk_in-is, walk_of, walk-above}
use Rattle.protocol.proofs.Walk.Relations.{IsChild, Beats, IsBest, Walk, stop, step}
use Rattle.protocol.proofs.Settled.Relations.{Safe, Rival, Margin, leaf, halt, onward}
use Rattle.protocol.proofs.Settled.Margin.{margin-is, margin-known}
use Rattle.protocol.proofs.Settled.Every.{filler-block}
use Rattle.protocol.proofs.Settled.Farthest.{silence, farthest-one}
use Rattle.protocol.proofs.Settled.Weights.{heard, after, after-least, after-most, after-late, all-on, all-beside}

-- where the walk with a margin stops
margin-end : {w : ℕ → ℕ} {k : ℕ} {bs : List Block} {t r a : ℕ} → Margin w k bs t r a
    → ((d : Block) → In d bs → IsChild (suc t) r d → ⊥) ⊎ ((c : Block) × (d : Block) × IsBest w bs (suc t) r c × Rival w k bs t r c d)
margin-end (leaf e x) = inl (rw e at x)
margin-end (halt e c d p q) = inr (c, d, rw e at p, rw e at q)
margin-end (onward c p s u) = margin-end u

module _ {bs : List Block} (S : Sound bs) (n t : ℕ) (silent : ℕ → Bool) (k : ℕ → Choice) where
  -- a best child without a rival is the best child for every filling
  safe-best : (f : ℕ → Choice) → Filling bs t n silent f → {a : ℕ} (c : Block)
      → IsBest (heard S n t silent k) bs (suc t) a c → Safe (heard S n t silent k) (count_below silent n) bs t a c → IsBest (after S n t silent k f) bs (suc t) a c
  safe-best f fit {a} c p s = record { mem = p.mem; child = p.child; top = λ d m h. same d m h (eqb d.number c.number) refl }
    where
      low : heard S n t silent k c.number ≤ after S n t silent k f c.number
      low = after-least S n t silent k f c.number

      late : (d : Block) → In d bs → IsChild (suc t) a d → (d.number ≡ c.number → ⊥) → (b : Bool) → ltb d.slot t ≡ b → Beats (after S n t silent k f) c d
      late d m h ne true q =
          let o = s d m (record { late = h.late; under = h.under; early = ltb-true d.slot t q }) ne in
          let u = after-most S n t silent k f d.number in
          (omega (arith, low, u, o.0), λ e. o.1 (omega (arith, low, u, o.0)))
      late d m h ne false q =
          let o = p.top d m h in
          let u = after-late S n t silent k f fit d m (ltb-false d.slot t q) in
          let l = after-least S n t silent k f d.number in
          (omega (arith, low, u, o.0), λ e. o.1 (omega (arith, low, u, l, o.0)))

      same : (d : Block) → In d bs → IsChild (suc t) a d → (b : Bool) → eqb d.number c.number ≡ b → Beats (after S n t silent k f) c d
      same d m h true q =
          let e : d.number ≡ c.number = eqb-true d.number c.number q in
          let g : after S n t silent k f d.number ≡ after S n t silent k f c.number = ap (after S n t silent k f) e in
          (omega (arith, g), λ o. omega (arith, e))
      same d m h false q = late d m h (eqb-false d.number c.number q) (ltb d.slot t) refl

  -- so the head's walk goes where the walk with a margin goes, and on from there
  margin-walk : (f : ℕ → Choice) → Filling bs t n silent f → {h r a : ℕ} → Margin (heard S n t silent k) (count_below silent n) bs t r a
      → Walk (after S n t silent k f) bs (suc t) h r → Walk (after S n t silent k f) bs (suc t) h a
  margin-walk f fit (leaf e x) u = rw (sym e) at u
  margin-walk f fit (halt e c d p q) u = rw (sym e) at u
  margin-walk f fit (onward c p s o) u = step c (safe-best f fit c p s) (margin-walk f fit o u)

  -- with all silent voters on the rival d, the walk goes to another child than c
  turns : {h r : ℕ} (c d : Block) → IsBest (heard S n t silent k) bs (suc t) r c → Rival (heard S n t silent k) (count_below silent n) bs t r c d
      → Walk (after S n t silent k (λ v. chosen d.number)) bs (suc t) h r
      → (e : Block) × In e bs × IsChild (suc t) r e × (c.number ≡ e.number → ⊥) × Above bs e.number h
  turns c d p q (stop e x) = absurd (x d q.mem (record { late = q.child.late; under = q.child.under; early = omega (arith, q.child.early) }))
  turns c d p q (step e b u) = (e, b.mem, b.child, other, walk-above u)
    where
      other : c.number ≡ e.number → ⊥
      other y =
          let w : Beats (after S n t silent k (λ v. chosen d.number)) c d = rw (sym y) at (b.top d q.mem (record { late = q.child.late; under = q.child.under; early = omega (arith, q.child.early) })) in
          let i = all-on S n t silent k d in
          let j = all-beside S n t silent k c d p.mem q.mem p.child.late q.child.late (p.child.under ∙ sym q.child.under) (λ z. q.other (sym z)) in
          let l = w.1 (omega (arith, w.0, i, j, q.heavy)) in
          let m = q.tie (omega (arith, w.0, i, j, q.heavy)) in
          q.other (omega (arith, l, m))

-- below both heads, which part after r: at or below r
parted : {bs : List Block} → Sound bs → {b r g h : ℕ} (t : ℕ) (c e : Block) → In c bs → In e bs → IsChild t r c → IsChild t r e → (c.number ≡ e.number → ⊥)
    → Above bs c.number g → Above bs e.number h → Above bs b g → Above bs b h → Above bs b r
parted {bs} S {b} {r} {g} {h} t c e m n i j ne x y p q = at (above-compare S (above-trans x (child-above c m i)) p)
  where
    on : (b ≡ r) ⊎ ((d : Block) × In d bs × (d.parent ≡ r) × (0 < d.number) × Above bs d.number b) → Above bs b r
    on (inl z) = here (sym z)
    on (inr (d, o, u, z, s)) =
        let v = siblings-apart S d c o m z i.late (u ∙ sym i.under) (above-trans p s) x in
        let w = siblings-apart S d e o n z j.late (u ∙ sym j.under) (above-trans q s) y in
        absurd (ne (sym v ∙ w))

    at : Above bs r b ⊎ Above bs b r → Above bs b r
    at (inl s) = on (above-split s)
    at (inr s) = s

module _ {bs : List Block} (S : Sound bs) (vs : List Vote) (n E t : ℕ) (silent : ℕ → Bool) where
  abbrev votes : ℕ → Choice
  votes v = kept_choice vs E t v

  ends : Margin (heard S n t silent votes) (count_below silent n) bs t (settled_walk bs vs n E t silent) 0
  unfolding settled_walk heard_at
  ends = margin-is (heard S n t silent votes) (count_below silent n) S t

  ends-known : Known bs (settled_walk bs vs n E t silent)
  ends-known = margin-known (genesis, S.start, refl) ends

  -- a walk from there with a filling's weights ends at the filling's head
  head_at : (f : ℕ → Choice) → Filling bs t n silent f → {h : ℕ} → Walk (after S n t silent votes f) bs (suc t) h (settled_walk bs vs n E t silent)
      → filled_head bs vs n E t silent f ≡ h
  unfolding filled_head
  head_at f fit u = walk_of (after S n t silent votes f) S (suc t) (margin-walk S n t silent votes f fit ends u)

  walk_from : (f : ℕ → Choice) (c : Block) → In c bs → Walk (after S n t silent votes f) bs (suc t) (walk_in (after S n t silent votes f) bs (suc t) (suc t) c.number) c.number
  walk_from f c m = walk_in-is (after S n t silent votes f) S (suc t) (suc t) c.number c m refl (omega arith)

  -- it is on the head's chain for every filling
  ends-certain : Certain bs vs n E t silent (settled_walk bs vs n E t silent)
  ends-certain f fit =
      let r = ends-known in
      let u = rw r.2 at (walk_from f r.0 r.1) in
      above_holds S (rw (head_at f fit u) (walk-above u))

  -- what is on the head's chain for every filling is at or below it
  certain-below : (b : ℕ) → Certain bs vs n E t silent b → Above bs b (settled_walk bs vs n E t silent)
  certain-below b x = at (margin-end ends)
    where
      on : (f : ℕ → Choice) → Filling bs t n silent f → {h : ℕ} → Walk (after S n t silent votes f) bs (suc t) h (settled_walk bs vs n E t silent) → Above bs b h
      on f fit u = rw (head_at f fit u) at (above-true S (filled_head bs vs n E t silent f) b (x f fit))

      at : ((d : Block) → In d bs → IsChild (suc t) (settled_walk bs vs n E t silent) d → ⊥)
          ⊎ ((c : Block) × (d : Block) × IsBest (heard S n t silent votes) bs (suc t) (settled_walk bs vs n E t silent) c × Rival (heard S n t silent votes) (count_below silent n) bs t (settled_walk bs vs n E t silent) c d)
          → Above bs b (settled_walk bs vs n E t silent)
      at (inl y) = on (λ v. nothing) (silence S vs n E t silent) (stop refl y)
      at (inr (c, d, p, q)) =
          let u = walk_from (λ v. nothing) c p.mem in
          let r = ends-known in
          let y = rw r.2 at (walk_from (λ v. chosen d.number) r.0 r.1) in
          let e = turns S n t silent votes c d p q y in
          parted S (suc t) c e.0 p.mem e.1 p.child e.2 e.3 (walk-above u) e.4
          (on (λ v. nothing) (silence S vs n E t silent) (step c p u)) (on (λ v. chosen d.number) (λ v l s. filler-block t bs d q.mem q.child.early) y)

  -- the walk finds what the request asks for
  pub settled-walk : settled_walk bs vs n E t silent ≡ settled_block bs vs n E t silent
  settled-walk =
      farthest-one S vs n E t silent (settled_walk bs vs n E t silent)
      (record { certain = ends-certain; top = λ b x. height-above S (certain-below b x) })
