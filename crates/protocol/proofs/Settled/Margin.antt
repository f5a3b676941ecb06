-- The walk with a margin that computes is the one of the relation. Assumes nothing.
use Prim.Native.Nat.{ℕ, zero, suc, ◌+◌, ◌≤◌, ◌<◌}
use mathlib.Core.Path.{◌≡◌, refl, sym, ap, ◌∙◌}
use mathlib.Core.Logic.{◌⊎◌, inl, inr}
use mathlib.Core.Bool.{Bool, true, false, not, ◌&&◌, ◌||◌}
use mathlib.Core.List.{List}
use native.Mathlib.Omega.{arith}
use lib.Dec.{eqb, ltb}
use borrow.Author.Tests.{eqb-false, ne_eqb, eq-eqb, ltb-true, ltb-false, not-true}
use Rattle.protocol.specs.Entry.{Block}
use Rattle.protocol.specs.Chain.{Lookup, found, missing, genesis}
use Rattle.protocol.specs.Walk.{is_child, best_child}
use Rattle.protocol.specs.SettledWalk.{overtakes, rivalled, margin_go, margin_step, margin_in, margin_walk}
use Rattle.protocol.proofs.Basics.Members.{any-true, any-holds}
use Rattle.protocol.proofs.Basics.Tests.{facts, both, and_left, and_right, either, or_left, or_right, clashing, not-passes}
use Rattle.protocol.proofs.Chain.Relations.{In, Known, Sound}
use Rattle.protocol.proofs.Walk.Best.{BestIs, best-is, child-true, child-holds, child-later}
use Rattle.protocol.proofs.Walk.Relations.{IsChild, IsBest}
use Rattle.protocol.proofs.Settled.Relations.{Leads, Safe, Rival, Margin, leaf, halt, onward}

module _ (w : ℕ → ℕ) (k : ℕ) (c d : Block) where
  -- the two ways in which d may go before c
  abbrev more : Bool
  more = ltb (w c.number) (w d.number + k)

  abbrev even : Bool
  even = eqb (w c.number) (w d.number + k) && ltb d.number c.number

  pub overtakes-true : overtakes w k d c ≡ true → (d.number ≡ c.number → ⊥) × (w c.number ≤ w d.number + k) × (w d.number + k ≡ w c.number → d.number ≤ c.number)
  unfolding overtakes
  overtakes-true e = (other, (at (either more even (and_right (not (eqb d.number c.number)) _ e))).0, (at (either more even (and_right (not (eqb d.number c.number)) _ e))).1)
    where
      other : d.number ≡ c.number → ⊥
      other = eqb-false d.number c.number (not-true (eqb d.number c.number) (and_left (not (eqb d.number c.number)) _ e))

      at : (more ≡ true) ⊎ (even ≡ true) → (w c.number ≤ w d.number + k) × (w d.number + k ≡ w c.number → d.number ≤ c.number)
      at (inl h) = let l = ltb-true (w c.number) (w d.number + k) h in (omega arith, λ q. absurd (omega arith))
      at (inr h) =
          let q : w c.number ≡ w d.number + k = search facts in
          let l : d.number < c.number = search facts in
          (omega arith, λ g. omega arith)

  pub overtakes-false : overtakes w k d c ≡ false → (d.number ≡ c.number → ⊥) → Leads w k c d
  unfolding overtakes
  overtakes-false e ne = (heavy, λ q. tie (sym q))
    where
      never : (more || even) ≡ true → ⊥
      never h = clashing (both (ap not (ne_eqb d.number c.number ne)) h) e

      heavy : w d.number + k ≤ w c.number
      heavy = ltb-false (w c.number) (w d.number + k) (not-passes (λ h. never (or_left more even h)))

      tie : w c.number ≡ w d.number + k → c.number ≤ d.number
      tie q = ltb-false d.number c.number (not-passes (λ h. never (or_right more even (both (eq-eqb (w c.number) (w d.number + k) q) h))))

module _ (w : ℕ → ℕ) (k : ℕ) (bs : List Block) (t a : ℕ) (c : Block) where
  pub rivalled-true : rivalled w k bs t a c ≡ true → (d : Block) × Rival w k bs t a c d
  unfolding rivalled
  rivalled-true e =
      let r = any-true (λ d. is_child t a d && overtakes w k d c) bs e in
      let d = r.0 in
      let o = overtakes-true w k c d (and_right (is_child t a d) (overtakes w k d c) r.2) in
      (d, record { mem = r.1; child = child-true t a d (and_left (is_child t a d) (overtakes w k d c) r.2); other = o.0; heavy = o.1; tie = o.2 })

  pub rivalled-false : rivalled w k bs t a c ≡ false → Safe w k bs t a c
  unfolding rivalled
  rivalled-false e d m h ne =
      overtakes-false w k c d (not-passes (λ o. clashing (any-holds (λ x. is_child t a x && overtakes w k x c) d m (both (child-holds t a d h) o)) e)) ne

module _ (w : ℕ → ℕ) (k : ℕ) {bs : List Block} (S : Sound bs) (t : ℕ) where
  margin_in-is : (j a : ℕ) (c : Block) → In c bs → c.number ≡ a → suc t ≤ c.slot + j → Margin w k bs t (margin_in w k bs t j a) a
  unfolding margin_in margin_step margin_go
  margin_in-is zero a c m e l = leaf refl (λ d n h. absurd (omega (arith, child-later w S (suc t) c d m e n h, h.early)))
  margin_in-is (suc j) a c m e l = at (best_child w (suc t) a bs) (best-is w (suc t) a bs) (λ d n h. margin_in-is j d.number d n refl (omega (arith, child-later w S (suc t) c d m e n h)))
    where
      turn : (d : Block) → IsBest w bs (suc t) a d → (b : Bool) → rivalled w k bs t a d ≡ b
          → ((d : Block) → In d bs → IsChild (suc t) a d → Margin w k bs t (margin_in w k bs t j d.number) d.number)
          → Margin w k bs t (margin_go b (λ y. margin_in w k bs t j y) a d.number) a
      turn d p true q rec = let r = rivalled-true w k bs t a d q in halt refl d r.0 p r.1
      turn d p false q rec = onward d p (rivalled-false w k bs t a d q) (rec d p.mem p.child)

      at : (f : Lookup) → BestIs w (suc t) a bs f
          → ((d : Block) → In d bs → IsChild (suc t) a d → Margin w k bs t (margin_in w k bs t j d.number) d.number)
          → Margin w k bs t (margin_step (λ y. margin_in w k bs t j y) (rivalled w k bs t a) a f) a
      at missing b rec = leaf refl b
      at (found d) b rec = turn d b (rivalled w k bs t a d) refl rec

  -- the walk from block 0
  pub margin-is : Margin w k bs t (margin_walk w k bs t) 0
  unfolding margin_walk
  margin-is = margin_in-is (suc t) 0 genesis S.start refl (omega arith)

-- from a known block it ends at a known block
pub margin-known : {w : ℕ → ℕ} {k : ℕ} {bs : List Block} {t r a : ℕ} → Known bs a → Margin w k bs t r a → Known bs r
margin-known h (leaf e x) = (h.0, h.1, h.2 ∙ e)
margin-known h (halt e c d p q) = (h.0, h.1, h.2 ∙ e)
margin-known h (onward c p s q) = margin-known (c, p.mem, refl) q
