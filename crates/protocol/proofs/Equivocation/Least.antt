-- Tables that say for each voter and slot which equivocation there is, if any, and the least entry of one: the lowest voter's of its earliest slot. There is
-- one such, and one more entry makes it the lower ranked of two. Assumes nothing.
use Prim.Native.Nat.{ℕ}
use mathlib.Core.Path.{◌≡◌, refl, sym, ap, ap₂, ◌∙◌, fun_ext, subst}
use mathlib.Core.Bool.{Bool, true, false, ◌&&◌, cond}
use native.Mathlib.Omega.{arith}
use lib.Dec.{eqb}
use borrow.Author.Tests.{eq-eqb}
use Rattle.protocol.specs.Equivocation.{Equivocation, FirstEquivocation, equivocation, no_equivocation, ranks_before}
use Rattle.protocol.specs.EquivocationPasses.{lower_ranked}
use Rattle.protocol.proofs.Basics.Tests.{facts, clashing, not-passes}
use Rattle.protocol.proofs.Equivocation.Ranks.{rank-trans, rank-irrefl, rank_same}

abbrev pub Table : Type 0
Table = ℕ → ℕ → FirstEquivocation

-- r is the least entry of g
abbrev pub Least : Table → FirstEquivocation → Type 0
Least g no_equivocation = (v s : ℕ) → g v s ≡ no_equivocation
Least g (equivocation e) = (g e.voter e.slot ≡ equivocation e) × ((v s : ℕ) → ranks_before v s e.voter e.slot ≡ true → g v s ≡ no_equivocation)

pub least-same : (g h : Table) (r : FirstEquivocation) → ((v s : ℕ) → g v s ≡ h v s) → Least g r → Least h r
least-same g h r e l = subst (λ f. Least f r) (fun_ext (λ v. fun_ext (e v))) l

pub not_found : {e : Equivocation} → no_equivocation ≡ equivocation e → ⊥
not_found p = let z : ◌≡◌ {A = ℕ} 0 1 = cc in omega arith

-- there is one
pub least-one : (g : Table) (r q : FirstEquivocation) → Least g r → Least g q → r ≡ q
least-one g no_equivocation no_equivocation l m = refl
least-one g no_equivocation (equivocation f) l m = sym (l f.voter f.slot) ∙ m.0
least-one g (equivocation e) no_equivocation l m = sym l.0 ∙ m e.voter e.slot
least-one g (equivocation e) (equivocation f) l m =
    let n = not-passes (λ b. not_found (sym (m.1 e.voter e.slot b) ∙ l.0)) in
    let o = not-passes (λ b. not_found (sym (l.1 f.voter f.slot b) ∙ m.0)) in
    let k = rank_same e.voter e.slot f.voter f.slot n o in
    sym l.0 ∙ ap₂ g k.0 k.1 ∙ m.0

-- ---- tables joined

-- the first of two that is there
abbrev pub or_else : FirstEquivocation → FirstEquivocation → FirstEquivocation
or_else no_equivocation y = y
or_else (equivocation e) y = equivocation e

pub else-none : (x : FirstEquivocation) → or_else x no_equivocation ≡ x
else-none no_equivocation = refl
else-none (equivocation e) = refl

pub else-self : (x : FirstEquivocation) → or_else x x ≡ x
else-self no_equivocation = refl
else-self (equivocation e) = refl

-- the first is there
pub else-there : (x y : FirstEquivocation) → (x ≡ no_equivocation → ⊥) → or_else x y ≡ x
else-there no_equivocation y h = absurd (h refl)
else-there (equivocation e) y h = refl

pub else-assoc : (x y z : FirstEquivocation) → or_else (or_else x y) z ≡ or_else x (or_else y z)
else-assoc no_equivocation y z = refl
else-assoc (equivocation e) y z = refl

abbrev pub joined : Table → Table → Table
joined g h v s = or_else (g v s) (h v s)

-- nothing is joined
pub least-end : (g h : Table) (r : FirstEquivocation) → ((v s : ℕ) → h v s ≡ no_equivocation) → Least g r → Least (joined g h) r
least-end g h r e = least-same g (joined g h) r (λ v s. sym (ap (or_else (g v s)) (e v s) ∙ else-none (g v s)))

-- two tables are joined, one after the other
pub least-steps : (g h k m : Table) (r : FirstEquivocation) → ((v s : ℕ) → or_else (h v s) (k v s) ≡ m v s) → Least (joined (joined g h) k) r → Least (joined g m) r
least-steps g h k m r e = least-same (joined (joined g h) k) (joined g m) r (λ v s. else-assoc (g v s) (h v s) (k v s) ∙ ap (or_else (g v s)) (e v s))

-- ---- one more entry

-- the table with this entry alone
abbrev pub entry : FirstEquivocation → Table
entry no_equivocation v s = no_equivocation
entry (equivocation e) v s =
    cond (eqb v e.voter && eqb s e.slot) (equivocation (record { voter = v; slot = s; block = e.block; other = e.other })) no_equivocation

entry-there : (e : Equivocation) → entry (equivocation e) e.voter e.slot ≡ equivocation e
entry-there e = rw (eq-eqb e.voter e.voter refl, eq-eqb e.slot e.slot refl)

entry-elsewhere : (v s : ℕ) (e : Equivocation) → (v ≡ e.voter → s ≡ e.slot → ⊥) → entry (equivocation e) v s ≡ no_equivocation
entry-elsewhere v s e h = rw (not-passes (λ (t : (eqb v e.voter && eqb s e.slot) ≡ true). h (search facts) (search facts)))

-- the lower ranked of two
abbrev pub lower_of : FirstEquivocation → FirstEquivocation → FirstEquivocation
lower_of r no_equivocation = r
lower_of r (equivocation e) = lower_ranked r e

-- an entry that ranks before all of g
least-new : (g : Table) (f : Equivocation) → g f.voter f.slot ≡ no_equivocation
    → ((v s : ℕ) → ranks_before v s f.voter f.slot ≡ true → g v s ≡ no_equivocation) → Least (joined g (entry (equivocation f))) (equivocation f)
least-new g f none lower = (rw none (entry-there f), λ v s b. rw (lower v s b) (entry-elsewhere v s f (λ x y. rank-irrefl v s (rw (← x, ← y) at b))))

pub least-lower : (g : Table) (r e : FirstEquivocation) → Least g r → Least (joined g (entry e)) (lower_of r e)
unfolding lower_ranked
least-lower g r no_equivocation l = least-end g (entry no_equivocation) r (λ v s. refl) l
least-lower g no_equivocation (equivocation f) l = least-new g f (l f.voter f.slot) (λ v s b. l v s)
least-lower g (equivocation e) (equivocation f) l = go (ranks_before f.voter f.slot e.voter e.slot) refl
  where
    go : (t : Bool) → ranks_before f.voter f.slot e.voter e.slot ≡ t
        → Least (joined g (entry (equivocation f))) (cond t (equivocation f) (equivocation e))
    go true t = least-new g f (l.1 f.voter f.slot t) (λ v s b. l.1 v s (rank-trans v s f.voter f.slot e.voter e.slot b t))
    go false t = (rw l.0, λ v s b. rw (l.1 v s b) (entry-elsewhere v s f (λ x y. clashing (rw (x, y) at b) t)))
