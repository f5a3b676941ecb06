-- Where the first vote of a voter and slot clashes with another, the two are met in their order. Assumes nothing.
use Prim.Native.Nat.{ℕ}
use mathlib.Core.Path.{◌≡◌, refl, sym, ap, ap₂, ◌∙◌, subst}
use mathlib.Core.Bool.{Bool, true, false, not, ◌&&◌, cond}
use mathlib.Core.List.Memᴰ
use mathlib.Core.List.{List, [], ◌∷◌, ◌++◌, Memᴰ}
use lib.Dec.{eqb}
use borrow.Author.Tests.{eqb-true, eqb-false, not-true}
use Rattle.protocol.specs.Entry.{Vote}
use Rattle.protocol.specs.Lists.{passing}
use Rattle.protocol.specs.Filters.{conflict}
use Rattle.protocol.specs.Equivocation.{Equivocation, equivocation, with_first, MetInOrder}
use Rattle.protocol.proofs.Basics.Tests.{and_left, and_right}
use Rattle.protocol.proofs.Basics.Filter.{filter-has}
use Rattle.protocol.proofs.Equivocation.Least.{or_else, not_found}
use Rattle.protocol.proofs.Equivocation.Clash.{vote_for, pair, cast_in, against, clash_of, clash, cast-in, is-vote, conflict-in, conflicts, against-append, against-itself, clash-none}

-- the first of those that pass, and the list before and after it
abbrev Parted : (Vote → Bool) → List Vote → List Vote → Type 0
Parted p vs [] = Unit {0}
Parted p vs (b ∷ l) = (front : List Vote) × (rest : List Vote) × (vs ≡ front ++ (b ∷ rest)) × (passing p front ≡ []) × (p b ≡ true)

parted : (p : Vote → Bool) (vs : List Vote) → Parted p vs (passing p vs)
unfolding passing
parted p [] = tt
parted p (x ∷ xs) = go (p x) refl (passing p xs) (parted p xs)
  where
    go : (t : Bool) → p x ≡ t → (l : List Vote) → Parted p xs l → Parted p (x ∷ xs) (cond t (x ∷ l) l)
    go true e l r = ([], xs, refl, refl, e)
    go false e [] r = tt
    go false e (b ∷ l) r = (x ∷ r.0, r.1, ap (λ k. x ∷ k) r.2, rw e r.3, r.4)

none_passes : (p : Vote → Bool) (xs : List Vote) → passing p xs ≡ [] → (a : Vote) → Memᴰ a xs → p a ≡ true → ⊥
none_passes p xs e a m h = Memᴰ.not-nil (rw e at (filter-has p a m h))

met-pair : (v s : ℕ) (vs : List Vote) (b c : Vote) (front amid rear : List Vote) → vs ≡ front ++ (b ∷ amid ++ (c ∷ rear)) → cast_in v s b ≡ true
    → passing (cast_in v s) front ≡ [] → passing (conflict (vote_for v s b.number)) amid ≡ [] → conflict (vote_for v s b.number) c ≡ true
    → MetInOrder vs (pair v s b.number c.number)
met-pair v s vs b c front amid rear order own none same other =
    let d : (cast_in v s c && not (eqb b.number c.number)) ≡ true = sym (conflict-in v s b.number c) ∙ other in record {
      front = front;
      amid = amid;
      rear = rear;
      in_turn = order ∙ ap₂ (λ x y. front ++ (x ∷ amid ++ (y ∷ rear))) (sym (is-vote v s b own)) (sym (is-vote v s c (and_left (cast_in v s c) _ d)));
      none_in_front = λ a m x y. none_passes (cast_in v s) front none a m (cast-in v s a x y);
      same_amid = λ a m x y. go a m (cast-in v s a x y) (eqb b.number a.number) refl;
      differing = eqb-false b.number c.number (not-true _ (and_right (cast_in v s c) _ d));
    }
  where
    go : (a : Vote) → Memᴰ a amid → cast_in v s a ≡ true → (t : Bool) → eqb b.number a.number ≡ t → a.number ≡ b.number
    go a m k true e = sym (eqb-true b.number a.number e)
    go a m k false e = absurd (none_passes (conflict (vote_for v s b.number)) amid same a m (conflicts v s b.number a k e))

-- neither the votes before the first one nor that one itself conflict with it
against-behind : (v s : ℕ) (b : Vote) (front rest : List Vote) → passing (cast_in v s) front ≡ []
    → against (vote_for v s b.number) (front ++ (b ∷ rest)) ≡ against (vote_for v s b.number) rest
against-behind v s b front rest e =
    let a = vote_for v s b.number in
    against-append a front (b ∷ rest)
    ∙ ap₂ or_else (clash-none v s (b ∷ []) front e) (against-append a (b ∷ []) rest ∙ ap (λ x. or_else x (against a rest)) (against-itself v s b))

pub met-in-order : (v s : ℕ) (vs : List Vote) (e : Equivocation) → clash vs vs v s ≡ equivocation e → MetInOrder vs e
unfolding with_first
met-in-order v s vs e = go (passing (cast_in v s) vs) (parted (cast_in v s) vs)
  where
    -- the first vote is b, and those behind it that conflict with it are k
    behind : (b : Vote) (l : List Vote) (p : Parted (cast_in v s) vs (b ∷ l)) (k : List Vote) → Parted (conflict (vote_for v s b.number)) p.1 k
        → with_first (vote_for v s b.number) k ≡ equivocation e → MetInOrder vs e
    behind b l p [] q h = absurd (not_found h)
    behind b l p (c ∷ k) q h =
        let z : pair v s b.number c.number ≡ e = cc in
        subst (MetInOrder vs) z (met-pair v s vs b c p.0 q.0 q.1 (p.2 ∙ ap (λ r. p.0 ++ (b ∷ r)) q.2) p.4 p.3 q.3 q.4)

    go : (l : List Vote) → Parted (cast_in v s) vs l → clash_of v s l vs ≡ equivocation e → MetInOrder vs e
    go [] p h = absurd (not_found h)
    go (b ∷ l) p h =
        let a = vote_for v s b.number in
        behind b l p (passing (conflict a) p.1) (parted (conflict a) p.1)
        (sym (ap (against a) p.2 ∙ against-behind v s b p.0 p.1 p.3) ∙ h)
