-- The first vote of a voter and slot in one list, and the first vote of another list that conflicts with it. Assumes nothing.
use Prim.Native.Nat.{ℕ}
use mathlib.Core.Path.{◌≡◌, refl, sym, ap, ◌∙◌}
use mathlib.Core.Bool.{Bool, true, false, not, ◌&&◌, cond, and-false, and_assoc}
use mathlib.Core.List.Memᴰ
use mathlib.Core.List.{List, [], ◌∷◌, ◌++◌, Memᴰ}
use lib.Dec.{eqb}
use borrow.Author.Tests.{eqb-true, eq-eqb}
use Rattle.protocol.specs.Entry.{Vote}
use Rattle.protocol.specs.Lists.{passing}
use Rattle.protocol.specs.Filters.{conflict}
use Rattle.protocol.specs.Equivocation.{Equivocation, FirstEquivocation, equivocation, no_equivocation, with_first}
use Rattle.protocol.proofs.Basics.Tests.{facts, both}
use Rattle.protocol.proofs.Basics.Filter.{filter-in, filter-has, filter-append, filter-filter}
use Rattle.protocol.proofs.Equivocation.Least.{Table, not_found, or_else, else-none, else-self, else-there, else-assoc}

abbrev pub vote_for : ℕ → ℕ → ℕ → Vote
vote_for v s x = record { voter = v; slot = s; number = x }

abbrev pub pair : ℕ → ℕ → ℕ → ℕ → Equivocation
pair v s x y = record { voter = v; slot = s; block = x; other = y }

-- the members of xs are members of ws
abbrev pub Among : List Vote → List Vote → Type 0
Among xs ws = (c : Vote) → Memᴰ c xs → Memᴰ c ws

-- a vote of voter v in slot s
abbrev pub cast_in : ℕ → ℕ → Vote → Bool
cast_in v s a = eqb v a.voter && eqb s a.slot

-- vote a, and the first of these votes that conflicts with it
abbrev pub against : Vote → List Vote → FirstEquivocation
against a ws = with_first a (passing (conflict a) ws)

-- the votes of voter v in slot s are these: the first of them, held against ws
abbrev pub clash_of : ℕ → ℕ → List Vote → List Vote → FirstEquivocation
clash_of v s [] ws = no_equivocation
clash_of v s (b ∷ rest) ws = against (vote_for v s b.number) ws

-- the first vote of voter v in slot s among vs, held against ws
abbrev pub clash : List Vote → List Vote → Table
clash vs ws v s = clash_of v s (passing (cast_in v s) vs) ws

-- ---- votes of one voter and slot

pub cast-in : (v s : ℕ) (a : Vote) → a.voter ≡ v → a.slot ≡ s → cast_in v s a ≡ true
cast-in v s a p q = both (eq-eqb v a.voter (sym p)) (eq-eqb s a.slot (sym q))

pub is-vote : (v s : ℕ) (a : Vote) → cast_in v s a ≡ true → vote_for v s a.number ≡ a
is-vote v s a h =
    let p : v ≡ a.voter = search facts in
    let q : s ≡ a.slot = search facts in
    λ i. record { voter = p i; slot = q i; number = a.number }

pub conflict-in : (v s x : ℕ) (a : Vote) → conflict (vote_for v s x) a ≡ (cast_in v s a && not (eqb x a.number))
unfolding conflict
conflict-in v s x a = sym (and_assoc (eqb v a.voter) (eqb s a.slot) (not (eqb x a.number)))

pub conflicts : (v s x : ℕ) (a : Vote) → cast_in v s a ≡ true → eqb x a.number ≡ false → conflict (vote_for v s x) a ≡ true
conflicts v s x a h e = conflict-in v s x a ∙ both h (ap not e)

-- ---- one vote, held against others

pub against-append : (a : Vote) (vs ws : List Vote) → against a (vs ++ ws) ≡ or_else (against a vs) (against a ws)
unfolding with_first
against-append a vs ws = rw (filter-append (conflict a) vs ws) (go (passing (conflict a) vs))
  where
    go : (l : List Vote) → with_first a (l ++ passing (conflict a) ws) ≡ or_else (with_first a l) (against a ws)
    go [] = refl
    go (c ∷ l) = refl

-- one of them conflicts with it
pub against-found : (v s x : ℕ) (c : Vote) (ws : List Vote) → Memᴰ c ws → cast_in v s c ≡ true → eqb x c.number ≡ false
    → against (vote_for v s x) ws ≡ no_equivocation → ⊥
unfolding with_first
against-found v s x c ws m h e = go (passing (conflict (vote_for v s x)) ws) (filter-has (conflict (vote_for v s x)) c m (conflicts v s x c h e))
  where
    go : (l : List Vote) → Memᴰ c l → with_first (vote_for v s x) l ≡ no_equivocation → ⊥
    go [] n p = Memᴰ.not-nil n
    go (d ∷ l) n p = not_found (sym p)

pub against-one : (v s x : ℕ) (a : Vote)
    → against (vote_for v s x) (a ∷ []) ≡ cond (cast_in v s a && not (eqb x a.number)) (equivocation (pair v s x a.number)) no_equivocation
unfolding with_first passing
against-one v s x a = rw (conflict-in v s x a) (go (cast_in v s a && not (eqb x a.number)))
  where
    go : (t : Bool) → with_first (vote_for v s x) (cond t (a ∷ []) []) ≡ cond t (equivocation (pair v s x a.number)) no_equivocation
    go true = refl
    go false = refl

pub against-itself : (v s : ℕ) (a : Vote) → against (vote_for v s a.number) (a ∷ []) ≡ no_equivocation
against-itself v s a = against-one v s a.number a ∙ rw (eq-eqb a.number a.number refl, and-false (cast_in v s a))

-- ---- the first one, held against others

-- none of the others is of this voter and slot
pub clash-none : (v s : ℕ) (l ws : List Vote) → passing (cast_in v s) ws ≡ [] → clash_of v s l ws ≡ no_equivocation
unfolding conflict with_first passing
clash-none v s [] ws e = refl
clash-none v s (b ∷ l) ws e =
    let a = vote_for v s b.number in
    ap (with_first a) (sym (filter-filter (cast_in v s) (conflict a) (λ c h. search (facts, both)) ws) ∙ ap (passing (conflict a)) e)

pub clash-append : (v s : ℕ) (vs ws us : List Vote) → clash vs (ws ++ us) v s ≡ or_else (clash vs ws v s) (clash vs us v s)
clash-append v s vs ws us = go (passing (cast_in v s) vs)
  where
    go : (l : List Vote) → clash_of v s l (ws ++ us) ≡ or_else (clash_of v s l ws) (clash_of v s l us)
    go [] = refl
    go (b ∷ l) = against-append (vote_for v s b.number) ws us

-- where a vote of this voter and slot conflicts with none of ws, none of ws does
pub clash-covered : (v s x : ℕ) (xs ws : List Vote) → Among xs ws → or_else (against (vote_for v s x) ws) (clash xs ws v s) ≡ against (vote_for v s x) ws
clash-covered v s x xs ws f = go (passing (cast_in v s) xs) (filter-in (cast_in v s) xs)
  where
    pick : (c : Vote) → Memᴰ c xs × (cast_in v s c ≡ true) → (t : Bool) → eqb x c.number ≡ t
        → or_else (against (vote_for v s x) ws) (against (vote_for v s c.number) ws) ≡ against (vote_for v s x) ws
    pick c m true e = rw (← eqb-true x c.number e) (else-self (against (vote_for v s x) ws))
    pick c m false e = else-there (against (vote_for v s x) ws) (against (vote_for v s c.number) ws) (against-found v s x c ws (f c m.0) m.1 e)

    go : (l : List Vote) → ((c : Vote) → Memᴰ c l → Memᴰ c xs × (cast_in v s c ≡ true))
        → or_else (against (vote_for v s x) ws) (clash_of v s l ws) ≡ against (vote_for v s x) ws
    go [] m = else-none (against (vote_for v s x) ws)
    go (c ∷ l) m = pick c (m c (Memᴰ.head refl)) (eqb x c.number) refl

-- vs among themselves, ws against vs, and ws among themselves: all of them
pub clash-join : (v s : ℕ) (vs ws : List Vote) → or_else (or_else (clash vs vs v s) (clash vs ws v s)) (clash ws ws v s) ≡ clash (vs ++ ws) (vs ++ ws) v s
clash-join v s vs ws = rw (filter-append (cast_in v s) vs ws) (go (passing (cast_in v s) vs) refl)
  where
    go : (l : List Vote) → passing (cast_in v s) vs ≡ l
        → or_else (or_else (clash_of v s l vs) (clash_of v s l ws)) (clash ws ws v s) ≡ clash_of v s (l ++ passing (cast_in v s) ws) (vs ++ ws)
    go [] e = sym (clash-append v s ws vs ws ∙ ap (λ x. or_else x (clash ws ws v s)) (clash-none v s (passing (cast_in v s) ws) vs e))
    go (b ∷ l) e =
        let a = vote_for v s b.number in
        else-assoc (against a vs) (against a ws) (clash ws ws v s)
        ∙ ap (or_else (against a vs)) (clash-covered v s b.number ws ws (λ c m. m))
        ∙ sym (against-append a vs ws)
