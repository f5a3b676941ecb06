-- The three passes find the first equivocation of two packets' votes: each keeps the least of the clashes that it has seen. Assumes nothing.
use Prim.Native.Nat.{ℕ}
use mathlib.Core.Path.{◌≡◌, refl, sym, ap, ap₂, ◌∙◌}
use mathlib.Core.Bool.{Bool, true, false, not, ◌&&◌, cond, and-true, and-false}
use mathlib.Core.List.{List, [], ◌∷◌, ◌++◌, append_assoc}
use lib.Dec.{eqb}
use Rattle.protocol.specs.Entry.{Vote}
use Rattle.protocol.specs.Lists.{passing}
use Rattle.protocol.specs.Equivocation.{Equivocation, FirstEquivocation, equivocation, no_equivocation, with_first, first_equivocation}
use Rattle.protocol.specs.EquivocationPasses.{same_slot, lower_ranked, meet, meet_first, meet_among, among_themselves, against_others, three_passes, PassesFind}
use Rattle.protocol.proofs.Basics.Tests.{facts}
use Rattle.protocol.proofs.Basics.Filter.{filter-append}
use Rattle.protocol.proofs.Equivocation.Least.{Table, Least, or_else, joined, entry, lower_of, least-end, least-steps, least-same, least-one, least-lower}
use Rattle.protocol.proofs.Equivocation.Clash.{pair, cast_in, clash_of, clash, against-one, against-itself, clash-none, clash-append, clash-join}
use Rattle.protocol.proofs.Equivocation.First.{first-least}

-- ---- one vote

-- what a vote meets, apart from what was found before
meet-lower : (vs : List Vote) (r : FirstEquivocation) (a : Vote) → meet_among vs r a ≡ lower_of r (meet_among vs no_equivocation a)
unfolding meet_among meet_first meet lower_ranked
meet-lower vs r a = go (passing (same_slot a) vs)
  where
    pick : (e : Equivocation) (t : Bool) → cond t r (lower_ranked r e) ≡ lower_of r (cond t no_equivocation (equivocation e))
    pick e true = refl
    pick e false = refl

    go : (l : List Vote) → meet_first r l a ≡ lower_of r (meet_first no_equivocation l a)
    go [] = refl
    go (b ∷ l) = pick (pair a.voter a.slot b.number a.number) (eqb b.number a.number)

-- in one slot, a vote meets the first one of these: as it clashes
meet_one : (v s : ℕ) (l : List Vote) (a : Vote) → entry (meet_first no_equivocation l a) v s ≡ clash_of v s l (a ∷ [])
unfolding meet_first meet lower_ranked
meet_one v s [] a = refl
meet_one v s (b ∷ l) a = go (eqb b.number a.number) ∙ sym (against-one v s b.number a)
  where
    go : (t : Bool) → entry (cond t no_equivocation (equivocation (pair a.voter a.slot b.number a.number))) v s
        ≡ cond (cast_in v s a && not t) (equivocation (pair v s b.number a.number)) no_equivocation
    go true = rw (and-false (cast_in v s a))
    go false = rw (and-true (cast_in v s a))

clash-elsewhere : (v s : ℕ) (a : Vote) (l : List Vote) → cast_in v s a ≡ false → clash_of v s l (a ∷ []) ≡ no_equivocation
unfolding passing
clash-elsewhere v s a l e = clash-none v s l (a ∷ []) (rw e)

meet-clash : (v s : ℕ) (vs : List Vote) (a : Vote) → entry (meet_among vs no_equivocation a) v s ≡ clash vs (a ∷ []) v s
unfolding meet_among same_slot
meet-clash v s vs a = meet_one v s (passing (same_slot a) vs) a ∙ go (cast_in v s a) refl
  where
    go : (t : Bool) → cast_in v s a ≡ t → clash_of v s (passing (cast_in a.voter a.slot) vs) (a ∷ []) ≡ clash vs (a ∷ []) v s
    go true e =
        let p : v ≡ a.voter = search facts in
        let q : s ≡ a.slot = search facts in
        ap₂ (λ u t. clash_of v s (passing (cast_in u t) vs) (a ∷ [])) (sym p) (sym q)
    go false e = clash-elsewhere v s a (passing (cast_in a.voter a.slot) vs) e ∙ sym (clash-elsewhere v s a (passing (cast_in v s) vs) e)

-- ---- a pass

meet-least : (g : Table) (r : FirstEquivocation) (vs : List Vote) (a : Vote) → Least g r → Least (joined g (clash vs (a ∷ []))) (meet_among vs r a)
meet-least g r vs a l =
    let e = meet_among vs no_equivocation a in
    rw meet-lower (least-same (joined g (entry e)) (joined g (clash vs (a ∷ []))) (lower_of r e)
    (λ v s. ap (or_else (g v s)) (meet-clash v s vs a)) (least-lower g r e l))

clash-end : (v s : ℕ) (vs : List Vote) → clash vs [] v s ≡ no_equivocation
unfolding passing with_first
clash-end v s vs = go (passing (cast_in v s) vs)
  where
    go : (l : List Vote) → clash_of v s l [] ≡ no_equivocation
    go [] = refl
    go (b ∷ l) = refl

others-least : (g : Table) (r : FirstEquivocation) (vs ws : List Vote) → Least g r → Least (joined g (clash vs ws)) (against_others vs r ws)
unfolding against_others
others-least g r vs [] l = least-end g (clash vs []) r (λ v s. clash-end v s vs) l
others-least g r vs (a ∷ ws) l =
    least-steps g (clash vs (a ∷ [])) (clash vs ws) (clash vs (a ∷ ws)) (against_others vs (meet_among vs r a) ws)
    (λ v s. sym (clash-append v s vs (a ∷ []) ws))
    (others-least (joined g (clash vs (a ∷ []))) (meet_among vs r a) vs ws (meet-least g r vs a l))

-- a vote and those behind it may count among those before it: it does not conflict with itself
clash-behind : (v s : ℕ) (vs ws : List Vote) (a : Vote) → clash vs (a ∷ []) v s ≡ clash (vs ++ (a ∷ ws)) (a ∷ []) v s
unfolding passing
clash-behind v s vs ws a = rw (filter-append (cast_in v s) vs (a ∷ ws)) (go (passing (cast_in v s) vs))
  where
    own : (t : Bool) → cast_in v s a ≡ t → no_equivocation ≡ clash_of v s (cond t (a ∷ passing (cast_in v s) ws) (passing (cast_in v s) ws)) (a ∷ [])
    own true e = sym (against-itself v s a)
    own false e = sym (clash-elsewhere v s a (passing (cast_in v s) ws) e)

    go : (l : List Vote) → clash_of v s l (a ∷ []) ≡ clash_of v s (l ++ passing (cast_in v s) (a ∷ ws)) (a ∷ [])
    go [] = own (cast_in v s a) refl
    go (b ∷ l) = refl

themselves-least : (g : Table) (r : FirstEquivocation) (vs ws : List Vote) → Least g r → Least (joined g (clash (vs ++ ws) ws)) (among_themselves vs r ws)
unfolding among_themselves
themselves-least g r vs [] l = least-end g (clash (vs ++ []) []) r (λ v s. clash-end v s (vs ++ [])) l
themselves-least g r vs (a ∷ ws) l =
    least-steps g (clash vs (a ∷ [])) (clash (vs ++ (a ∷ []) ++ ws) ws) (clash (vs ++ (a ∷ ws)) (a ∷ ws))
    (among_themselves (vs ++ (a ∷ [])) (meet_among vs r a) ws)
    (λ v s. rw (append_assoc vs (a ∷ []) ws, clash-behind v s vs ws a) (sym (clash-append v s (vs ++ (a ∷ ws)) (a ∷ []) ws)))
    (themselves-least (joined g (clash vs (a ∷ []))) (meet_among vs r a) (vs ++ (a ∷ [])) ws (meet-least g r vs a l))

pub passes-find : PassesFind
unfolding PassesFind three_passes
passes-find vs ws =
    let first = among_themselves [] no_equivocation vs in
    let second = against_others vs first ws in
    let third = among_themselves [] second ws in
    let all = clash (vs ++ ws) (vs ++ ws) in
    let one = themselves-least (λ v s. no_equivocation) no_equivocation [] vs (λ v s. refl) in
    let two = others-least (clash vs vs) first vs ws one in
    let three = themselves-least (joined (clash vs vs) (clash vs ws)) second [] ws two in
    least-one all third (first_equivocation (vs ++ ws))
    (least-same (joined (joined (clash vs vs) (clash vs ws)) (clash ws ws)) all third (λ v s. clash-join v s vs ws) three)
    (first-least (vs ++ ws))
