-- Kept votes: the latest ones without those of equivocators; and a vote of slot t as the kept vote of a window of one slot. Assumes nothing.
use Prim.Native.Nat.{ℕ, ◌+◌, ◌≤◌, ◌<◌}
use mathlib.Core.Bool.{Bool, true, false, ◌&&◌, cond, and-false}
use mathlib.Core.List.Memᴰ
use Rattle.std.specs.Prelude.{Option, None}
use mathlib.Core.List.{List, [], ◌∷◌}
use mathlib.Core.Path.{◌≡◌, refl, ap, sym, ◌∙◌}
use native.Mathlib.Omega.{arith}
use lib.Dec.{eqb, ltb}
use lib.ListN.{length, set}
use borrow.Author.Tests.{eqb-true, eqb-false, eq-eqb, lt-ltb, le-ltb}
use Rattle.protocol.specs.Limits.{loom}
use Rattle.protocol.specs.declared.Vote as code
use Rattle.protocol.specs.Entry.{Vote}
use Rattle.protocol.specs.Filters.{equivocates, window, LatestVote, latest_is, no_latest, later, latest, chosen, nothing, choice_of, kept_choice}
use Rattle.protocol.specs.Confirm.{vote_in, in_slot, valid_vote}
use Rattle.protocol.proofs.Basics.Tests.{same_test}
use Rattle.protocol.proofs.Filters.Kept.{LastIs, latest-is, window-true, window-holds, equivocates-true, equivocates-holds, equivocation-in}
use Rattle.protocol.proofs.Filters.Relations.{Cast}
use Rattle.protocol.specs.Words.{bit_of}
use Rattle.masks.proofs.Masks.{bit_mask, below_more}
use Rattle.vote_filters.proofs.Latest.{last_same, last-other}
use Rattle.vote_filters.specs.Latest.{equivocators_of, last_at, Latest, Kept}

-- the voters below k in the set have no vote any more
pub record Dropped (vs : List Vote) (E t mask k : ℕ) (kept : List (Option code.Vote)) : Type 0 where
  pub each : (v : ℕ) → v < loom.nodes → last_at kept v ≡ cond (ltb v k && bit_of mask v) no_latest (latest vs E t v)

pub dropped-none : (vs : List Vote) (E t mask : ℕ) {kept : List (Option code.Vote)} → Latest vs E t kept → Dropped vs E t mask 0 kept
dropped-none vs E t mask L = record { each = λ v l. rw (le-ltb v 0 (omega arith)) (L.each v l) }

pub dropped-more : (vs : List Vote) (E t mask k : ℕ) {kept next : List (Option code.Vote)} → Dropped vs E t mask k kept
    → next ≡ cond (bit_of mask k) (set kept k None) kept → k < length kept → Dropped vs E t mask (k + 1) next
dropped-more vs E t mask k {kept} {next} D e h = record { each = λ v l. ap (λ (s : List (Option code.Vote)). last_at s v) e ∙ go v l (eqb v k) refl (bit_of mask k) refl }
  where
    go : (v : ℕ) → v < loom.nodes → (x : Bool) → eqb v k ≡ x → (b : Bool) → bit_of mask k ≡ b
        → last_at (cond b (set kept k None) kept) v ≡ cond (ltb v (k + 1) && bit_of mask v) no_latest (latest vs E t v)
    go v l true q true m =
        let p : v ≡ k = eqb-true v k q in
        let o : k < k + 1 = omega arith in
        rw (p, lt-ltb k (k + 1) o, m) (last_same kept k None h)
    go v l true q false m =
        let p : v ≡ k = eqb-true v k q in
        let o : k ≤ k = omega arith in
        let d : last_at kept k ≡ latest vs E t k = rw (p, le-ltb k k o) at (D.each v l) in
        rw (p, m, and-false (ltb k (k + 1))) d
    go v l false q true m =
        let p : v ≡ k → ⊥ = eqb-false v k q in
        last-other kept k v None p ∙ D.each v l ∙ rw (below_more v k p)
    go v l false q false m =
        let p : v ≡ k → ⊥ = eqb-false v k q in
        D.each v l ∙ rw (below_more v k p)

pub dropped-all : (vs : List Vote) (E t mask k : ℕ) {kept : List (Option code.Vote)} → Dropped vs E t mask k kept → 64 ≤ k → mask ≡ equivocators_of vs E t → Kept vs E t kept
unfolding equivocators_of kept_choice choice_of
dropped-all vs E t mask k {kept} D h e = record { each = λ v l. go v l }
  where
    pick : (b : Bool) (f : LatestVote) → choice_of (cond b no_latest f) ≡ cond b nothing (choice_of f)
    pick true f = refl
    pick false f = refl

    go : (v : ℕ) → v < loom.nodes → choice_of (last_at kept v) ≡ kept_choice vs E t v
    go v l =
        let d : last_at kept v ≡ cond (equivocates (window E t) vs v) no_latest (latest vs E t v)
        = D.each v l ∙ rw (lt-ltb v k (omega arith), e, bit_mask 64 (λ u. equivocates (window E t) vs u) v l) in
        ap choice_of d ∙ pick (equivocates (window E t) vs v) (latest vs E t v)

-- ---- the votes of slot t: those of the window of slot t + 1 with expiry period 1

window-one : (t s : ℕ) → 0 < s → eqb s t ≡ window 1 (t + 1) s
window-one t s z =
    same_test (eqb s t) (window 1 (t + 1) s)
    (λ h. let q = eqb-true s t h in window-holds 1 (t + 1) s (record { real = z; past = omega arith; fresh = omega arith }))
    (λ h. let w = window-true 1 (t + 1) s h in eq-eqb s t (omega (arith, w.past, w.fresh)))

vote-latest : (vs : List Vote) (t v : ℕ) → ((a : Vote) → Cast a vs → 0 < a.slot) → vote_in vs t v ≡ choice_of (latest vs 1 (t + 1) v)
unfolding vote_in latest choice_of later
vote-latest [] t v f = refl
vote-latest (a ∷ rest) t v f =
    rw (window-one t a.slot (f a (Memᴰ.head refl)))
    (go (eqb a.voter v) (window 1 (t + 1) a.slot) refl (latest rest 1 (t + 1) v) (latest-is 1 (t + 1) v rest) (vote-latest rest t v (λ b m. f b (Memᴰ.tail m))))
  where
    go : (x y : Bool) → window 1 (t + 1) a.slot ≡ y → (o : LatestVote) → LastIs rest 1 (t + 1) v o → vote_in rest t v ≡ choice_of o
        → cond (x && y) (chosen a.number) (vote_in rest t v) ≡ choice_of (cond (x && y) (later a o) o)
    go true true e no_latest i q = refl
    go true true e (latest_is b) i q =
        let w = window-true 1 (t + 1) a.slot e in
        let l : b.slot ≤ a.slot = omega (arith, w.past, w.fresh, i.inside.past, i.inside.fresh) in
        rw (le-ltb a.slot b.slot l)
    go true false e o i q = q
    go false y e o i q = q

-- two votes of slot t are two of that window
equivocates-one : (vs : List Vote) (t v : ℕ) → ((a : Vote) → Cast a vs → 0 < a.slot) → equivocates (in_slot t) vs v ≡ equivocates (window 1 (t + 1)) vs v
unfolding window
equivocates-one vs t v f =
    same_test (equivocates (in_slot t) vs v) (equivocates (window 1 (t + 1)) vs v)
    (λ h. let d = equivocates-true (in_slot t) vs v h in equivocates-holds (window 1 (t + 1)) vs v (equivocation-in d d.has_one d.has_other (sym (one d.one d.has_one) ∙ d.counts)))
    (λ h. let d = equivocates-true (window 1 (t + 1)) vs v h in equivocates-holds (in_slot t) vs v (equivocation-in d d.has_one d.has_other (one d.one d.has_one ∙ d.counts)))
  where
    one : (a : Vote) → Cast a vs → eqb a.slot t ≡ window 1 (t + 1) a.slot
    one a m = window-one t a.slot (f a m)

pub valid-kept : (vs : List Vote) (t v : ℕ) → ((a : Vote) → Cast a vs → 0 < a.slot) → valid_vote vs t v ≡ kept_choice vs 1 (t + 1) v
unfolding valid_vote kept_choice
valid-kept vs t v f = rw (equivocates-one vs t v f, vote-latest vs t v f)
