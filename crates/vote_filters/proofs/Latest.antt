-- The latest votes, one vote at a time, and one row at a time. Assumes nothing.
use Prim.Native.Nat.{ℕ, ◌+◌, ◌-◌, ◌≤◌, ◌<◌}
use mathlib.Core.Bool.{Bool, true, false, ◌&&◌, cond, and-false, ◌||◌}
use Rattle.std.specs.Prelude.{Option, Some, None}
use mathlib.Core.List.{List, [], ◌∷◌, ◌++◌}
use mathlib.Core.Path.{◌≡◌, refl, ap, sym, ◌∙◌}
use native.Mathlib.Omega.{arith}
use lib.Dec.{eqb, ltb, leb}
use lib.ListN.{length, get_or, set, replicate, get_or-replicate}
use lib.Seq.{get_or-set_same, get_or-set_other}
use borrow.Author.Tests.{eqb-true, eqb-false, ltb-true, ltb-false, lt-ltb, le-ltb, leb-true, le-leb}
use Rattle.protocol.specs.Limits.{loom}
use Rattle.protocol.specs.Entry.{Vote}
use Rattle.protocol.specs.Filters.{window, LatestVote, latest_is, no_latest, later, latest}
use Rattle.protocol.proofs.Basics.Tests.{same_test, and_left, and_right}
use Rattle.vote_filters.specs.Latest.{held_vote, last_at, Latest, selected, votes_of}
use Rattle.protocol.specs.Store.{Marked, entries, view_of}
use Rattle.protocol.specs.Lent.{make_vote, rows_of}
use Rattle.protocol.specs.declared.Vote as code
use Rattle.protocol.specs.Words.{vote_of}
use Rattle.rows.specs.declared.Row.{Row}
use Rattle.rows.specs.Rows.{row_at, marked_vote}
use Rattle.vote_filters.proofs.Selected.{selected-in, selected-out}

-- ---- the array, where one voter's vote changes

pub last_same : (kept : List (Option code.Vote)) (k : ℕ) (x : Option code.Vote) → k < length kept → last_at (set kept k x) k ≡ held_vote x
unfolding last_at
last_same kept k x h = rw (get_or-set_same {A = Option code.Vote} kept k x None h)

pub last-other : (kept : List (Option code.Vote)) (k v : ℕ) (x : Option code.Vote) → (v ≡ k → ⊥) → last_at (set kept k x) v ≡ last_at kept v
unfolding last_at
last-other kept k v x h = rw (get_or-set_other {A = Option code.Vote} kept k v x None h)

-- ---- one vote more

-- a vote more at the end: it is the latest where its slot is above the one held
abbrev after : LatestVote → Vote → LatestVote
after no_latest a = latest_is a
after (latest_is b) a = cond (ltb b.slot a.slot) (latest_is a) (latest_is b)

later-after : (c : Vote) (f : LatestVote) (a : Vote) → later c (after f a) ≡ after (later c f) a
unfolding later
later-after c no_latest a = refl
later-after c (latest_is b) a = go (ltb b.slot a.slot) refl (ltb c.slot b.slot) refl
  where
    go : (x : Bool) → ltb b.slot a.slot ≡ x → (y : Bool) → ltb c.slot b.slot ≡ y
        → later c (cond x (latest_is a) (latest_is b)) ≡ after (cond y (latest_is b) (latest_is c)) a
    go true p true q =
        let l : c.slot < a.slot = omega (arith, ltb-true b.slot a.slot p, ltb-true c.slot b.slot q) in
        rw (lt-ltb c.slot a.slot l, p)
    go true p false q = refl
    go false p true q = rw (p, q)
    go false p false q =
        let l : a.slot ≤ c.slot = omega (arith, ltb-false b.slot a.slot p, ltb-false c.slot b.slot q) in
        rw (q, le-ltb c.slot a.slot l)

latest-end : (E t v : ℕ) (vs : List Vote) (a : Vote)
    → latest (vs ++ (a ∷ [])) E t v ≡ cond (eqb a.voter v && window E t a.slot) (after (latest vs E t v) a) (latest vs E t v)
unfolding latest later
latest-end E t v [] a = refl
latest-end E t v (c ∷ vs) a =
    ap (λ (f : LatestVote). cond (eqb c.voter v && window E t c.slot) (later c f) f) (latest-end E t v vs a)
    ∙ go (eqb c.voter v && window E t c.slot) (eqb a.voter v && window E t a.slot) (latest vs E t v)
  where
    go : (x y : Bool) (f : LatestVote) → cond x (later c (cond y (after f a) f)) (cond y (after f a) f) ≡ cond y (after (cond x (later c f) f) a) (cond x (later c f) f)
    go true true f = later-after c f a
    go true false f = refl
    go false y f = refl

-- a vote that the window leaves out
pub latest-out : (vs : List Vote) (a : Vote) (E t : ℕ) (kept : List (Option code.Vote)) → window E t a.slot ≡ false
    → Latest vs E t kept → Latest (vs ++ (a ∷ [])) E t kept
latest-out vs a E t kept e L = record { each = λ v l. L.each v l ∙ sym (latest-end E t v vs a ∙ rw (e, and-false (eqb a.voter v))) }

-- one that is no later than the vote held
pub latest-old : (vs : List Vote) (a : Vote) (E t : ℕ) (kept : List (Option code.Vote)) (b : Vote) → last_at kept a.voter ≡ latest_is b → a.slot ≤ b.slot
    → Latest vs E t kept → Latest (vs ++ (a ∷ [])) E t kept
latest-old vs a E t kept b o h L = record { each = λ v l. L.each v l ∙ sym (latest-end E t v vs a ∙ rw (← L.each v l) (go v (eqb a.voter v) refl (window E t a.slot))) }
  where
    go : (v : ℕ) (x : Bool) → eqb a.voter v ≡ x → (c : Bool) → cond (x && c) (after (last_at kept v) a) (last_at kept v) ≡ last_at kept v
    go v true e true = rw (← eqb-true a.voter v e, o, le-ltb b.slot a.slot h)
    go v true e false = refl
    go v false e c = refl

-- the vote held is earlier, or there is none
abbrev pub IsLater : Vote → LatestVote → Type 0
IsLater a no_latest = Unit {0}
IsLater a (latest_is b) = b.slot < a.slot

pub later-than : (a b : code.Vote) (kept : List (Option code.Vote)) (v : ℕ) → get_or kept v None ≡ Some b → b.slot < a.slot → IsLater (vote_of a) (last_at kept v)
unfolding last_at
later-than a b kept v e h = rw e h

pub later-none : (a : code.Vote) (kept : List (Option code.Vote)) (v : ℕ) → get_or kept v None ≡ None → IsLater (vote_of a) (last_at kept v)
unfolding last_at
later-none a kept v e = rw e tt

-- a later one takes its voter's place
pub latest-new : (vs : List Vote) (a : code.Vote) (E t : ℕ) (kept : List (Option code.Vote)) → window E t a.slot ≡ true → IsLater (vote_of a) (last_at kept a.voter)
    → a.voter < length kept → Latest vs E t kept → Latest (vs ++ (vote_of a ∷ [])) E t (set kept a.voter (Some a))
latest-new vs a E t kept w h m L = record { each = λ v l. go v l (eqb a.voter v) refl }
  where
    over : (f : LatestVote) → IsLater (vote_of a) f → after f (vote_of a) ≡ latest_is (vote_of a)
    over no_latest q = refl
    over (latest_is b) q = rw (lt-ltb b.slot a.slot q)

    go : (v : ℕ) → v < loom.nodes → (b : Bool) → eqb a.voter v ≡ b → last_at (set kept a.voter (Some a)) v ≡ latest (vs ++ (vote_of a ∷ [])) E t v
    go v l true e =
        let q : a.voter ≡ v = eqb-true a.voter v e in
        ap (last_at (set kept a.voter (Some a))) (sym q) ∙ last_same kept a.voter (Some a) m
        ∙ sym (latest-end E t v vs (vote_of a) ∙ rw (e, w, ← L.each v l, ← q) (over (last_at kept a.voter) h))
    go v l false e =
        let q : v ≡ a.voter → ⊥ = λ o. eqb-false a.voter v e (sym o) in
        last-other kept a.voter v (Some a) q ∙ L.each v l ∙ sym (latest-end E t v vs (vote_of a) ∙ rw e)

-- ---- one turn: row i was read as m

module _ (w : Bool) (ws : List ℕ) (i : ℕ) (r : Row code.Vote) (read : marked_vote r ≡ row_at make_vote ws i) where
  m : Marked Vote
  m = marked_vote r

  module _ (E t : ℕ) {kept : List (Option code.Vote)} (L : Latest (votes_of w ws i) E t kept) where
    pub out-turn : ((w || r.viewed) && window E t r.entry.slot) ≡ false → Latest (votes_of w ws (i + 1)) E t kept
    out-turn e = go (w || r.viewed) refl e
      where
        go : (b : Bool) → (w || r.viewed) ≡ b → (b && window E t r.entry.slot) ≡ false → Latest (votes_of w ws (i + 1)) E t kept
        go true s q = rw (selected-in make_vote w ws i (marked_vote r) read s) (latest-out (votes_of w ws i) (vote_of r.entry) E t kept q L)
        go false s q = rw (selected-out make_vote w ws i (marked_vote r) read s) L

    module _ (e : ((w || r.viewed) && window E t r.entry.slot) ≡ true) where
      viewed : (w || r.viewed) ≡ true
      viewed = and_left (w || r.viewed) (window E t r.entry.slot) e

      inside : window E t r.entry.slot ≡ true
      inside = and_right (w || r.viewed) (window E t r.entry.slot) e

      pub old-turn : (b : code.Vote) → get_or kept r.entry.voter None ≡ Some b → r.entry.slot ≤ b.slot → Latest (votes_of w ws (i + 1)) E t kept
      unfolding last_at
      old-turn b o h =
          rw (selected-in make_vote w ws i (marked_vote r) read viewed)
          (latest-old (votes_of w ws i) (vote_of r.entry) E t kept (vote_of b) (ap held_vote o) h L)

      pub new-turn : IsLater (vote_of r.entry) (last_at kept r.entry.voter) → r.entry.voter < length kept
          → Latest (votes_of w ws (i + 1)) E t (set kept r.entry.voter (Some r.entry))
      new-turn h a =
          rw (selected-in make_vote w ws i (marked_vote r) read viewed)
          (latest-new (votes_of w ws i) r.entry E t kept inside h a L)

-- ---- the begin

-- an array of nothing holds no vote
pub latest-none : (w : Bool) (ws : List ℕ) (kept : List (Option code.Vote)) (E t : ℕ) → kept ≡ replicate loom.nodes None → Latest (votes_of w ws 0) E t kept
unfolding last_at latest rows_of selected entries view_of
latest-none true ws kept E t e = record { each = λ v l. rw e (rw (get_or-replicate {A = Option code.Vote} loom.nodes v None None l)) }
latest-none false ws kept E t e = record { each = λ v l. rw e (rw (get_or-replicate {A = Option code.Vote} loom.nodes v None None l)) }

-- ---- the window, without a sum

pub window_span : (E t s : ℕ) → leb (t - s) E ≡ leb t (s + E)
window_span E t s =
    same_test (leb (t - s) E) (leb t (s + E)) (λ h. let l = leb-true (t - s) E h in le-leb t (s + E) (omega arith))
    (λ h. let l = leb-true t (s + E) h in le-leb (t - s) E (omega arith))
