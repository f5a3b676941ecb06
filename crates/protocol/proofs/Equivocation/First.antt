-- The first equivocation of a list of votes is the least of its clashes. Assumes nothing.
use Prim.Native.Nat.{ℕ}
use mathlib.Core.Path.{◌≡◌, refl, sym, ap, ◌∙◌}
use mathlib.Core.Bool.{Bool, true, false, ◌||◌, cond, true≢false, false≢true}
use mathlib.Core.List.Memᴰ
use mathlib.Core.List.{List, [], ◌∷◌}
use Rattle.protocol.specs.Entry.{Vote}
use Rattle.protocol.specs.Lists.{any_pass, passing}
use Rattle.protocol.specs.Filters.{conflict}
use Rattle.protocol.specs.Equivocation.{FirstEquivocation, equivocation, no_equivocation, ranks_before, conflicting, lowest_vote, with_first, lowest_of, first_equivocation}
use Rattle.protocol.specs.EquivocationPasses.{lower_ranked}
use Rattle.protocol.proofs.Equivocation.Least.{Table, Least, or_else, joined, entry, lower_of, least-end, least-steps, least-lower}
use Rattle.protocol.proofs.Equivocation.Clash.{vote_for, Among, cast_in, against, clash_of, clash, is-vote, clash-covered}

-- ---- lists with a member

abbrev non_empty : List Vote → Bool
non_empty [] = false
non_empty (a ∷ rest) = true

any-passing : (p : Vote → Bool) (xs : List Vote) → any_pass p xs ≡ non_empty (passing p xs)
unfolding any_pass passing
any-passing p [] = refl
any-passing p (x ∷ xs) = go (p x) (any-passing p xs)
  where
    go : (t : Bool) → any_pass p xs ≡ non_empty (passing p xs) → (t || any_pass p xs) ≡ non_empty (cond t (x ∷ passing p xs) (passing p xs))
    go true e = refl
    go false e = e

-- ---- a vote and the first one that conflicts with it

first-none : (a : Vote) (l : List Vote) → non_empty l ≡ false → with_first a l ≡ no_equivocation
unfolding with_first
first-none a [] e = refl
first-none a (c ∷ l) e = absurd (true≢false e)

first-lower : (a b : Vote) (k l : List Vote) → non_empty k ≡ true → non_empty l ≡ true
    → lower_of (with_first a k) (with_first b l) ≡ cond (ranks_before b.voter b.slot a.voter a.slot) (with_first b l) (with_first a k)
unfolding with_first lower_ranked
first-lower a b [] l e f = absurd (false≢true e)
first-lower a b (c ∷ k) [] e f = absurd (false≢true f)
first-lower a b (c ∷ k) (d ∷ l) e f = refl

first_slot : (v s : ℕ) (a : Vote) (l : List Vote) → entry (with_first a l) v s ≡ cond (cast_in v s a) (with_first (vote_for v s a.number) l) no_equivocation
unfolding with_first
first_slot v s a [] = go (cast_in v s a)
  where
    go : (t : Bool) → no_equivocation ≡ cond t no_equivocation no_equivocation
    go true = refl
    go false = refl
first_slot v s a (c ∷ l) = refl

lower-start : (e : FirstEquivocation) → e ≡ lower_of no_equivocation e
unfolding lower_ranked
lower-start no_equivocation = refl
lower-start (equivocation e) = refl

-- the lower ranked of two votes, the second if neither is
abbrev lower_vote : Vote → Vote → Vote
lower_vote a b = cond (ranks_before a.voter a.slot b.voter b.slot) a b

module _ (vs : List Vote) where
  -- one more vote, in front
  clash-front : (v s : ℕ) (a : Vote) (xs : List Vote) → Among xs vs → or_else (entry (against a vs) v s) (clash xs vs v s) ≡ clash (a ∷ xs) vs v s
  unfolding passing
  clash-front v s a xs f = rw first_slot (go (cast_in v s a) refl)
    where
      go : (t : Bool) → cast_in v s a ≡ t → or_else (cond t (with_first (vote_for v s a.number) (passing (conflict a) vs)) no_equivocation) (clash xs vs v s)
          ≡ clash_of v s (cond t (a ∷ passing (cast_in v s) xs) (passing (cast_in v s) xs)) vs
      go true e = rw (ap (λ b. passing (conflict b) vs) (sym (is-vote v s a e))) (clash-covered v s a.number xs vs f)
      go false e = refl

  -- the lowest ranked of r and of what the votes xs meet
  abbrev lowered : FirstEquivocation → List Vote → FirstEquivocation
  lowered r [] = r
  lowered r (a ∷ xs) = lowered (lower_of r (against a vs)) xs

  lowered-least : (g : Table) (r : FirstEquivocation) (xs : List Vote) → Among xs vs → Least g r → Least (joined g (clash xs vs)) (lowered r xs)
  unfolding passing
  lowered-least g r [] f l = least-end g (clash [] vs) r (λ v s. refl) l
  lowered-least g r (a ∷ xs) f l =
      let e = against a vs in
      let k : Among xs vs = λ c m. f c (Memᴰ.tail m) in
      least-steps g (entry e) (clash xs vs) (clash (a ∷ xs) vs) (lowered (lower_of r e) xs) (λ v s. clash-front v s a xs k)
      (lowered-least (joined g (entry e)) (lower_of r e) xs k (least-lower g r e l))

  -- a vote conflicts with one of vs
  abbrev has_conflict : Vote → Bool
  has_conflict a = any_pass (conflict a) vs

  -- a vote that conflicts with none changes nothing
  lower-none : (r : FirstEquivocation) (a : Vote) → has_conflict a ≡ false → r ≡ lower_of r (against a vs)
  lower-none r a e = rw (first-none a (passing (conflict a) vs) (sym (any-passing (conflict a) vs) ∙ e))

  -- of two that conflict with some, the lower ranked
  lower-some : (a b : Vote) → has_conflict a ≡ true → has_conflict b ≡ true → against (lower_vote b a) vs ≡ lower_of (against a vs) (against b vs)
  lower-some a b e f =
      go (ranks_before b.voter b.slot a.voter a.slot)
      ∙ sym (first-lower a b (passing (conflict a) vs) (passing (conflict b) vs) (sym (any-passing (conflict a) vs) ∙ e) (sym (any-passing (conflict b) vs) ∙ f))
    where
      go : (t : Bool) → against (cond t b a) vs ≡ cond t (against b vs) (against a vs)
      go true = refl
      go false = refl

  -- the lowest of a and of those among xs that conflict with some
  lowest-vote : (a : Vote) (xs : List Vote) → has_conflict a ≡ true → against (lowest_vote a (passing has_conflict xs)) vs ≡ lowered (against a vs) xs
  unfolding passing lowest_vote
  lowest-vote a [] h = refl
  lowest-vote a (x ∷ xs) h = go (has_conflict x) refl (λ b k. lowest-vote b xs k)
    where
      lower : (t : Bool) → has_conflict x ≡ true → has_conflict (cond t x a) ≡ true
      lower true e = e
      lower false e = h

      go : (t : Bool) → has_conflict x ≡ t
          → ((b : Vote) → has_conflict b ≡ true → against (lowest_vote b (passing has_conflict xs)) vs ≡ lowered (against b vs) xs)
          → against (lowest_vote a (cond t (x ∷ passing has_conflict xs) (passing has_conflict xs))) vs ≡ lowered (lower_of (against a vs) (against x vs)) xs
      go true e rec = rec (lower_vote x a) (lower (ranks_before x.voter x.slot a.voter a.slot) e) ∙ ap (λ r. lowered r xs) (lower-some a x h e)
      go false e rec = rec a h ∙ ap (λ r. lowered r xs) (lower-none (against a vs) x e)

  lowest-of : (xs : List Vote) → lowest_of vs (passing has_conflict xs) ≡ lowered no_equivocation xs
  unfolding passing lowest_of
  lowest-of [] = refl
  lowest-of (x ∷ xs) = go (has_conflict x) refl (lowest-of xs)
    where
      go : (t : Bool) → has_conflict x ≡ t → lowest_of vs (passing has_conflict xs) ≡ lowered no_equivocation xs
          → lowest_of vs (cond t (x ∷ passing has_conflict xs) (passing has_conflict xs)) ≡ lowered (lower_of no_equivocation (against x vs)) xs
      go true e rec = lowest-vote x xs e ∙ ap (λ r. lowered r xs) (lower-start (against x vs))
      go false e rec = rec ∙ ap (λ r. lowered r xs) (lower-none no_equivocation x e)

pub first-least : (vs : List Vote) → Least (clash vs vs) (first_equivocation vs)
unfolding first_equivocation conflicting
first-least vs = rw lowest-of (lowered-least vs (λ v s. no_equivocation) no_equivocation vs (λ c m. m) (λ v s. refl))
