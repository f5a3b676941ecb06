-- The first equivocation as the function finds it is the one that the quantifiers say. Assumes nothing.
use Prim.Native.Nat.{ℕ}
use mathlib.Core.Path.{◌≡◌, refl, sym, ◌∙◌, subst}
use mathlib.Core.Bool.{Bool, true, false}
use mathlib.Core.List.Memᴰ
use mathlib.Core.List.{List, [], ◌∷◌, Memᴰ}
use lib.Dec.{eqb}
use borrow.Author.Tests.{eqb-true, ne_eqb}
use Rattle.protocol.specs.Entry.{Vote}
use Rattle.protocol.specs.Lists.{passing}
use Rattle.protocol.specs.Equivocation.{Equivocation, FirstEquivocation, equivocation, no_equivocation, first_equivocation, VotesTwice, MetInOrder, IsFirst, EquivocationFound}
use Rattle.protocol.proofs.Basics.Filter.{filter-has}
use Rattle.protocol.proofs.Equivocation.Ranks.{lower-voter, earlier-slot}
use Rattle.protocol.proofs.Equivocation.Least.{Least}
use Rattle.protocol.proofs.Equivocation.Clash.{vote_for, cast_in, against, clash_of, clash, cast-in, against-found}
use Rattle.protocol.proofs.Equivocation.First.{first-least}
use Rattle.protocol.proofs.Equivocation.Order.{met-in-order}

-- two different votes clash
twice-clash : (vs : List Vote) (v s : ℕ) → VotesTwice vs v s → clash vs vs v s ≡ no_equivocation → ⊥
twice-clash vs v s t =
    let one = vote_for v s t.one_block in
    go (passing (cast_in v s) vs) (filter-has (cast_in v s) one t.one_vote (cast-in v s one refl refl))
  where
    hit : (x y : ℕ) → Memᴰ (vote_for v s y) vs → eqb x y ≡ false → against (vote_for v s x) vs ≡ no_equivocation → ⊥
    hit x y m = against-found v s x (vote_for v s y) vs m (cast-in v s (vote_for v s y) refl refl)

    -- the first block differs from one of the two
    pick : (x : ℕ) (b : Bool) → eqb x t.one_block ≡ b → against (vote_for v s x) vs ≡ no_equivocation → ⊥
    pick x true e = hit x t.other_block t.other_vote (ne_eqb x t.other_block (λ q. t.differing (sym (eqb-true x t.one_block e) ∙ q)))
    pick x false e = hit x t.one_block t.one_vote e

    go : (l : List Vote) → Memᴰ (vote_for v s t.one_block) l → clash_of v s l vs ≡ no_equivocation → ⊥
    go [] m = absurd (Memᴰ.not-nil m)
    go (b ∷ l) m = pick b.number (eqb b.number t.one_block) refl

met-twice : (vs : List Vote) (e : Equivocation) → MetInOrder vs e → VotesTwice vs e.voter e.slot
met-twice vs e m = record {
  one_block = e.block;
  other_block = e.other;
  one_vote = rw m.in_turn (Memᴰ.append_right m.front (Memᴰ.head refl));
  other_vote = rw m.in_turn (Memᴰ.append_right m.front (Memᴰ.tail (Memᴰ.append_right m.amid (Memᴰ.head refl))));
  differing = m.differing;
}

is-first : (vs : List Vote) (e : Equivocation) → Least (clash vs vs) (equivocation e) → IsFirst vs e
is-first vs e l = let m = met-in-order e.voter e.slot vs e l.0 in record {
  votes_twice = met-twice vs e m;
  lowest_voter = λ v s h t. twice-clash vs v s t (l.1 v s (lower-voter v s e.voter e.slot h));
  earliest_slot = λ s h t. twice-clash vs e.voter s t (l.1 e.voter s (earlier-slot e.voter s e.voter e.slot refl h));
  met_in_order = m;
}

pub equivocation-found : EquivocationFound
unfolding EquivocationFound
equivocation-found vs = (
  λ e v s t. twice-clash vs v s t (subst (Least (clash vs vs)) e (first-least vs) v s),
  (λ f. go f (first_equivocation vs) (first-least vs)),
  (λ e p. is-first vs e (subst (Least (clash vs vs)) p (first-least vs))),
)
  where
    go : ((v s : ℕ) → VotesTwice vs v s → ⊥) → (r : FirstEquivocation) → Least (clash vs vs) r → r ≡ no_equivocation
    go f no_equivocation l = refl
    go f (equivocation e) l = absurd (f e.voter e.slot (is-first vs e l).votes_twice)
