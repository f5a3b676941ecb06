-- The first equivocation among votes in their order: the lowest voter with two different votes of one slot, its earliest such slot, and the first two
-- different blocks that it voted for there. First as a function, which computes, then the same with quantifiers. Assumes nothing.
use Rattle.std.specs.Prelude.{ℕ, ◌<◌, ◌≡◌, Bool, ◌&&◌, ◌||◌, cond, ltb, eqb}
use mathlib.Core.List.{List, [], ◌∷◌, ◌++◌, Memᴰ}
use Rattle.protocol.specs.Entry.{Vote}
use Rattle.protocol.specs.Lists.{any_pass, passing}
use Rattle.protocol.specs.Filters.{conflict}

-- two different votes of a voter in one slot: the first is for `block`, the first other one for `other`
pub record Equivocation : Type 0 where
  pub voter : ℕ
  pub slot : ℕ
  pub block : ℕ
  pub other : ℕ

pub data FirstEquivocation : Type 0 where
  equivocation : Equivocation → FirstEquivocation
  no_equivocation : FirstEquivocation

-- ---- as a function

-- the votes that conflict with another one
unfoldable pub conflicting : List Vote → List Vote
conflicting vs = passing (λ a. any_pass (conflict a) vs) vs

-- a lower voter, or an earlier slot of the same
unfoldable pub ranks_before : ℕ → ℕ → ℕ → ℕ → Bool
ranks_before v s u t = ltb v u || (eqb v u && ltb s t)

-- the first of the lowest voter's votes of its earliest slot, among a and the votes behind it
unfoldable pub lowest_vote : Vote → List Vote → Vote
lowest_vote a [] = a
lowest_vote a (b ∷ rest) = lowest_vote (cond (ranks_before b.voter b.slot a.voter a.slot) b a) rest

-- vote a, and the first of the votes that conflict with it
unfoldable pub with_first : Vote → List Vote → FirstEquivocation
with_first a [] = no_equivocation
with_first a (b ∷ rest) = equivocation (record { voter = a.voter; slot = a.slot; block = a.number; other = b.number })

unfoldable pub lowest_of : List Vote → List Vote → FirstEquivocation
lowest_of vs [] = no_equivocation
lowest_of vs (a ∷ rest) = let l = lowest_vote a rest in with_first l (passing (conflict l) vs)

unfoldable pub first_equivocation : List Vote → FirstEquivocation
first_equivocation vs = lowest_of vs (conflicting vs)

-- ---- with quantifiers

-- voter v has two different votes of slot s
pub record VotesTwice (vs : List Vote) (v s : ℕ) : Type 0 where
  pub one_block : ℕ
  pub other_block : ℕ
  pub one_vote : Memᴰ (record { voter = v; slot = s; number = one_block }) vs
  pub other_vote : Memᴰ (record { voter = v; slot = s; number = other_block }) vs
  pub differing : one_block ≡ other_block → ⊥

-- The votes in their order: the vote for `block` is the first of this voter and slot, and the one for `other` the first of them for another block.
pub record MetInOrder (vs : List Vote) (e : Equivocation) : Type 0 where
  pub front : List Vote
  pub amid : List Vote
  pub rear : List Vote
  pub in_turn :
      vs
      ≡ front
      ++ (record { voter = e.voter; slot = e.slot; number = e.block }
      ∷ amid
      ++ (record { voter = e.voter; slot = e.slot; number = e.other } ∷ rear))
  pub none_in_front : (a : Vote) → Memᴰ a front → a.voter ≡ e.voter → a.slot ≡ e.slot → ⊥
  pub same_amid : (a : Vote) → Memᴰ a amid → a.voter ≡ e.voter → a.slot ≡ e.slot → a.number ≡ e.block
  pub differing : e.block ≡ e.other → ⊥

pub record IsFirst (vs : List Vote) (e : Equivocation) : Type 0 where
  pub votes_twice : VotesTwice vs e.voter e.slot
  pub lowest_voter : (v s : ℕ) → v < e.voter → VotesTwice vs v s → ⊥
  pub earliest_slot : (s : ℕ) → s < e.slot → VotesTwice vs e.voter s → ⊥
  pub met_in_order : MetInOrder vs e

unfoldable pub EquivocationFound : Type 0
EquivocationFound =
    (vs : List Vote) →
    -- none is found exactly if nobody voted twice
    (first_equivocation vs ≡ no_equivocation → (v s : ℕ) → VotesTwice vs v s → ⊥)
    × (((v s : ℕ) → VotesTwice vs v s → ⊥) → first_equivocation vs ≡ no_equivocation)
    -- one that is found is the lowest voter's, in its earliest slot, with the first two different blocks
    × ((e : Equivocation) → first_equivocation vs ≡ equivocation e → IsFirst vs e)
