-- The settled block over document 01's cases, as one table: what each set of silent voters leaves, by all its fillings. Each row tells some slip
-- from the rule. Assumes nothing.
use Prim.Native.Nat.{ℕ}
use mathlib.Core.Path.{◌≡◌, refl}
use mathlib.Core.Bool.{Bool}
use mathlib.Core.List.{List, [], ◌∷◌}
use lib.Dec.{eqb}
use Rattle.protocol.specs.Entry.{Block}
use Rattle.protocol.specs.Lists.{any_pass, all_pass}
use Rattle.protocol.specs.Chain.{genesis, find, slot_in, chain_step, chain_in, chain, at_or_above}
use Rattle.protocol.specs.Filters.{conflict, equivocates, window, later, latest, choice_of, kept_choice}
use Rattle.protocol.specs.Walk.{count_below, supports, weight, is_child, beats, better, best_child, walk_step, walk_in, walk}
use Rattle.protocol.specs.Confirm.{height, higher, highest}
use Rattle.protocol.specs.Settled.{fillers, giving, every_filling, filled, number_or_zero, filled_head, on_every_chain, settled_block}
use Rattle.protocol.proofs.Cases.{block, blocks, votes}

abbrev pub these : List ℕ → ℕ → Bool
these xs v = any_pass (λ x. eqb x v) xs

abbrev pub settled_for : ℕ → List ℕ → ℕ
settled_for t xs = settled_block blocks votes 5 2 t (these xs)

-- a child of slot 4 beside one of slot 3, and no votes
abbrev pub late : ℕ → List Block
late x = genesis ∷ block 11 0 1 ∷ block x 11 4 ∷ block 31 11 3 ∷ []

pub record SettledCases : Type 0 where
  pub none-4 : settled_for 4 [] ≡ 31
  -- 11 has two voters, 21 two and one more
  pub spare-4 : settled_for 4 (0 ∷ []) ≡ 0
  -- two against one and one more: the smaller number
  pub tie-4 : settled_for 4 (1 ∷ []) ≡ 31
  -- a silent voter's own vote does not count: one for 11, and 21 has two
  pub own-4 : settled_for 4 (4 ∷ []) ≡ 0
  pub tie-two-4 : settled_for 4 (1 ∷ 3 ∷ []) ≡ 31
  pub three-4 : settled_for 4 (0 ∷ 1 ∷ 3 ∷ []) ≡ 0
  pub none-3 : settled_for 3 [] ≡ 31
  pub one-3 : settled_for 3 (1 ∷ []) ≡ 31
  pub lost-3 : settled_for 3 (4 ∷ []) ≡ 0
  -- 21 has slot 2, so for slot 2 no silent voter counts for it
  pub late-2 : settled_for 2 (1 ∷ 2 ∷ 3 ∷ 4 ∷ []) ≡ 11
  pub late-all-2 : settled_for 2 (0 ∷ 1 ∷ 2 ∷ 3 ∷ 4 ∷ []) ≡ 11
  -- 41 has slot 4 and takes no filling: 31 stays before it
  pub late-child : settled_block (late 41) [] 5 2 4 (these []) ≡ 31
  pub late-rival : settled_block (late 41) [] 5 2 4 (these (0 ∷ [])) ≡ 31
  -- 30 in its place is the best child, and one silent voter may turn the head to 31
  pub late-best : settled_block (late 30) [] 5 2 4 (these []) ≡ 30
  pub late_turned : settled_block (late 30) [] 5 2 4 (these (0 ∷ [])) ≡ 11

pub settled-cases : SettledCases
unfolding any_pass all_pass find slot_in chain_step chain_in chain at_or_above conflict equivocates window later latest choice_of kept_choice count_below supports weight is_child beats better best_child walk_step walk_in walk height higher highest fillers giving every_filling filled number_or_zero filled_head on_every_chain settled_block
settled-cases =
    record {
      none-4 = refl;
      spare-4 = refl;
      tie-4 = refl;
      own-4 = refl;
      tie-two-4 = refl;
      three-4 = refl;
      none-3 = refl;
      one-3 = refl;
      lost-3 = refl;
      late-2 = refl;
      late-all-2 = refl;
      late-child = refl;
      late-rival = refl;
      late-best = refl;
      late_turned = refl;
    }
