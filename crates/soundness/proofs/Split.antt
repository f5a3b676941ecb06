-- Sound blocks and sound votes as one conjunction each: ranges first, then what looks at several rows. Assumes nothing.
use Prim.Native.Nat.{ℕ}
use mathlib.Core.Bool.{Bool, true, false, not, ◌&&◌, and-false}
use mathlib.Core.List.{List, [], ◌∷◌, ◌++◌, append_assoc, append-nil}
use mathlib.Core.Path.{◌≡◌, refl, ap, sym, ◌∙◌}
use native.Mathlib.Omega.{arith}
use borrow.Author.Tests.{le-leb}
use lib.Dec.{eqb, ltb}
use Rattle.protocol.specs.Entry.{Block, Vote}
use Rattle.protocol.specs.Lists.{any_pass, all_pass}
use Rattle.protocol.specs.Chain.{genesis, known}
use Rattle.protocol.specs.Store.{Marked, entries, same_block, same_vote}
use Rattle.protocol.specs.Sound.{in_range, block_sound, rest_sound, blocks_sound, vote_sound, votes_sound}
use Rattle.protocol.proofs.Store.Views.{block_same}
use Rattle.rows.proofs.Find.{known-any}
use Rattle.rows.proofs.Views.{any-entries}
use Rattle.ranges.specs.Rows.{block_in_range, vote_in_range}
use Rattle.search_tree.specs.Lists.{distinct}
use Rattle.search_tree.proofs.Lists.{distinct-end}
use Rattle.index.specs.Links.{numbers_differ, votes_differ}
use Rattle.soundness.specs.Parts.{parent_sound, parents_sound, chain_sound, voted_sound}

-- ---- blocks

-- a number is new if the numbers with it still differ
new-number : (earlier : List (Marked Block)) (m : Marked Block)
    → numbers_differ (earlier ++ (m ∷ [])) ≡ (numbers_differ earlier && not (known (entries earlier) m.entry.number))
unfolding numbers_differ
new-number earlier m =
    distinct-end (λ a b. eqb a.entry.number b.entry.number) earlier m
    ∙ ap (λ (b : Bool). numbers_differ earlier && not b) (sym (known-any (entries earlier) m.entry.number ∙ any-entries (λ c. eqb c.number m.entry.number) earlier))

rest-split : (slot : ℕ) (earlier ms : List (Marked Block))
    → (numbers_differ earlier && rest_sound slot earlier ms) ≡ (all_pass (block_in_range slot) ms && (numbers_differ (earlier ++ ms) && parents_sound earlier ms))
unfolding rest_sound parents_sound all_pass block_sound parent_sound
rest-split slot earlier [] = rw append-nil
rest-split slot earlier (m ∷ ms) =
    let next = earlier ++ (m ∷ []) in
    let a : next ++ ms ≡ earlier ++ m ∷ ms = append_assoc earlier (m ∷ []) ms in
    turn (numbers_differ earlier) (not (known (entries earlier) m.entry.number)) (block_in_range slot m) (parent_sound earlier m) (rest_sound slot next ms)
    ∙ ap (λ (b : Bool). (block_in_range slot m && parent_sound earlier m) && (b && rest_sound slot next ms)) (sym (new-number earlier m))
    ∙ ap (λ (b : Bool). (block_in_range slot m && parent_sound earlier m) && b) (rest-split slot next ms)
    ∙ back (block_in_range slot m) (parent_sound earlier m) (all_pass (block_in_range slot) ms) (numbers_differ (next ++ ms)) (parents_sound next ms)
    ∙ ap (λ (l : List (Marked Block)). (block_in_range slot m && all_pass (block_in_range slot) ms) && (numbers_differ l && (parent_sound earlier m && parents_sound next ms))) a
  where
    turn : (d n r p q : Bool) → (d && ((n && (r && p)) && q)) ≡ ((r && p) && ((d && n) && q))
    turn true true r p q = refl
    turn true false r p q = sym (and-false (r && p))
    turn false n r p q = sym (and-false (r && p))

    back : (r p a d q : Bool) → ((r && p) && (a && (d && q))) ≡ ((r && a) && (d && (p && q)))
    back false p a d q = refl
    back true true a d q = refl
    back true false a d q = sym (simp and-false)

-- block 0 is in range
first-in-range : (slot : ℕ) (m : Marked Block) → same_block m.entry genesis ≡ true → block_in_range slot m ≡ true
first-in-range slot m e = let z : m.entry.slot ≡ 0 = ap (λ b. b.slot) (block_same m.entry genesis e) in le-leb m.entry.slot slot (omega arith)

pub blocks-split : (slot : ℕ) (ms : List (Marked Block)) → blocks_sound slot ms ≡ (all_pass (block_in_range slot) ms && (numbers_differ ms && chain_sound ms))
unfolding blocks_sound chain_sound all_pass numbers_differ distinct any_pass
blocks-split slot [] = refl
blocks-split slot (m ∷ ms) = go (same_block m.entry genesis) refl m.viewed
  where
    go : (g : Bool) → same_block m.entry genesis ≡ g → (s : Bool)
        → (g && (s && rest_sound slot (m ∷ []) ms))
        ≡ ((block_in_range slot m && all_pass (block_in_range slot) ms) && (numbers_differ (m ∷ ms) && ((g && s) && parents_sound (m ∷ []) ms)))
    go false e s = sym (simp and-false)
    go true e false = sym (simp and-false)
    go true e true = rest-split slot (m ∷ []) ms ∙ rw (first-in-range slot m e)

-- ---- votes

pub votes-split : (nodes slot : ℕ) (bs : List (Marked Block)) (ms : List (Marked Vote))
    → votes_sound nodes slot bs ms ≡ (all_pass (vote_in_range nodes slot) ms && (all_pass (voted_sound bs) ms && votes_differ ms))
unfolding votes_sound all_pass votes_differ distinct vote_sound voted_sound
votes-split nodes slot bs [] = refl
votes-split nodes slot bs (m ∷ ms) =
    rw (votes-split nodes slot bs ms, any-entries (same_vote m.entry) ms)
    (turn (ltb m.entry.voter nodes) (in_range 1 slot m.entry.slot) (voted_sound bs m) (not (any_pass (λ b. same_vote m.entry b.entry) ms))
    (all_pass (vote_in_range nodes slot) ms) (all_pass (voted_sound bs) ms) (votes_differ ms))
  where
    turn : (l b w n r v d : Bool) → ((l && (b && w)) && (n && (r && (v && d)))) ≡ (((l && b) && r) && ((w && v) && (n && d)))
    turn false b w n r v d = refl
    turn true false w n r v d = refl
    turn true true false n r v d = sym (and-false r)
    turn true true true true r v d = refl
    turn true true true false r v d = sym (rw (and-false v) (and-false r))
