-- The rules of sound tables that look at several rows, each by itself, as code tests them. Assumes nothing.
use Rattle.std.specs.Prelude.{ℕ, Bool, true, false, not, ◌&&◌, ◌||◌, List, [], ◌∷◌, ◌++◌, ◌≡◌, leb, ltb}
use Rattle.protocol.specs.Entry.{Block, Vote}
use Rattle.protocol.specs.Lists.{all_pass}
use Rattle.protocol.specs.Chain.{genesis, find, found_with, known}
use Rattle.protocol.specs.Store.{Marked, entries, view_of, same_block}
use Rattle.protocol.specs.Lent.{BlocksFit, rows_of, make_block, make_vote}
use Rattle.index.specs.Links.{numbers_differ, votes_differ, BlockIndex, VoteIndex}

-- the parent of m stands among the earlier blocks with a lower slot, in view if m is
unfoldable pub parent_sound : List (Marked Block) → Marked Block → Bool
parent_sound earlier m =
    found_with (λ p. ltb p.slot m.entry.slot) (find (entries earlier) m.entry.parent)
    && (not m.viewed || known (view_of earlier) m.entry.parent)

unfoldable pub parents_sound : List (Marked Block) → List (Marked Block) → Bool
parents_sound earlier [] = true
parents_sound earlier (m ∷ ms) = parent_sound earlier m && parents_sound (earlier ++ (m ∷ [])) ms

-- block 0 stands first, in view, and the parents of the others are sound
unfoldable pub chain_sound : List (Marked Block) → Bool
chain_sound [] = false
chain_sound (m ∷ ms) = (same_block m.entry genesis && m.viewed) && parents_sound (m ∷ []) ms

-- the block of vote m is there with no later slot, in view if m is
unfoldable pub voted_sound : List (Marked Block) → Marked Vote → Bool
voted_sound bs m =
    found_with (λ b. leb b.slot m.entry.slot) (find (entries bs) m.entry.number)
    && (not m.viewed || known (view_of bs) m.entry.number)

unfoldable pub tables_sound : List (Marked Block) → List (Marked Vote) → Bool
tables_sound bs vs = numbers_differ bs && (chain_sound bs && (all_pass (voted_sound bs) vs && votes_differ vs))

-- the links are an index of the first n blocks, whose numbers differ
pub record Indexed (ws : List ℕ) (n : ℕ) (ls : List ℕ) : Type 0 where
  pub fit : BlocksFit n ws
  pub index : BlockIndex ws n ls
  pub unrepeated : numbers_differ (rows_of make_block ws n) ≡ true

-- and of the votes, none of which stands twice
pub record TablesIndexed (bw : List ℕ) (bu : ℕ) (bl : List ℕ) (vw : List ℕ) (vu : ℕ) (vl : List ℕ) : Type 0 where
  pub blocks : Indexed bw bu bl
  pub votes : VoteIndex vw vu vl
  pub unrepeated : votes_differ (rows_of make_vote vw vu) ≡ true
