-- Sound tables: what every call but Open asks of a node before anything else. Assumes nothing.
use Rattle.std.specs.Prelude.{ℕ, ◌+◌, ◌*◌, ◌/◌, Bool, true, false, not, ◌&&◌, ◌||◌, List, [], ◌∷◌, ◌++◌, length, leb, ltb}
use Rattle.protocol.specs.declared.Settings.{Settings}
use Rattle.protocol.specs.declared.Clock.{Clock}
use Rattle.protocol.specs.Entry.{Block, Vote}
use Rattle.protocol.specs.Limits.{max_slot, max_expiry, max_depth, Limits, limits_of}
use Rattle.protocol.specs.Lists.{any_pass}
use Rattle.protocol.specs.Chain.{genesis, find, found_with, known}
use Rattle.protocol.specs.Store.{Marked, entries, view_of, same_block, same_vote, Places, Node}

unfoldable pub in_range : ℕ → ℕ → ℕ → Bool
in_range a b x = leb a x && leb x b

-- ---- settings, places and clock

unfoldable pub settings_sound : Settings → Bool
settings_sound s =
    in_range 1 (limits_of s.profile).nodes s.nodes
    && (ltb s.own s.nodes && (in_range 1 max_expiry s.expiry && in_range 1 max_depth s.depth))

unfoldable pub places_sound : Limits → Places → Bool
places_sound l p = in_range 1 l.blocks p.blocks && in_range 1 l.votes p.votes

unfoldable pub clock_sound : Clock → Bool
clock_sound c =
    leb (c.seen / 3) max_slot
    && (leb c.done c.seen && (leb (c.merged * 3 + 2) c.done && leb c.proposed (c.seen / 3)))

-- ---- blocks, no slot above `slot`

-- block m may follow the earlier ones: its number is new, its parent stands there with a lower slot, in view if m is
unfoldable pub block_sound : ℕ → List (Marked Block) → Marked Block → Bool
block_sound slot earlier m =
    not (known (entries earlier) m.entry.number)
    && (leb m.entry.slot slot
    && (found_with (λ p. ltb p.slot m.entry.slot) (find (entries earlier) m.entry.parent)
    && (not m.viewed || known (view_of earlier) m.entry.parent)))

unfoldable pub rest_sound : ℕ → List (Marked Block) → List (Marked Block) → Bool
rest_sound slot earlier [] = true
rest_sound slot earlier (m ∷ ms) = block_sound slot earlier m && rest_sound slot (earlier ++ (m ∷ [])) ms

-- block 0 stands first, in view
unfoldable pub blocks_sound : ℕ → List (Marked Block) → Bool
blocks_sound slot [] = false
blocks_sound slot (m ∷ ms) = same_block m.entry genesis && (m.viewed && rest_sound slot (m ∷ []) ms)

-- ---- votes of n voters

unfoldable pub vote_sound : ℕ → ℕ → List (Marked Block) → Marked Vote → Bool
vote_sound n slot bs m =
    ltb m.entry.voter n
    && (in_range 1 slot m.entry.slot
    && (found_with (λ b. leb b.slot m.entry.slot) (find (entries bs) m.entry.number)
    && (not m.viewed || known (view_of bs) m.entry.number)))

-- each is sound, and none stands twice
unfoldable pub votes_sound : ℕ → ℕ → List (Marked Block) → List (Marked Vote) → Bool
votes_sound n slot bs [] = true
votes_sound n slot bs (m ∷ ms) =
    vote_sound n slot bs m && (not (any_pass (same_vote m.entry) (entries ms)) && votes_sound n slot bs ms)

-- ---- the whole

unfoldable pub sound : Settings → Places → Node → Bool
sound s p x =
    settings_sound s
    && (places_sound (limits_of s.profile) p
    && (leb (length x.blocks) p.blocks
    && (leb (length x.votes) p.votes
    && (clock_sound x.clock
    && (blocks_sound (x.clock.seen / 3) x.blocks
    && votes_sound s.nodes (x.clock.seen / 3) x.blocks x.votes)))))
