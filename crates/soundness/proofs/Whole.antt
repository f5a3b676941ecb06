-- Sound memory as one conjunction of the tests of code. Assumes nothing.
use Prim.Native.Nat.{◌/◌}
use mathlib.Core.Bool.{Bool, true, false, ◌&&◌, and-false}
use mathlib.Core.Path.{◌≡◌, refl, ap, sym}
use lib.Dec.{leb}
use Rattle.protocol.specs.declared.Settings.{Settings}
use Rattle.protocol.specs.Lists.{all_pass}
use Rattle.protocol.specs.Limits.{limits_of}
use Rattle.protocol.specs.Sound.{settings_sound, places_sound, clock_sound, sound}
use Rattle.protocol.specs.Lent.{block_words, vote_words, Lent, rows_of, make_block, make_vote, places_in, places_of, node_of, marks_sound, lent_sound}
use Rattle.protocol.proofs.Lent.Rows.{length-rows_of}
use Rattle.ranges.specs.Rows.{block_in_range, vote_in_range}
use Rattle.index.specs.Links.{numbers_differ, votes_differ}
use Rattle.soundness.specs.Parts.{chain_sound, voted_sound, tables_sound}
use Rattle.soundness.proofs.Split.{blocks-split, votes-split}

pub whole : (s : Settings) (m : Lent) → lent_sound s m
    ≡ (settings_sound s
    && (places_sound (limits_of s.profile) (record { blocks = places_in block_words m.blocks; votes = places_in vote_words m.votes })
    && (leb m.blocks_used (places_in block_words m.blocks)
    && (leb m.votes_used (places_in vote_words m.votes)
    && (clock_sound m.clock
    && ((marks_sound make_block m.blocks m.blocks_used && all_pass (block_in_range (m.clock.seen / 3)) (rows_of make_block m.blocks m.blocks_used))
    && ((marks_sound make_vote m.votes m.votes_used && all_pass (vote_in_range s.nodes (m.clock.seen / 3)) (rows_of make_vote m.votes m.votes_used))
    && tables_sound (rows_of make_block m.blocks m.blocks_used) (rows_of make_vote m.votes m.votes_used))))))))
unfolding lent_sound sound places_of node_of tables_sound
whole s m =
    let bs = rows_of make_block m.blocks m.blocks_used in
    let vs = rows_of make_vote m.votes m.votes_used in
    let slot = m.clock.seen / 3 in
    rw (length-rows_of make_block m.blocks m.blocks_used, length-rows_of make_vote m.votes m.votes_used, blocks-split slot bs, votes-split s.nodes slot bs vs)
    (order (marks_sound make_block m.blocks m.blocks_used) (marks_sound make_vote m.votes m.votes_used) (settings_sound s)
    (places_sound (limits_of s.profile) (record { blocks = places_in block_words m.blocks; votes = places_in vote_words m.votes }))
    (leb m.blocks_used (places_in block_words m.blocks)) (leb m.votes_used (places_in vote_words m.votes)) (clock_sound m.clock)
    (all_pass (block_in_range slot) bs) (numbers_differ bs) (chain_sound bs) (all_pass (vote_in_range s.nodes slot) vs) (all_pass (voted_sound bs) vs && votes_differ vs))
  where
    inner : (r d k v w : Bool) → ((r && (d && k)) && (v && w)) ≡ (r && (v && (d && (k && w))))
    inner false d k v w = refl
    inner true true true v w = refl
    inner true true false v w = sym (and-false v)
    inner true false k v w = sym (and-false v)

    order : (a b s p f g c r d k v w : Bool)
        → (a && (b && (s && (p && (f && (g && (c && ((r && (d && k)) && (v && w)))))))))
        ≡ (s && (p && (f && (g && (c && ((a && r) && ((b && v) && (d && (k && w)))))))))
    order true true s p f g c r d k v w = ap (λ (x : Bool). s && (p && (f && (g && (c && x))))) (inner r d k v w)
    order true false s p f g c r d k v w = sym (simp and-false)
    order false b s p f g c r d k v w = sym (simp and-false)
