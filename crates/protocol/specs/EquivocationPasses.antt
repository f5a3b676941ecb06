-- The passes that find the first equivocation of two packets' votes: those of the first packet among themselves, those of the second against the first's,
-- those of the second among themselves. Each vote is held against the first one of its voter and slot alone. That they find what specs/Equivocation says
-- is proved, so this is not to be believed. Assumes nothing.
use Rattle.std.specs.Prelude.{ℕ, ◌≡◌, Bool, ◌&&◌, cond, List, [], ◌∷◌, ◌++◌, eqb}
use Rattle.protocol.specs.Entry.{Vote}
use Rattle.protocol.specs.Lists.{passing}
use Rattle.protocol.specs.Equivocation.{Equivocation, FirstEquivocation, equivocation, no_equivocation, ranks_before, first_equivocation}

unfoldable pub same_slot : Vote → Vote → Bool
same_slot a b = eqb a.voter b.voter && eqb a.slot b.slot

-- the one of these that ranks before; the one found already, if neither does
unfoldable pub lower_ranked : FirstEquivocation → Equivocation → FirstEquivocation
lower_ranked no_equivocation e = equivocation e
lower_ranked (equivocation f) e = cond (ranks_before e.voter e.slot f.voter f.slot) (equivocation e) (equivocation f)

-- vote a has met b, the first one of its voter and slot
unfoldable pub meet : FirstEquivocation → Vote → Vote → FirstEquivocation
meet best b a =
    cond (eqb b.number a.number) best (lower_ranked best (record { voter = a.voter; slot = a.slot; block = b.number; other = a.number }))

-- the votes of a's voter and slot, in their order, are these
unfoldable pub meet_first : FirstEquivocation → List Vote → Vote → FirstEquivocation
meet_first best [] a = best
meet_first best (b ∷ rest) a = meet best b a

-- vote a is held against these votes
unfoldable pub meet_among : List Vote → FirstEquivocation → Vote → FirstEquivocation
meet_among vs best a = meet_first best (passing (same_slot a) vs) a

-- votes, each held against those before it: these, and the ones passed by
unfoldable pub among_themselves : List Vote → FirstEquivocation → List Vote → FirstEquivocation
among_themselves vs best [] = best
among_themselves vs best (a ∷ rest) = among_themselves (vs ++ (a ∷ [])) (meet_among vs best a) rest

-- votes, each held against these
unfoldable pub against_others : List Vote → FirstEquivocation → List Vote → FirstEquivocation
against_others vs best [] = best
against_others vs best (a ∷ rest) = against_others vs (meet_among vs best a) rest

unfoldable pub three_passes : List Vote → List Vote → FirstEquivocation
three_passes vs ws = among_themselves [] (against_others vs (among_themselves [] no_equivocation vs) ws) ws

unfoldable pub PassesFind : Type 0
PassesFind = (vs ws : List Vote) → three_passes vs ws ≡ first_equivocation (vs ++ ws)
