-- What code answers as an equivocation, or none; and what a vote meets by a link. Assumes nothing.
use Rattle.std.specs.Prelude.{ℕ, zero, suc, Option, Some, None, List, get_or}
use Rattle.protocol.specs.Entry.{Vote}
use Rattle.protocol.specs.Words.{value}
use Rattle.protocol.specs.Equivocation.{Equivocation, FirstEquivocation, equivocation, no_equivocation}
use Rattle.protocol.specs.EquivocationPasses.{meet}
use Rattle.packets.specs.Header.{no_vote}
use Rattle.equivocation.specs.declared.Equivocation.{Equivocation as CodeEquivocation}

abbrev pub equivocation_of : CodeEquivocation → Equivocation
equivocation_of e = record { voter = e.voter; slot = e.slot; block = value e.block; other = value e.other }

abbrev pub first_of : Option CodeEquivocation → FirstEquivocation
first_of (Some e) = equivocation (equivocation_of e)
first_of None = no_equivocation

-- vote a has met what a link is to: one of these votes, or none
unfoldable pub met_at : FirstEquivocation → List Vote → ℕ → Vote → FirstEquivocation
met_at best vs zero a = best
met_at best vs (suc p) a = meet best (get_or vs p no_vote) a
