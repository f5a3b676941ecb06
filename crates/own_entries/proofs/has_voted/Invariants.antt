-- The loop of `has_voted`: its invariant. Assumes nothing.
use Prim.Native.Nat.{ℕ}
use mathlib.Core.Path.{◌≡◌}
use mathlib.Core.Bool.{Bool, ◌&&◌}
use lib.Dec.{eqb}
use lib.ListN.{drop}
use Rattle.protocol.specs.Entry.{Vote}
use Rattle.protocol.specs.Lists.{any_pass}
use Rattle.protocol.specs.Store.{Marked, entries}
use Rattle.protocol.specs.Lent.{rows_of, make_vote}
use Rattle.own_entries.proofs.has_voted.Given as goal

abbrev pub is_of : ℕ → ℕ → Vote → Bool
is_of voter slot a = eqb a.voter voter && eqb a.slot slot

abbrev pub is_row : ℕ → ℕ → Marked Vote → Bool
is_row voter slot m = is_of voter slot m.entry

abbrev pub invariant-loop-i : goal.invariant-loop-i
invariant-loop-i l = any_pass (is_of l.voter l.slot) (entries (rows_of make_vote l.votes.words.now l.votes.used)) ≡ any_pass (is_row l.voter l.slot) (drop l.i (rows_of make_vote l.votes.words.now l.votes.used))
