-- `latest_next` meets its contract. Assumes nothing.
use native.Mathlib.Omega.{arith}
use mathlib.Core.Path.{sym, ap, ◌∙◌}
use Rattle.protocol.specs.Words.{vote_of}
use Rattle.vote_filters.specs.Latest.{last_at}
use Rattle.vote_filters.proofs.Latest.{IsLater, later-than, later-none, out-turn, old-turn, new-turn}
use Rattle.vote_filters.proofs.latest_next.Goals as goal
use Rattle.vote_filters.proofs.latest_next.Goals.{in_default-via-in-Some+else-row-held, in_default-via-in_default}

pub returns-in-Some : goal.returns-in-Some
returns-in-Some c =
    old-turn _ _ _ _ c.row-row.ensures _ _ c.requires.3 (sym c.counts.ensures ∙ c.if-counts.true) c.in-Some.held c.in-Some.is c.if-row-held.true

pub returns-in_default : goal.returns-in_default
returns-in_default c =
    let later : IsLater (vote_of c.row-row.result.entry) (last_at c.args.kept.now c.row-row.result.entry.voter)
    = elim c.in_default.branch [
      | in_default-via-in-Some+else-row-held w ↦ later-than c.row-row.result.entry w.in-Some.held _ _ w.in-Some.is w.if-row-held.false
      | in_default-via-in_default w ↦ later-none c.row-row.result.entry _ _ w.in_default.is
    ] in
    new-turn _ _ _ _ c.row-row.ensures _ _ c.requires.3 (sym c.counts.ensures ∙ c.if-counts.true) later
    (omega (arith, c.requires.1 c.args.i (omega arith), ap (λ o. o.entry.voter) c.row-row.ensures))

pub returns-else-counts : goal.returns-else-counts
returns-else-counts c =
    out-turn _ _ _ _ c.row-row.ensures _ _ c.requires.3 (sym c.counts.ensures ∙ c.if-counts.false)
