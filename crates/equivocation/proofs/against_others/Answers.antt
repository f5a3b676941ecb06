-- `against_others` meets its contract. Assumes nothing.
use native.Mathlib.Omega.{arith}
use mathlib.Core.Path.{sym, ◌∙◌}
use Rattle.index.proofs.Firsts.{linked-within}
use Rattle.equivocation.proofs.Passes.{against-turn, against-end}
use Rattle.equivocation.proofs.against_others.Goals as goal

pub meet_at-best-requires : goal.meet_at-best-requires
meet_at-best-requires c = omega (arith, linked-within _ c.known_slot-other.ensures, c.count-n.ensures.0)

pub loop-i-preserved : goal.loop-i-preserved
loop-i-preserved c =
    let l = c.loop-i in
    against-turn _ _ l.i _ c.at-vote.ensures (rw c.count-n.ensures.0 at c.known_slot-other.ensures) c.meet_at-best.ensures
    (omega (arith, c.count-i-end.ensures.0, c.loop-i-test.true))
    ∙ l.invariant

pub returns : goal.returns
returns c =
    let l = c.loop-i in
    sym (against-end _ _ l.i _ (omega (arith, c.count-i-end.ensures.0, c.loop-i-test.false))) ∙ l.invariant
