-- `best_child` meets its contract. Assumes nothing.
use mathlib.Core.Path.{refl, ap}
use Rattle.fork_choice.proofs.Held.{held}
use Rattle.fork_choice.proofs.Scan.{scan-start, scan-turn, scan-end}
use Rattle.fork_choice.proofs.best_child.Goals as goal

pub loop-c-init : goal.loop-c-init
loop-c-init c =
    scan-start c.requires.4 (held c.args.whole _ _ c.requires.3) (ap (λ o. o.entry.number) c.row-parent.ensures) c.requires.2 refl

pub loop-c-preserved : goal.loop-c-preserved
loop-c-preserved c =
    scan-turn c.requires.4 (held c.args.whole _ _ c.requires.3) (ap (λ o. o.entry.number) c.row-parent.ensures) c.requires.2
    c.loop-c.invariant c.loop-c-test.true c.better_row-best.ensures refl

pub returns : goal.returns
returns c =
    let i = c.loop-c.invariant in
    (i.low, scan-end c.requires.4 (held c.args.whole _ _ c.requires.3) (ap (λ o. o.entry.number) c.row-parent.ensures) c.requires.2 i c.loop-c-test.false)
