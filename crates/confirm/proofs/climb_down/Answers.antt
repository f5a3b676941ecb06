-- `climb_down` meets its contract. Assumes nothing.
use mathlib.Core.Bool.{false}
use mathlib.Core.Path.{◌∙◌}
use Rattle.fork_choice.proofs.Held.{held}
use Rattle.confirm.proofs.Descent.{down-end, down-on}
use Rattle.confirm.proofs.climb_down.Goals as goal

pub loop-row-smaller : goal.loop-row-smaller
loop-row-smaller c =
    (down-on (held false _ _ c.requires.1) c.args.m c.loop-row.invariant _ _ c.row-row.ensures c.if-row-m.false (c.link_at-i.ensures ∙ c.requires.2.each _ c.loop-row.invariant.inside)).0

pub loop-row-preserved : goal.loop-row-preserved
loop-row-preserved c =
    (down-on (held false _ _ c.requires.1) c.args.m c.loop-row.invariant _ _ c.row-row.ensures c.if-row-m.false (c.link_at-i.ensures ∙ c.requires.2.each _ c.loop-row.invariant.inside)).1

pub returns : goal.returns
returns c =
    down-end (held false _ _ c.requires.1) c.args.m c.loop-row.invariant _ c.row-row.ensures c.if-row-m.true
