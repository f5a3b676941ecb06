-- `beats` meets its contract. Assumes nothing.
use mathlib.Core.Path.{◌∙◌}
use Rattle.fork_choice.proofs.Best.{beats-apart, beats-tie}
use Rattle.fork_choice.proofs.beats.Goals as goal

pub returns-then-x-y : goal.returns-then-x-y
returns-then-x-y c = beats-apart _ _ _ _ c.if-x-y.true

pub returns : goal.returns
returns c =
    c.is_below.ensures ∙ beats-tie _ _ _ _ _ _ c.row-p.ensures c.row-q.ensures c.if-x-y.false
