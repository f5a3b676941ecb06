-- `has_rival` meets its contract. Assumes nothing.
use mathlib.Core.Bool.{false}
use mathlib.Core.Path.{refl, ap, sym, ◌∙◌}
use Rattle.fork_choice.proofs.Held.{held}
use Rattle.settled.proofs.Rivals.{rival-found, rivals-none, search-start, search-turn, search-end}
use Rattle.settled.proofs.has_rival.Goals as goal

pub loop-d-init : goal.loop-d-init
loop-d-init c =
    search-start c.requires.5 (held false _ _ c.requires.4) (ap (λ o. o.entry.number) c.row-parent.ensures) c.requires.2 refl

pub returns-then-is_rival : goal.returns-then-is_rival
returns-then-is_rival c =
    sym (rw (ap (λ o. o.entry.number) c.row-parent.ensures) at (rival-found (held false _ _ c.requires.4) _ _ _ _ _ c.requires.3 _ (c.loop-d.invariant.next.hit c.loop-d-test.true).1
    (sym c.is_rival.ensures ∙ c.if-is_rival.true)))

pub loop-d-preserved : goal.loop-d-preserved
loop-d-preserved c =
    search-turn c.requires.5 (held false _ _ c.requires.4) (ap (λ o. o.entry.number) c.row-parent.ensures) c.requires.2 c.loop-d.invariant c.loop-d-test.true
    (sym c.is_rival.ensures ∙ c.if-is_rival.false) refl

pub returns : goal.returns
returns c =
    let f = ap (λ o. o.entry.number) c.row-parent.ensures in
    sym (rw f at (rivals-none (held false _ _ c.requires.4) _ _ _ _ _ c.requires.3
    (search-end c.requires.5 (held false _ _ c.requires.4) f c.requires.2 c.loop-d.invariant c.loop-d-test.false)))
