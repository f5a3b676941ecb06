-- `lower_ranked` meets its contract. Assumes nothing.
use mathlib.Core.Bool.{true, false}
use mathlib.Core.Path.{◌≡◌, ap, sym, ◌∙◌}
use Rattle.protocol.specs.Equivocation.{Equivocation, FirstEquivocation, equivocation, no_equivocation, ranks_before}
use Rattle.protocol.specs.EquivocationPasses.{lower_ranked}
use Rattle.equivocation.specs.First.{first_of}
use Rattle.equivocation.proofs.lower_ranked.Goals as goal

module _ {b : FirstEquivocation} (e : Equivocation) where
  first : b ≡ no_equivocation → equivocation e ≡ lower_ranked b e
  unfolding lower_ranked
  first p = rw p

  module _ (f : Equivocation) (p : b ≡ equivocation f) where
    kept : ranks_before e.voter e.slot f.voter f.slot ≡ false → equivocation f ≡ lower_ranked b e
    unfolding lower_ranked
    kept q = rw (p, q)

    replaced : ranks_before e.voter e.slot f.voter f.slot ≡ true → equivocation e ≡ lower_ranked b e
    unfolding lower_ranked
    replaced q = rw (p, q)

pub returns-in_default : goal.returns-in_default
returns-in_default c = first _ (ap first_of c.in_default.is)

pub returns-then-ranks_before : goal.returns-then-ranks_before
returns-then-ranks_before c = replaced _ _ (ap first_of c.in-Some.is) (sym c.ranks_before.ensures ∙ c.if-ranks_before.true)

pub returns-else-ranks_before : goal.returns-else-ranks_before
returns-else-ranks_before c = kept _ _ (ap first_of c.in-Some.is) (sym c.ranks_before.ensures ∙ c.if-ranks_before.false)
