-- `kept_votes` meets its contract. Assumes nothing.
use native.Mathlib.Omega.{arith}
use mathlib.Core.Path.{ap, sym, ◌∙◌}
use lib.ListN.{length, length-replicate}
use Rattle.std.specs.Prelude.{Option, None}
use Rattle.protocol.specs.declared.Vote.{Vote}
use Rattle.vote_filters.proofs.Kept.{dropped-more, dropped-all}
use Rattle.vote_filters.proofs.Latest.{latest-none}
use Rattle.vote_filters.proofs.kept_votes.Goals as goal
use Rattle.vote_filters.proofs.kept_votes.Goals.{then-has, else-has}

pub gather-dropped-requires : goal.gather-dropped-requires
gather-dropped-requires c =
    (c.requires.0, c.requires.1, ap length c.requires.2 ∙ length-replicate {A = Option Vote} 64 None, latest-none _ _ _ _ _ c.requires.2)

pub loop-v-preserved : goal.loop-v-preserved
loop-v-preserved c =
    dropped-more _ _ _ _ _ c.loop-v.invariant
    (elim c.if-has.branch [
      | then-has w ↦ w.kept-is ∙ simp (sym c.has.ensures ∙ w.if-has.true)
      | else-has w ↦ w.kept-is ∙ simp (sym c.has.ensures ∙ w.if-has.false)
    ])
    (omega (arith, c.loop-v.auto.kept, c.gather-dropped.auto.kept, ap length c.requires.2, length-replicate {A = Option Vote} 64 None))

pub returns : goal.returns
returns c =
    dropped-all _ _ _ _ _ c.loop-v.invariant (omega arith) c.gather-dropped.ensures.0
