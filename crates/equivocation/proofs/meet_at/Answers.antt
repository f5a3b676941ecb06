-- `meet_at` meets its contract. Assumes nothing.
use mathlib.Core.Path.{ap, ◌∙◌}
use Rattle.protocol.specs.Entry.{Vote}
use Rattle.protocol.specs.Words.{vote_of}
use Rattle.protocol.specs.EquivocationPasses.{meet}
use Rattle.equivocation.specs.First.{first_of, met_at}
use Rattle.equivocation.proofs.meet_at.Goals as goal

pub returns-in-None : goal.returns-in-None
unfolding met_at
returns-in-None c = rw c.in-None.is

pub returns-in-Some : goal.returns-in-Some
unfolding met_at
returns-in-Some c = c.meet.ensures ∙ rw c.in-Some.is (ap (λ (b : Vote). meet (first_of c.args.best) b (vote_of c.args.a)) c.at.ensures)
