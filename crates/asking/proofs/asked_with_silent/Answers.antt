-- `asking::asked_with_silent` meets its contract. Assumes nothing.
use Rattle.std.proofs.Common.{ℕ, ap, ◌∙◌}
use Rattle.asking.specs.declared.Question.TheVariants.{Settled}
use Rattle.asking.specs.Ask.{ask_after, ask_with_silent}
use Rattle.asking.proofs.asked_with_silent.Goals as goal

pub returns : goal.returns
unfolding ask_with_silent
returns c = c.asked_after.ensures ∙ ap (λ (x : ℕ). ask_after 17 (Settled x) c.args.input.now) c.number_at-silent.ensures.0
