-- The loop of `top`: its invariant. Assumes nothing.
use mathlib.Core.Path.{◌≡◌}
use Rattle.confirm.specs.Top.{top_choice}
use Rattle.confirm.proofs.top.Given as goal

abbrev pub invariant-loop-i : goal.invariant-loop-i
invariant-loop-i l = top_choice l.blocks.words.now l.masks l.n l.blocks.used ≡ top_choice l.blocks.words.now l.masks l.n l.i
