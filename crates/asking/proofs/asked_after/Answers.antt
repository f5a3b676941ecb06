-- `asking::asked_after` meets its contract. Assumes nothing.
use Rattle.std.proofs.Common.{refl, ◌∙◌}
use Rattle.std.proofs.lemmas.Result.{err_from_is_err_and}
use borrow.Author.Tests.{le-ltb, lt-ltb}
use Rattle.protocol.specs.Lent.{places_in, node_of, rows_of}
use Rattle.asking.specs.Ask.{ask_for, open_and_ask, ask_after}
use Rattle.asking.proofs.Steps.{not-asked, asked-after, places-are, ask-within}
use Rattle.asking.proofs.asked_after.Goals.{then-input-n-via-then-input-n, then-input-n-via-else-input-n+then-input-gt32768}
use Rattle.asking.proofs.asked_after.Goals as goal

pub returns-then-input-n : goal.returns-then-input-n
unfolding ask_after
returns-then-input-n c = elim c.then-input-n.branch [
  | then-input-n-via-then-input-n w ↦ simp (lt-ltb _ _ w.if-input-n.true)
  | then-input-n-via-else-input-n+then-input-gt32768 w ↦ simp (le-ltb _ _ w.if-input-n.false, lt-ltb _ _ w.if-input-gt32768.true)
]

pub returns-in_err-prepared : goal.returns-in_err-prepared
unfolding open_and_ask places_in node_of rows_of
returns-in_err-prepared c =
    let k = err_from_is_err_and c.from_residual.result c.from_residual.ensures.1 in
    ask-within _ _ _ c.if-input-n.false c.if-input-gt32768.false c.settings_in.ensures c.number_at-slot.ensures.0
    (rw (k.1, k.2) (not-asked (λ s. ask_for s c.number_at-slot.result c.args.question) c.prepared.ensures.carried (places-are _ refl refl) refl c.in_err-prepared.was))

pub returns : goal.returns
unfolding open_and_ask places_in node_of rows_of
returns c =
    ask-within _ _ _ c.if-input-n.false c.if-input-gt32768.false c.settings_in.ensures c.number_at-slot.ensures.0
    (asked-after (λ s. ask_for s c.number_at-slot.result c.args.question) c.prepared.ensures.carried (places-are _ refl refl) refl c.in_ok-prepared.was (c.read.ensures.settings ∙ c.prepared.ensures.same.settings) c.read.ensures.memory
    c.answered.ensures)
