-- `asking::asked_two` meets its contract. Assumes nothing.
use Rattle.std.proofs.Common.{◌+◌, ◌*◌, true, false, refl, ap, ◌≡◌, ◌∙◌}
use Rattle.std.proofs.lemmas.Result.{err_from_is_err_and}
use borrow.Author.Tests.{le-ltb, lt-ltb}
use Rattle.protocol.specs.Lent.{places_in, node_of, rows_of, lent_sound}
use Rattle.protocol.proofs.Lent.Calls.{ask-lent}
use Rattle.lent.specs.Memory.{memory}
use Rattle.answers.specs.Answers.{figures_of, map_answer}
use Rattle.asking.specs.AskPackets.{figures, compares, ask_fit, ask_compare, open_and_fit, open_and_compare, ask_two}
use Rattle.asking.proofs.Gather.{map-refused, map-done}
use Rattle.asking.proofs.Steps.{open-carried, left-sound, not-asked, asked-after, places-are}
use Rattle.asking.proofs.StepsPackets.{two-within, first_lent, second_lent}
use Rattle.asking.proofs.asked_two.Goals.{then-input-lt13-via-then-input-lt13, then-input-lt13-via-else-input-lt13+then-input-gt65536, then-input-lt13-via-else-input-lt13+else-input-gt65536+then-input-first}
use Rattle.asking.proofs.asked_two.Goals as goal

pub returns-then-input-lt13 : goal.returns-then-input-lt13
unfolding ask_two
returns-then-input-lt13 c = elim c.then-input-lt13.branch [
  | then-input-lt13-via-then-input-lt13 w ↦ simp (lt-ltb _ _ w.if-input-lt13.true)
  | then-input-lt13-via-else-input-lt13+then-input-gt65536 w ↦ simp (le-ltb _ _ w.if-input-lt13.false, lt-ltb _ _ w.if-input-gt65536.true)
  | then-input-lt13-via-else-input-lt13+else-input-gt65536+then-input-first w ↦
      simp (le-ltb _ _ w.if-input-lt13.false, le-ltb _ _ w.if-input-gt65536.false, ← c.number_at-first.ensures.0, lt-ltb _ _ w.if-input-first.true)
]

pub returns-in_err-open : goal.returns-in_err-open
unfolding open_and_compare places_in node_of rows_of
returns-in_err-open c =
    let k = err_from_is_err_and c.from_residual.result c.from_residual.ensures.1 in
    let bs = c.args.input.now in
    let n = c.number_at-first.result in
    rw (c.if-both.true, k.1, k.2)
    (two-within _ c.settings_in.ensures c.number_at.ensures.0 c.if-input-lt13.false c.if-input-gt65536.false c.number_at-first.ensures.0 c.if-input-first.false true
    (not-asked (λ s. ask_compare s (3 * c.number_at.result + 2) (first_lent n bs) (second_lent n bs)) (open-carried _ _ _ c.open.ensures.promise) (places-are _ refl refl) refl c.in_err-open.was))

pub returns-then-both : goal.returns-then-both
unfolding open_and_compare ask_compare places_in node_of rows_of
returns-then-both c =
    let bs = c.args.input.now in
    let n = c.number_at-first.result in
    let o = open-carried _ _ _ c.open.ensures.promise in
    let t = c.read.ensures.settings ∙ c.open.ensures.same.settings in
    let S : lent_sound c.read.result.settings (memory c.read.result) ≡ true = rw (t, c.read.ensures.memory) (left-sound o c.in_ok-open.was) in
    rw c.if-both.true
    (two-within _ c.settings_in.ensures c.number_at.ensures.0 c.if-input-lt13.false c.if-input-gt65536.false c.number_at-first.ensures.0 c.if-input-first.false true
    (asked-after (λ s. ask_compare s (3 * c.number_at.result + 2) (first_lent n bs) (second_lent n bs)) o (places-are _ refl refl) refl c.in_ok-open.was t c.read.ensures.memory
    (ap (map_answer compares) (c.compare-compared.ensures ∙ ask-lent _ _ _ S))))

pub returns-in_err-prepared : goal.returns-in_err-prepared
unfolding open_and_fit places_in node_of rows_of
returns-in_err-prepared c =
    let k = err_from_is_err_and c.from_residual-in_err-prepared.result c.from_residual-in_err-prepared.ensures.1 in
    let bs = c.args.input.now in
    let n = c.number_at-first.result in
    rw (c.if-both.false, k.1, k.2)
    (two-within _ c.settings_in.ensures c.number_at.ensures.0 c.if-input-lt13.false c.if-input-gt65536.false c.number_at-first.ensures.0 c.if-input-first.false false
    (not-asked (λ s. ask_fit s (3 * c.number_at.result + 2) (second_lent n bs)) c.prepared.ensures.carried (places-are _ refl refl) refl c.in_err-prepared.was))

pub returns-in_err-figures : goal.returns-in_err-figures
unfolding open_and_fit ask_fit places_in node_of rows_of
returns-in_err-figures c =
    let k = err_from_is_err_and c.from_residual-in_err-figures.result c.from_residual-in_err-figures.ensures.1 in
    let bs = c.args.input.now in
    let n = c.number_at-first.result in
    let t = c.read-2.ensures.settings ∙ c.prepared.ensures.same.settings in
    let S : lent_sound c.read-2.result.settings (memory c.read-2.result) ≡ true = rw (t, c.read-2.ensures.memory) (left-sound c.prepared.ensures.carried c.in_ok-prepared.was) in
    rw (c.if-both.false, k.1, k.2)
    (two-within _ c.settings_in.ensures c.number_at.ensures.0 c.if-input-lt13.false c.if-input-gt65536.false c.number_at-first.ensures.0 c.if-input-first.false false
    (asked-after (λ s. ask_fit s (3 * c.number_at.result + 2) (second_lent n bs)) c.prepared.ensures.carried (places-are _ refl refl) refl c.in_ok-prepared.was t c.read-2.ensures.memory
    (map-refused figures_of figures (c.fit.ensures ∙ ask-lent _ _ _ S) c.in_err-figures.was)))

pub returns : goal.returns
unfolding open_and_fit ask_fit places_in node_of rows_of
returns c =
    let bs = c.args.input.now in
    let n = c.number_at-first.result in
    let t = c.read-2.ensures.settings ∙ c.prepared.ensures.same.settings in
    let S : lent_sound c.read-2.result.settings (memory c.read-2.result) ≡ true = rw (t, c.read-2.ensures.memory) (left-sound c.prepared.ensures.carried c.in_ok-prepared.was) in
    rw c.if-both.false
    (two-within _ c.settings_in.ensures c.number_at.ensures.0 c.if-input-lt13.false c.if-input-gt65536.false c.number_at-first.ensures.0 c.if-input-first.false false
    (asked-after (λ s. ask_fit s (3 * c.number_at.result + 2) (second_lent n bs)) c.prepared.ensures.carried (places-are _ refl refl) refl c.in_ok-prepared.was t c.read-2.ensures.memory
    (map-done figures_of figures (c.fit.ensures ∙ ask-lent _ _ _ S) c.in_ok-figures.was)))
