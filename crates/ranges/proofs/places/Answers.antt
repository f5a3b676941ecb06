-- `places` meets its contract. Assumes nothing.
use native.Mathlib.Omega.{arith}
use mathlib.Core.Path.{sym, ◌∙◌}
use borrow.Author.Tests.{eq-eqb, ne_eqb}
use Rattle.protocol.specs.Lent.{places_in}
use Rattle.rows.proofs.Width.{words-some}
use Rattle.ranges.proofs.places.Goals as goal

pub nonzero_rem-n : goal.nonzero_rem-n
nonzero_rem-n g c = omega (arith, words-some g.met.E.Entry.codec, g.met.E.Entry.words_lem)

pub nonzero_div-result : goal.nonzero_div-result
nonzero_div-result g c = omega (arith, words-some g.met.E.Entry.codec, g.met.E.Entry.words_lem)

pub returns-then-n-WORDS-eq0 : goal.returns-then-n-WORDS-eq0
unfolding places_in
returns-then-n-WORDS-eq0 g c =
    let e = sym g.met.E.Entry.words_lem in
    rw (c.WORDS-then-n-WORDS-eq0.ensures ∙ e, eq-eqb _ _ (rw (c.WORDS.ensures ∙ e) at c.if-n-WORDS-eq0.true))

pub returns-else-n-WORDS-eq0 : goal.returns-else-n-WORDS-eq0
unfolding places_in
returns-else-n-WORDS-eq0 g c =
    let e = sym g.met.E.Entry.words_lem in
    rw (ne_eqb _ _ (rw (c.WORDS.ensures ∙ e) at c.if-n-WORDS-eq0.false))
