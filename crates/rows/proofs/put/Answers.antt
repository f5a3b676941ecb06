-- `put` meets its contract. Assumes nothing.
use Rattle.rows.proofs.Words.{put-rest}
use Rattle.rows.proofs.put.Goals as goal

pub returns : goal.returns
returns g c = rw (c.WORDS.ensures, ← g.met.E.Entry.words_lem) (put-rest _ _ _ _ _ (rw (c.WORDS.ensures, ← g.met.E.Entry.words_lem) at c.write.ensures))
