-- `table` meets its contract. Assumes nothing.
use native.Mathlib.Omega.{arith}
use Rattle.rows.proofs.Width.{words-some}
use Rattle.ranges.proofs.Fits.{places-fit}
use Rattle.ranges.proofs.table.Goals as goal

pub new-requires : goal.new-requires
new-requires g c = places-fit _ c.args.words.now _ (words-some g.met.E.Entry.codec) (omega (arith, c.places.ensures))
