-- `write` of a block meets its contract. Assumes nothing.
use native.Mathlib.Omega.{arith}
use mir.Val.{bool_byte}
use mathlib.Core.List.{[], ◌∷◌}
use mathlib.Core.Path.{refl, ◌∙◌}
use Rattle.protocol.specs.Words.{value, lower_of, upper_of}
use Rattle.numbers.specs.NumberWords.{kept_in}
use Rattle.rows.proofs.Words.{front-sets, mark-word}
use Rattle.rows.proofs.BlockEntry.write.Goals as goal

pub returns : goal.returns
unfolding kept_in
returns c =
    let b = c.args.row.entry in
    rw (c.keep-2.ensures, c.keep.ensures) (front-sets c.args.words.now (lower_of (value b.number) ∷ upper_of (value b.number) ∷ lower_of (value b.parent) ∷ upper_of (value b.parent) ∷ b.slot ∷ bool_byte c.args.row.viewed ∷ []) (omega (arith, c.requires))
    ∙ rw mark-word refl)
