-- `with` meets its contract. Assumes nothing.
use mathlib.Core.Path.{ap₂, sym, ◌∙◌}
use lib.Bits.{bit_or}
use Rattle.protocol.specs.Words.{bit_of}
use Rattle.masks.proofs.Masks.{mask-bits, mask-with, shl_one}
use Rattle.masks.proofs.with.Goals as goal

pub returns : goal.returns
returns c =
    let m = c.args.mask in
    let v = c.args.v in
    ap₂ bit_or (sym (mask-bits 64 m c.ranges.mask.fits)) (shl_one v c.requires) ∙ mask-with 64 (bit_of m) v c.requires
