-- `weight` meets its contract. Assumes nothing.
use mathlib.Core.Path.{ap, sym, ◌∙◌}
use lib.Count.{ones}
use Rattle.protocol.specs.Words.{bit_of}
use Rattle.masks.proofs.Masks.{mask-bits, ones-mask}
use Rattle.masks.proofs.weight.Goals as goal

pub returns : goal.returns
returns c =
    let m = c.args.mask in
    ap ones (sym (mask-bits 64 m c.ranges.mask.fits)) ∙ ones-mask 64 (bit_of m)
