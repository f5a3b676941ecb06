-- `without` meets its contract. Assumes nothing.
use Prim.Native.Nat.{ℕ, ◌-◌, ◌^◌}
use mathlib.Core.Bool.{not}
use mathlib.Core.Path.{ap, ap₂, sym, ◌∙◌}
use lib.Bits.{bit_and}
use Rattle.protocol.specs.Words.{bit_of}
use Rattle.masks.proofs.Masks.{mask-bits, mask-not, and_mask}
use Rattle.masks.proofs.without.Goals as goal

pub returns : goal.returns
returns c =
    let m = c.args.mask in
    let o = c.args.other in
    ap₂ bit_and (sym (mask-bits 64 m c.ranges.mask.fits)) (ap (λ (x : ℕ). 2 ^ 64 - 1 - x) (sym (mask-bits 64 o c.ranges.other.fits)) ∙ mask-not 64 (bit_of o))
    ∙ and_mask 64 (bit_of m) (λ v. not (bit_of o v))
