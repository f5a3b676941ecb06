-- `supporters` meets its contract. Assumes nothing.
use native.Mathlib.Omega.{arith}
use Prim.Native.Nat.{ℕ, ◌+◌, ◌-◌}
use mathlib.Core.Path.{◌≡◌, ap, ◌∙◌}
use lib.ListN.{length, length-replicate}
use Rattle.protocol.specs.Limits.{loom}
use Rattle.subtree_voters.proofs.BlockRows.{parent-lt}
use Rattle.subtree_voters.proofs.Handing.{handed-on}
use Rattle.subtree_voters.proofs.supporters.Goals as goal

pub loop-i-preserved : goal.loop-i-preserved
loop-i-preserved c =
    let l = c.loop-i in
    let m = l.auto.masks ∙ c.add_voters.auto.masks ∙ ap length c.requires.4 ∙ length-replicate {A = ℕ} loom.blocks 0 in
    let e : l.i ≡ l.i - 1 + 1 = omega arith in
    let q = c.parent_rows.ensures.1.each (l.i - 1) (omega arith) in
    record { some = omega arith; words = handed-on _ _ _ (l.i - 1) (rw e at l.invariant.words) (rw q at c.hand_on.ensures) (omega arith) (omega arith) (omega (arith, m)) }

-- row i hands on to a row before it
pub hand_on-requires : goal.hand_on-requires
hand_on-requires c =
    let l = c.loop-i in
    let m = l.auto.masks ∙ c.add_voters.auto.masks ∙ ap length c.requires.4 ∙ length-replicate {A = ℕ} loom.blocks 0 in
    let e = c.parent_rows.ensures.1.each (l.i - 1) (omega arith) in
    (omega (arith, c.parent_rows.auto.parents, c.requires.3), omega (arith, m, e, parent-lt c.args.blocks.words.now (l.i - 1) (omega arith)), omega (arith, m))
