-- `heaviest_leaf` meets its contract. Assumes nothing.
use native.Mathlib.Omega.{arith}
use Prim.Native.Nat.{ℕ}
use mathlib.Core.Path.{◌∙◌}
use lib.ListN.{length-replicate}
use Rattle.protocol.specs.Limits.{loom}
use Rattle.fork_choice.proofs.SoundTables.{sound-of, few, blocks-sound, walk-weighed}
use Rattle.fork_choice.proofs.heaviest_leaf.Goals as goal

pub leaf-requires : goal.leaf-requires
leaf-requires c =
    let T = sound-of c.args.tables in
    let h = c.count_voters.auto.weights ∙ length-replicate {A = ℕ} loom.blocks 0 in
    let f = few T in
    (f.0, omega arith, c.weigh.auto.parents ∙ c.requires, blocks-sound T, c.weigh.ensures.0)

pub returns : goal.returns
returns c =
    let T = sound-of c.args.tables in
    let e = c.leaf.ensures in
    (c.weigh.ensures.0, e.0, e.1 ∙ walk-weighed T _ _ _ _ c.weigh.ensures.1 c.count_voters.ensures)

pub count_voters-requires : goal.count_voters-requires
count_voters-requires c =
    let f = few (sound-of c.args.tables) in
    let h = c.weigh.auto.masks ∙ length-replicate {A = ℕ} loom.blocks 0 in
    (omega arith, omega (arith, length-replicate {A = ℕ} loom.blocks 0))
