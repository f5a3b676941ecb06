-- `deep` meets its contract. Assumes nothing.
use native.Mathlib.Omega.{arith}
use Prim.Native.Nat.{ℕ}
use mathlib.Core.Bool.{false}
use lib.ListN.{length-replicate}
use Rattle.protocol.specs.Limits.{loom}
use Rattle.fork_choice.proofs.SoundTables.{sound-of, few, blocks-held, blocks-sound, leaf-in}
use Rattle.confirm.proofs.Descent.{deep-number}
use Rattle.confirm.proofs.deep.Goals as goal

pub climb_down-requires : goal.climb_down-requires
climb_down-requires c =
    let T = sound-of c.args.tables in
    let e = c.heaviest_leaf-a.ensures in
    (omega (arith, (few T).0, c.heaviest_leaf-a.auto.parents, length-replicate {A = ℕ} loom.blocks 0), blocks-sound T, e.0, e.1, leaf-in (blocks-held T false) _ _ _ e.1 e.2)

pub returns : goal.returns
returns c =
    let e = c.heaviest_leaf-a.ensures in
    deep-number _ _ _ _ _ _ _ _ c.climb_down.ensures c.saturating_sub.ensures e.2
