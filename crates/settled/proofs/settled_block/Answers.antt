-- `settled_block` meets its contract. Assumes nothing.
use native.Mathlib.Omega.{arith}
use Prim.Native.Nat.{ℕ}
use mathlib.Core.Path.{ap, ◌∙◌}
use lib.ListN.{length-replicate}
use Rattle.protocol.specs.Limits.{loom}
use Rattle.fork_choice.proofs.SoundTables.{sound-of, few, blocks-sound}
use Rattle.settled.proofs.Levels.{settled-number}
use Rattle.settled.proofs.settled_block.Goals as goal

pub last_safe-a-requires : goal.last_safe-a-requires
last_safe-a-requires c =
    let T = sound-of c.args.tables in
    let f = few T in
    let h = c.count_voters.auto.weights ∙ length-replicate {A = ℕ} loom.blocks 0 in
    let p = c.weigh.auto.parents ∙ length-replicate {A = ℕ} loom.blocks 0 in
    (f.0, omega arith, p, blocks-sound T, c.weigh.ensures.0, c.requires.0)

pub returns : goal.returns
returns c =
    let T = sound-of c.args.tables in
    settled-number T _ _ c.weigh.ensures.1 c.count_voters.ensures c.weight-k.ensures c.requires.1
    (ap (λ o. o.entry.number) c.row-row.ensures ∙ c.last_safe-a.ensures.1)

pub count_voters-requires : goal.count_voters-requires
count_voters-requires c =
    let f = few (sound-of c.args.tables) in
    let h = c.weigh.auto.masks ∙ length-replicate {A = ℕ} loom.blocks 0 in
    (omega arith, omega (arith, length-replicate {A = ℕ} loom.blocks 0))
