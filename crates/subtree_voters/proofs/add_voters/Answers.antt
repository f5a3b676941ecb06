-- `add_voters` meets its contract. Assumes nothing.
use native.Mathlib.Omega.{arith}
use Prim.Native.Nat.{ℕ}
use mathlib.Core.Path.{ap}
use lib.ListN.{length, length-replicate}
use Rattle.protocol.specs.Limits.{loom}
use Rattle.subtree_voters.proofs.Handing.{linked-none, linked-more, linked-all}
use Rattle.subtree_voters.proofs.add_voters.Goals as goal

pub loop-v-init : goal.loop-v-init
loop-v-init c = linked-none _ _ _ c.requires.4 c.requires.2

pub loop-v-preserved : goal.loop-v-preserved
loop-v-preserved c =
    linked-more _ _ _ _ c.loop-v.invariant c.add_voter.ensures c.requires.1
    (omega (arith, c.loop-v.auto.masks, ap length c.requires.4, length-replicate {A = ℕ} loom.blocks 0))

pub returns : goal.returns
returns c = linked-all _ _ _ _ c.loop-v.invariant c.loop-v-test.false
