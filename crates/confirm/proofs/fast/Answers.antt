-- `fast` meets its contract. Assumes nothing.
use native.Mathlib.Omega.{arith}
use Prim.Native.Nat.{ℕ, ◌+◌}
use mathlib.Core.Bool.{false}
use mathlib.Core.Path.{◌∙◌}
use lib.ListN.{length-replicate}
use Rattle.protocol.specs.Limits.{loom}
use Rattle.fork_choice.proofs.SoundTables.{sound-of, few, blocks-held, vote-real, words-weigh}
use Rattle.confirm.proofs.Candidates.{fast-is, fast-view}
use Rattle.confirm.proofs.fast.Goals as goal

pub returns : goal.returns
returns c =
    let T = sound-of c.args.tables in
    let t = c.args.t in
    c.top.ensures ∙ fast-is t (blocks-held T false) (few T).2 (vote-real T false) (words-weigh T false 1 (t + 1) c.weigh.ensures.1) ∙ fast-view _ _ _ _ _ _

pub top-requires : goal.top-requires
top-requires c =
    let f = few (sound-of c.args.tables) in
    let h = c.weigh.auto.masks ∙ length-replicate {A = ℕ} loom.blocks 0 in
    (omega arith, f.1)
