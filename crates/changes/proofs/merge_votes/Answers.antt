-- `merge_votes` meets its contract. Assumes nothing.
use Prim.Native.Nat.{◌*◌}
use native.Mathlib.Omega.{arith}
use Rattle.changes.proofs.MoveUp.{moved-freed}
use Rattle.changes.proofs.Zeros.{part-zeros}
use Rattle.changes.proofs.merge_votes.Goals as goal

pub returns : goal.returns
returns c =
    let kept = c.move_up-kept.result in
    let used = c.args.used.now in (
      moved-freed c.args.votes.now used c.args.from kept c.move_up-kept.ensures.0 c.move_up-kept.ensures.1
          (rw (c.fill.ensures.after (λ y e. e)) (part-zeros (5 * kept) (5 * used) c.move_up-kept.new.votes (omega arith) (omega arith))),
      c.move_up-kept.ensures.1,
    )
