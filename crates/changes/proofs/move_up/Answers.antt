-- `move_up` meets its contract. Assumes nothing.
use native.Mathlib.Omega.{arith}
use Prim.Native.Nat.{◌+◌}
use mathlib.Core.Path.{◌≡◌, ap, ◌∙◌}
use lib.ListN.{length}
use Rattle.protocol.specs.Words.{vote_of}
use Rattle.protocol.specs.Store.{view_all}
use Rattle.protocol.specs.Lent.{stored, vote_row}
use Rattle.protocol.proofs.Store.Since.{since-holds, since-fails}
use Rattle.changes.proofs.MoveUp.{kept_to, moved_to, move-begin, kept-most, move-turn, move-skip, move-end}
use Rattle.changes.proofs.move_up.Goals as goal
use Rattle.changes.proofs.move_up.Goals.{then-from-vote, else-from-vote}

pub loop-i-init : goal.loop-i-init
loop-i-init c = let b = move-begin c.args.votes.now c.args.used c.args.from in (omega arith, b.0, b.1)

pub loop-i-preserved : goal.loop-i-preserved
loop-i-preserved c =
    let ws = c.args.votes.now in
    let n = c.args.used in
    let from = c.args.from in
    let i = c.loop-i.i in
    let kept = c.loop-i.kept in
    let I = c.loop-i.invariant in
    let r = rw c.new.ensures.words at c.row.ensures in
    let m : (c.if-from-vote.votes ≡ moved_to ws n from (i + 1)) × (c.if-from-vote.kept ≡ length (kept_to ws n from (i + 1)))
    = elim c.if-from-vote.branch [
      | then-from-vote w ↦
          let q = move-turn ws n from i kept c.loop-i-test.true I.2 I.1 r (since-holds from (vote_of c.row.result.entry) w.if-from-vote.true) w.put.ensures in
          (w.votes-is ∙ q.0, w.kept-is ∙ q.1)
      | else-from-vote w ↦
          let q = move-skip ws n from i kept c.loop-i-test.true I.2 I.1 r (since-fails from (vote_of c.row.result.entry) w.if-from-vote.false) in
          (w.votes-is ∙ q.0, w.kept-is ∙ q.1)
    ] in
    (omega (arith, m.1, kept-most ws n from (i + 1)), m.0, m.1)

pub returns : goal.returns
returns c =
    let e = move-end c.args.votes.now c.args.used c.args.from c.loop-i.i (omega arith) in
    (c.loop-i.invariant.1 ∙ ap (λ m. stored vote_row (view_all m) c.args.votes.now) e, c.loop-i.invariant.2 ∙ ap length e, omega arith)
