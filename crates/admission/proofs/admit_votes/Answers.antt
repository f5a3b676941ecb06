-- `admit_votes` meets its contract. Assumes nothing.
use native.Mathlib.Omega.{arith}
use mathlib.Core.Path.{◌≡◌, refl, sym, ◌∙◌}
use lib.ListN.{length}
use Rattle.protocol.specs.Packet.{packet_of}
use Rattle.admission.proofs.FirstBad.{vote-good, vote-bad, vote-end}
use Rattle.admission.proofs.Seen.{voted-begin}
use Rattle.admission.proofs.admit_votes.Goals as goal

pub loop-j-init : goal.loop-j-init
loop-j-init c =
    record {
      known = c.count-known.ensures.0;
      count = c.count-j-end.ensures.0;
      seen = voted-begin _ _ _ _ c.requires.seen;
      bad = omega arith;
    }

pub returns-then-not-admit_vote-clause-bad : goal.returns-then-not-admit_vote-clause-bad
returns-then-not-admit_vote-clause-bad c =
    let l = c.loop-j in
    sym (l.invariant.bad ∙ vote-bad _ _ _ _ l.j (omega (arith, l.invariant.count)) refl (sym c.if-not-admit_vote.ensures.allowed))

pub loop-j-preserved : goal.loop-j-preserved
loop-j-preserved c =
    let l = c.loop-j in
    let s = c.if-not-admit_vote.ensures in
    record {
      known = l.invariant.known;
      count = l.invariant.count;
      seen = s.seen refl;
      bad = l.invariant.bad ∙ vote-good _ _ _ _ l.j (omega (arith, l.invariant.count)) refl (sym s.allowed);
    }

pub returns-clause-bad : goal.returns-clause-bad
returns-clause-bad c =
    let l = c.loop-j in
    let z : l.j ≡ length (packet_of c.args.bytes.now).votes = omega (arith, l.invariant.count) in
    sym (l.invariant.bad ∙ vote-end _ _ _ _ l.j (omega arith) ∙ z)
