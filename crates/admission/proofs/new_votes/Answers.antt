-- `new_votes` meets its contract. Assumes nothing.
use native.Mathlib.Omega.{arith}
use Prim.Native.Nat.{◌<◌}
use mathlib.Core.Path.{◌∙◌}
use lib.ListN.{length, get_or, take}
use Rattle.protocol.specs.Packet.{packet_of}
use Rattle.protocol.specs.Lent.{make_vote}
use Rattle.protocol.proofs.Store.Views.{length-entries}
use Rattle.protocol.proofs.Lent.Rows.{length-rows_of}
use Rattle.protocol.proofs.Store.Since.{adding-since}
use Rattle.packets.specs.Header.{no_vote}
use Rattle.admission.proofs.Counts.{flag_one, since-new, count-begin, count_turn}
use Rattle.admission.proofs.new_votes.Goals as goal

pub loop-i-init : goal.loop-i-init
loop-i-init c =
    record {
      count = c.count-i-end.ensures.0;
      few = omega arith;
      new = count-begin _ _ (adding-since c.args.from) _ (packet_of c.args.bytes.now).votes _ (length-entries _ ∙ length-rows_of make_vote _ _);
      indexed = c.requires.indexed;
      seen = c.requires.seen;
    }

pub loop-i-preserved : goal.loop-i-preserved
loop-i-preserved c =
    let l = c.loop-i in
    let s = c.is_new_vote.ensures in
    let f = flag_one c.is_new_vote.result in
    let vs = (packet_of c.args.bytes.now).votes in
    let h : l.i < length vs = omega (arith, l.invariant.count) in
    record {
      count = l.invariant.count;
      few = omega (arith, f);
      new = count_turn _ _ (adding-since c.args.from) _ vs _ no_vote _ l.i h l.invariant.new (s.new ∙ since-new c.args.from _ (take l.i vs) (get_or vs l.i no_vote));
      indexed = s.indexed;
      seen = s.seen;
    }
