-- `add_votes` meets its contract. Assumes nothing.
use Rattle.protocol.specs.Packet.{packet_of}
use Rattle.protocol.specs.Lent.{rows_of, make_vote}
use Rattle.protocol.specs.Calls.Receive.{add_since}
use Rattle.protocol.proofs.Store.Since.{knows_since, adding-since}
use Rattle.storing.proofs.Adding.{grown-new}
use Rattle.storing.proofs.Chosen.{votes-chosen, chosen-room}
use Rattle.storing.proofs.add_votes.Goals as goal

pub add_new-requires : goal.add_new-requires
add_new-requires c =
    let from = c.args.from in (
      chosen-room (knows_since from) (add_since from) (adding-since from) make_vote _ _ (packet_of c.args.bytes.now).votes (votes-chosen _ _ _ _ from c.requires.3) c.requires.0,
      c.requires.1,
      c.requires.2,
    )

pub returns : goal.returns
returns c =
    let from = c.args.from in
    rw (grown-new (knows_since from) (add_since from) (adding-since from) (rows_of make_vote c.args.votes.now c.args.used.now) (packet_of c.args.bytes.now).votes)
    (rw (votes-chosen _ _ _ _ from c.requires.3) at c.add_new.ensures)
