-- `receive_votes` meets its contract. Assumes nothing.
use native.Mathlib.Omega.{arith}
use Rattle.protocol.specs.Lists.{any_pass}
use Rattle.protocol.specs.Store.{same_vote}
use Rattle.protocol.specs.Packet.{packet_of}
use Rattle.protocol.specs.Lent.{rows_of, make_vote}
use Rattle.protocol.proofs.Lent.Rows.{vote-codec}
use Rattle.protocol.proofs.Store.Since.{adding-since}
use Rattle.receiving.proofs.Held.{marks-held, viewed-held, used-added, used_grows}
use Rattle.receiving.proofs.Naming.{votes-agree}
use Rattle.receiving.proofs.Receiving.{votes-kept, votes-viewed}
use Rattle.receiving.proofs.receive_votes.Goals as goal

pub view_named-requires : goal.view_named-requires
view_named-requires c =
    let H = c.add_votes.ensures in
    let n = used-added _ _ (adding-since c.args.from) vote-codec c.args.votes.now c.args.used.now (packet_of c.args.bytes.now).votes H in
    let g = used_grows _ _ (adding-since c.args.from) vote-codec c.args.votes.now c.args.used.now (packet_of c.args.bytes.now).votes H in (
      omega (arith, c.add_votes.auto.votes, c.requires.0, n),
      marks-held vote-codec _ _ H,
      g,
      omega (arith, c.requires.2),
    )

pub returns-then-viewed : goal.returns-then-viewed
returns-then-viewed c =
    let vs = (packet_of c.args.bytes.now).votes in
    rw (c.if-viewed.true, votes-viewed c.args.from (rows_of make_vote c.args.votes.now c.args.used.now) (packet_of c.args.bytes.now))
    (viewed-held vote-codec _ _ c.add_votes.ensures (λ v. any_pass (same_vote v) vs)
    (c.view_named.ensures (λ v. any_pass (same_vote v) vs) (votes-agree _ _ _ _ c.args.from c.add_votes.ensures c.requires.4)))

pub returns-else-viewed : goal.returns-else-viewed
returns-else-viewed c =
    rw (c.if-viewed.false, votes-kept c.args.from (rows_of make_vote c.args.votes.now c.args.used.now) (packet_of c.args.bytes.now)) c.add_votes.ensures
