-- `votes_in_range` meets its contract. Assumes nothing.
use Rattle.std.proofs.Common.{rules, refl}
use Rattle.protocol.specs.Lent.{make_vote}
use Rattle.ranges.specs.Rows.{vote_in_range}
use Rattle.ranges.proofs.All.{all-rows}
use Rattle.ranges.proofs.votes_in_range.Goals as goal

pub returns : goal.returns
returns c =
    all-rows make_vote (vote_in_range c.args.nodes c.args.slot) c.args.votes.words.now c.args.votes.used c.all.result c.all.ensures.runs (search rules) (λ i r e. search rules) refl refl
