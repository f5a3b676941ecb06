-- `join_vote` meets its contract. Assumes nothing.
use mathlib.Core.Path.{ap, ◌∙◌}
use Rattle.index.specs.Keys.{vote_key}
use Rattle.index.proofs.Joined.{vote-past, votes_behind}
use Rattle.index.proofs.join_vote.Goals as goal

pub returns : goal.returns
returns c =
    let t = c.args.votes in
    let e = c.from.ensures ∙ ap vote_key c.requires.3 ∙ vote-past t.words.now t.used c.args.bytes.now c.args.i in
    (rw (← e) (c.join_behind.ensures.0 _ (votes_behind t.words.now t.used c.args.bytes.now)), c.join_behind.ensures.1)
