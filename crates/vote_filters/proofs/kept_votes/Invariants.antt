-- The loop of `kept_votes`: its invariant. Assumes nothing.
use Rattle.vote_filters.specs.Latest.{votes_of}
use Rattle.vote_filters.proofs.Kept.{Dropped}
use Rattle.vote_filters.proofs.kept_votes.Given as goal

abbrev pub invariant-loop-v : goal.invariant-loop-v
invariant-loop-v l = Dropped (votes_of l.whole l.votes.words.now l.votes.used) l.expiry l.t l.dropped l.v l.kept
