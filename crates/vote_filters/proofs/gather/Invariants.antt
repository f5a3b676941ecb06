-- The loop of `gather`: its invariant. Assumes nothing.
use mathlib.Core.Path.{◌≡◌}
use Rattle.index.specs.Links.{SlotIndex}
use Rattle.vote_filters.specs.Latest.{votes_of, equivocators_of, Latest}
use Rattle.vote_filters.proofs.gather.Given as goal

abbrev pub invariant-loop-i : goal.invariant-loop-i
invariant-loop-i l = record {
  links : SlotIndex l.window.whole l.votes.words.now l.i l.links;
  mask : l.mask ≡ equivocators_of (votes_of l.window.whole l.votes.words.now l.i) l.window.expiry l.window.t;
  latest : Latest (votes_of l.window.whole l.votes.words.now l.i) l.window.expiry l.window.t l.kept;
}
