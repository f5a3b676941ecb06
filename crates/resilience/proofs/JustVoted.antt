-- Right after its vote in slot a an honest node is joined for a, and its Deep for a is answered. Assumes nothing.
use Prim.Native.Nat.{ℕ, ◌+◌, ◌/◌, ◌%◌}
use mathlib.Core.Path.{◌≡◌, refl, ap, ◌∙◌}
use mathlib.Core.Bool.{cond}
use native.Mathlib.Omega.{arith}
use borrow.Author.Tests.{eq-eqb, ne_eqb, le-ltb}
use Rattle.protocol.specs.Store.{Node}
use Rattle.protocol.specs.Refusal.{first, pass, done, answer_unless}
use Rattle.protocol.specs.Calls.Vote.{vote_tests, vote_into, vote, head_of}
use Rattle.protocol.specs.Calls.Query.{query_tests, deep_of, deep_query}
use Rattle.protocol.proofs.Store.Sound.{sound-holds}
use Rattle.protocol.proofs.Calls.Passed.{Votes, votes}
use Rattle.protocol.proofs.Calls.Refusal.{answer-done, unless-done}
use Rattle.protocol.proofs.Calls.Vote.{vote-sound}
use Rattle.resilience.specs.Run.{Network, World, settings, step, due_at}
use Rattle.resilience.specs.DeepAgreement.{JustVoted, DeepAfterVote, DeepAnswered, DeepWhileJoined}
use Rattle.resilience.proofs.Steps.Allowed.{truth}
use Rattle.resilience.proofs.Runs.Onward.{carried-honest, carried-run}

module _ (N : Network) (i a : ℕ) (u : World) (A : JustVoted N i a u) where
  abbrev x : World
  x = A.before

  passes : (first (vote_tests (settings N i) (N.places i) (x.node i) x.beat) ≡ pass) × (head_of (settings N i) (x.node i) (x.beat / 3) ≡ A.value)
      × ((vote (settings N i) (N.places i) (x.node i) x.beat).node ≡ vote_into (settings N i) (x.node i) x.beat)
  unfolding vote
  passes = unless-done (first (vote_tests (settings N i) (N.places i) (x.node i) x.beat)) _ _ _ A.value A.answer

  tests : Votes (settings N i) (N.places i) (x.node i) x.beat
  tests = votes (settings N i) (N.places i) (x.node i) x.beat passes.0

  abbrev y : Node
  y = vote_into (settings N i) (x.node i) x.beat

  phase : x.beat % 3 ≡ 1
  phase = omega (arith, A.beat)

  node : u.node i ≡ y
  unfolding step due_at
  node =
      ap (λ (o : World). o.node i) A.left ∙ ap (λ m. (due_at m N x i A.number).node i) phase
      ∙ ap (λ b. cond b (vote (settings N i) (N.places i) (x.node i) x.beat).node (x.node i)) (eq-eqb i i refl)
      ∙ passes.2

  query : deep_query (settings N i) (N.places i) y a ≡ done (deep_of (settings N i) y a)
  unfolding deep_query query_tests first answer_unless
  query = rw (
    sound-holds (vote-sound (settings N i) (N.places i) (x.node i) x.beat tests),
    ne_eqb a 0 (λ e. omega (arith, tests.joined, A.beat)),
    le-ltb (x.beat / 3) a (omega (arith, A.beat)),
    le-ltb a (x.node i).clock.merged (omega (arith, tests.joined, A.beat)),
  )

  answers : deep_query (settings N i) (N.places i) (u.node i) a ≡ done (deep_of (settings N i) (u.node i) a)
  answers = rw node query

  merged : (u.node i).clock.merged + 1 ≡ a
  merged = omega (arith, ap (λ o. o.clock.merged) node, tests.joined, A.beat)

pub deep-answered : DeepAnswered
unfolding DeepAnswered
deep-answered N i a u A = answers N i a u A

pub while-joined : (N : Network) (w : World) (i a d : ℕ) → DeepAfterVote N w i a d → DeepWhileJoined N w i a d
unfolding deep_query
while-joined N w i a d H =
    let A = H.just_voted in
    let u = H.world in
    record {
      world = u;
      run = carried-run A;
      honest = truth (carried-honest A);
      since = omega (arith, merged N i a u A);
      until = omega (arith, merged N i a u A);
      deep = (answer-done (first (query_tests (settings N i) (N.places i) (u.node i) a)) _ d H.deep).1;
      onward = H.onward;
    }
