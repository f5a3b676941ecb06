-- Tests on computed runs for what request 7 speaks of: the deep block right after a vote, and an honest block in every K slots. Assumes nothing.
use Prim.Native.Nat.{ℕ, ◌+◌, ◌*◌, ◌/◌, ◌<◌}
use mathlib.Core.Path.{◌≡◌, sym, ap}
use mathlib.Core.Bool.{Bool, true, false, ◌&&◌, false≢true}
use mathlib.Core.List.{List}
use lib.Dec.{eqb}
use borrow.Author.Tests.{eqb-true}
use Rattle.protocol.specs.Lists.{any_pass}
use Rattle.protocol.specs.Confirm.{deep_from, deep_block}
use Rattle.protocol.specs.Refusal.{Answer, refused, done, answer_unless}
use Rattle.protocol.specs.Calls.Vote.{vote}
use Rattle.protocol.specs.Calls.Query.{query_tests, deep_of, deep_query}
use Rattle.protocol.proofs.Basics.Tests.{facts, and_left}
use Rattle.protocol.proofs.Basics.Members.{any-true}
use Rattle.resilience.specs.Run.{Network, World, Event, start, settings}
use Rattle.resilience.specs.DeepAgreement.{HonestBlock, BlockEvery, DeepAfterVote}
use Rattle.resilience.proofs.Witness.Runs.{runs, any_step}
use Rattle.resilience.proofs.Witness.Acts.{Act, together}
use Rattle.resilience.proofs.Witness.Events.{row, is-kind}
use Rattle.resilience.proofs.Witness.OneOfEvery.{one_of_test, one-of-true}
use Rattle.resilience.proofs.Witness.Premises.{run_test}
use Rattle.resilience.proofs.Witness.Calls.{called_test, called-true}

-- ---- the deep block right after a vote

abbrev answers : Answer ℕ → ℕ → Bool
answers (refused k) d = false
answers (done x) d = eqb x d

answers-true : (o : Answer ℕ) (d : ℕ) → answers o d ≡ true → o ≡ done d
answers-true (refused k) d h = absurd (false≢true h)
answers-true (done x) d h = ap done (eqb-true x d h)

-- node i's Deep for a answers d
abbrev has_deep : Network → ℕ → ℕ → ℕ → World → Bool
has_deep N i a d u = answers (deep_query (settings N i) (N.places i) (u.node i) a) d

unfoldable pub deep_test : Network → List Act → ℕ → ℕ → ℕ → Bool
unfolding run_test any_step called_test deep_query query_tests deep_of deep_block deep_from answer_unless
deep_test N acts i a d = any_step (called_test N vote i (3 * a + 1) (has_deep N i a d)) N (start N) (together acts)

pub deep-true : (N : Network) (acts : List Act) → run_test N acts ≡ true → (i a d : ℕ) → deep_test N acts i a d ≡ true
    → DeepAfterVote N (runs N (start N) (together acts)) i a d
unfolding deep_test
deep-true N acts r i a d h =
    let C = called-true N vote i (3 * a + 1) (has_deep N i a d) acts r h in
    record { world = C.world; just_voted = C.carried_out; deep = answers-true _ d C.passes; onward = C.onward }

-- ---- an honest block in every K slots

-- the event is a block of slot q
abbrev built_in : ℕ → Event → Bool
built_in q e = eqb (row e).kind 2 && eqb ((row e).beat / 3) q

unfoldable pub every_test : Network → ℕ → World → Bool
unfolding any_pass one_of_test
every_test N s w = one_of_test (λ q. any_pass (built_in q) w.log) N.depth s w

pub every_true : (N : Network) (s : ℕ) (w : World) → 0 < N.depth → every_test N s w ≡ true → BlockEvery N w (HonestBlock w) s
unfolding every_test
every_true N s w z h = one-of-true (λ q. any_pass (built_in q) w.log) _ (λ q e. found q e) N.depth s w z h
  where
    found : (q : ℕ) → any_pass (built_in q) w.log ≡ true → (beat B : ℕ) × (beat / 3 ≡ q) × HonestBlock w beat B
    found q e =
        let g = any-true (built_in q) w.log e in
        let o = g.0 in (
          (row o).beat,
          (row o).number,
          search (facts, g.2),
          record { proposer = (row o).node; parent = (row o).parent; proposed = rw (sym (is-kind 2 o (and_left (eqb (row o).kind 2) _ g.2))) g.1 },
        )
