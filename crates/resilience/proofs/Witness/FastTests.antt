-- Tests on computed runs for what request 11 speaks of: a fast block that a node finds after its Merge. Assumes nothing.
use Prim.Native.Nat.{ℕ, ◌+◌, ◌*◌, ◌≤◌}
use mathlib.Core.Path.{◌≡◌, sym, ap, ◌∙◌, subst}
use mathlib.Core.Bool.{Bool, true, false, ◌&&◌, false≢true}
use mathlib.Core.List.{List, ◌++◌, Memᴰ}
use lib.Dec.{eqb, leb}
use borrow.Author.Tests.{eqb-true, eq-eqb, leb-true}
use Rattle.protocol.specs.Lists.{all_pass}
use Rattle.protocol.specs.Filters.{Choice, chosen, nothing}
use Rattle.protocol.specs.Confirm.{vote_in, valid_vote, quorum, height, higher, highest, number_found, fast_block}
use Rattle.protocol.specs.Refusal.{Answer, refused, done, answer_unless}
use Rattle.protocol.specs.Calls.Merge.{merge}
use Rattle.protocol.specs.Calls.Query.{query_tests, fast_of, fast_query}
use Rattle.protocol.proofs.Basics.Tests.{and_left, and_right, both}
use Rattle.protocol.proofs.Basics.Members.{all_true}
use Rattle.resilience.specs.Run.{Network, World, start, Event, woke, settings, Onward, no_step}
use Rattle.resilience.specs.FastHolds.{FoundAfterMerge}
use Rattle.resilience.proofs.Witness.Runs.{runs, runs_append, allowed_all, allowed-append, onward-all, any_step}
use Rattle.resilience.proofs.Witness.Acts.{Act, together, together-append}
use Rattle.resilience.proofs.Witness.Events.{row}
use Rattle.resilience.proofs.Witness.Tests.{implies, implied, opened_test}
use Rattle.resilience.proofs.Witness.Premises.{run_test}
use Rattle.resilience.proofs.Witness.Calls.{called_test, called-true}

abbrev finds : Answer Choice → ℕ → Bool
finds (refused k) F = false
finds (done nothing) F = false
finds (done (chosen x)) F = eqb x F

finds-true : (o : Answer Choice) (F : ℕ) → finds o F ≡ true → o ≡ done (chosen F)
finds-true (refused k) F h = absurd (false≢true h)
finds-true (done nothing) F h = absurd (false≢true h)
finds-true (done (chosen x)) F h = ap (λ o. done (chosen o)) (eqb-true x F h)

-- node i was awake at no beat after b
unfoldable asleep_test : ℕ → ℕ → List Event → Bool
asleep_test i b log = all_pass (λ e. implies (eqb (row e).kind 0 && eqb (row e).node i) (leb (row e).beat b)) log

asleep-true : (i b : ℕ) (log : List Event) → asleep_test i b log ≡ true → (c : ℕ) → Memᴰ (woke c i) log → c ≤ b
unfolding asleep_test
asleep-true i b log h c m = leb-true c b (implied (eqb i i) _ (all_true _ h (woke c i) m) (eq-eqb i i (λ o. i)))

-- After these acts node i has merged slot t, was not awake since, and its Fast for t answers F.
unfoldable pub found_test : Network → List Act → ℕ → ℕ → ℕ → Bool
unfolding run_test any_step called_test asleep_test fast_query query_tests fast_of fast_block vote_in valid_vote quorum height higher highest number_found answer_unless
found_test N acts i t F =
    let w = runs N (start N) (together acts) in
    any_step (called_test N merge i (3 * t + 2) (λ u. true)) N (start N) (together acts)
    && (asleep_test i (3 * t + 2) w.log && finds (fast_query (settings N i) (N.places i) (w.node i) t) F)

-- and the run goes on
pub found-true : (N : Network) (acts before after : List Act) → before ++ after ≡ acts → run_test N acts ≡ true → (i t F : ℕ) → found_test N before i t F ≡ true
    → FoundAfterMerge N (runs N (start N) (together acts)) i t F
unfolding found_test run_test
found-true N acts before after e r i t F h =
    let w : World = runs N (start N) (together before) in
    let split : together acts ≡ together before ++ together after = ap together (sym e) ∙ together-append before after in
    let a = allowed-append N (start N) (together before) (together after) (ap (allowed_all N (start N)) (sym split) ∙ and_right (opened_test N) _ r) in
    let m = any_step (called_test N merge i (3 * t + 2) (λ u. true)) N (start N) (together before) in
    let s = asleep_test i (3 * t + 2) w.log in
    let C = called-true N merge i (3 * t + 2) (λ u. true) before (both (and_left (opened_test N) _ r) a.0) (and_left m _ h) in
    let rest = and_right m _ h in
    record {
      merged = C.world;
      just_merged = C.carried_out;
      world = w;
      since = C.onward;
      asleep = asleep-true i (3 * t + 2) w.log (and_left s _ rest);
      fast = finds-true _ F (and_right s _ rest);
      onward = subst (Onward N w) (sym (ap (runs N (start N)) split ∙ runs_append N (start N) (together before) (together after)))
          (onward-all N w w (together after) no_step a.1);
    }
