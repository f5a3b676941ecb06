-- Every call has an answer and a memory that meet its promise: each refusal of its tests is one of the code's. Assumes nothing.
use Prim.Native.Nat.{ℕ}
use mathlib.Core.Path.{◌≡◌, refl, sym, ap}
use mathlib.Core.Logic.{◌⊎◌, inl, inr}
use mathlib.Core.Bool.{Bool, true, false, false≢true, ◌||◌, cond}
use mathlib.Core.List.{List, [], ◌∷◌}
use lib.Dec.{eqb}
use borrow.Author.Tests.{eqb-true}
use Rattle.std.specs.Prelude.{Result, Ok, Err}
use Rattle.protocol.specs.declared.Number.{Number}
use Rattle.protocol.specs.declared.Width.{Width}
use Rattle.protocol.specs.Words.{value, number_as}
use Rattle.protocol.proofs.Words.{join-halves}
use Rattle.protocol.specs.declared.Settings.{Settings}
use Rattle.protocol.specs.Lists.{any_pass, all_pass}
use Rattle.protocol.specs.Store.{Places, Node}
use Rattle.protocol.specs.Refusal.{by, by_entry, Test, refused, done, Outcome}
use Rattle.protocol.specs.Refusal as rules
use Rattle.protocol.specs.Calls.Receive.{receive_tests}
use Rattle.protocol.specs.Calls.Receive as received
use Rattle.protocol.specs.Calls.Fit.{packet_tests}
use Rattle.protocol.specs.Calls.Propose.{propose_tests}
use Rattle.protocol.specs.Calls.Vote.{vote_tests}
use Rattle.protocol.specs.Calls.Merge.{merge_tests}
use Rattle.protocol.specs.Calls.Write.{write, write_tests}
use Rattle.protocol.specs.Lent.{Lent, places_of, node_of, lent_sound, leave, on_lent, call_lent, write_lent}
use Rattle.protocol.proofs.Basics.Members.{any-true}
use Rattle.protocol.proofs.Basics.Tests.{either}
use Rattle.protocol.proofs.Calls.Refusal.{refused-has, Decided, carried, declined, receive-decided, propose-decided, vote-decided, merge-decided, write-decided}
use Rattle.verdicts.specs.declared.Refusal.{Refusal}
use Rattle.verdicts.specs.declared.Refusal.TheVariants as refusal
use Rattle.verdicts.specs.Verdict.{refusal_of}
use Rattle.answers.specs.declared.Received.{Received}
use Rattle.answers.specs.Answers.{answered, nothing_of, received_of}
use Rattle.answers.specs.Promises.{Leaves, Receives, Proposes, Votes, Merges, Writes}

-- ---- refusals

-- those of the calls after Open that are not of an entry
abbrev refusals : List Refusal
refusals =
    refusal.Unsound ∷ refusal.WrongBeat ∷ refusal.PacketTooLong ∷ refusal.PacketMalformed ∷ refusal.BadHeader ∷ refusal.TooFewPlaces ∷ refusal.WrongPhase ∷ refusal.BeatDone ∷ refusal.NotJoined
    ∷ refusal.NotProposer ∷ refusal.NumberKnown ∷ refusal.AlreadyVoted ∷ refusal.BufferTooShort ∷ refusal.NoOwnProposal ∷ refusal.NumberTooWide ∷ []

abbrev is_by : ℕ → rules.Refusal → Bool
is_by k (by j) = eqb j k
is_by k (by_entry j i) = false

is-by : (k : ℕ) (r : rules.Refusal) → is_by k r ≡ true → r ≡ by k
is-by k (by j) h = ap by (eqb-true j k h)
is-by k (by_entry j i) h = absurd (false≢true h)

-- the code has this refusal
abbrev is_refusal : rules.Refusal → Bool
is_refusal (by k) = any_pass (λ e. is_by k (refusal_of e)) refusals
is_refusal (by_entry k i) = eqb k 9 || eqb k 20

refusal-of : (k : rules.Refusal) → is_refusal k ≡ true → (e : Refusal) × (refusal_of e ≡ k)
refusal-of (by k) h = let f = any-true (λ e. is_by k (refusal_of e)) refusals h in (f.0, is-by k (refusal_of f.0) f.2)
refusal-of (by_entry k i) h = go (either (eqb k 9) (eqb k 20) h)
  where
    go : (eqb k 9 ≡ true) ⊎ (eqb k 20 ≡ true) → (e : Refusal) × (refusal_of e ≡ by_entry k i)
    go (inl e) = (refusal.BadBlock i, ap (λ (j : ℕ). by_entry j i) (sym (eqb-true k 9 e)))
    go (inr e) = (refusal.BadVote i, ap (λ (j : ℕ). by_entry j i) (sym (eqb-true k 20 e)))

-- ---- answers

-- `of` tells what the values of code are, and every value has one of code
module _ {A B : Type 0} (of : A → B) (back : (b : B) → (a : A) × (of a ≡ b)) where
  abbrev HasAnswer : rules.Answer B → Type 0
  HasAnswer o = (r : Result A Refusal) × (answered of r ≡ o)

  refused-answer : (k : rules.Refusal) → is_refusal k ≡ true → HasAnswer (refused k)
  refused-answer k h = let f = refusal-of k h in (Err f.0, ap refused f.1)

  done-answer : (b : B) → HasAnswer (done b)
  done-answer b = let g = back b in (Ok g.0, ap done g.1)

  decided-answer : (ts : List Test) (b : B) (o : rules.Answer B) → all_pass (λ t. is_refusal t.refusal) ts ≡ true → Decided ts b o → HasAnswer o
  decided-answer ts b o h (carried f e) = rw e (done-answer b)
  decided-answer ts b o h (declined k F e) = rw e (refused-answer k (refused-has is_refusal ts k h F))

  -- ---- calls that change the memory

  module _ (s : Settings) (call : Places → Node → Outcome B) (m : Lent) (f : HasAnswer (call (places_of m) (node_of m)).answer) where
    left-answer : (o : rules.Answer B) (x : Node) → HasAnswer o → HasAnswer (leave o x m).answer
    unfolding leave
    left-answer (refused k) x g = g
    left-answer (done a) x g = g

    on-answer : (b : Bool) → HasAnswer (on_lent b call m).answer
    unfolding on_lent any_pass
    on-answer true = left-answer (call (places_of m) (node_of m)).answer (call (places_of m) (node_of m)).node f
    on-answer false = refused-answer (by 6) refl

    met : (y : Lent) × (r : Result A Refusal) × Leaves of (call_lent s call m) y r
    unfolding call_lent
    met = let g = on-answer (lent_sound s m) in ((call_lent s call m).lent, g.0, record { memory = refl; answer = g.1 })

received-back : (t : received.Received) → (a : Received) × (received_of a ≡ t)
received-back t = (record { new_blocks = t.new_blocks; new_votes = t.new_votes; viewed = t.viewed }, refl)

number-back : (b : ℕ) → (a : Number) × (value a ≡ b)
number-back b = (number_as b, join-halves b)

nothing-back : (b : Unit) → (a : Unit) × (nothing_of a ≡ b)
nothing-back tt = (tt, refl)

length-back : (n : ℕ) → (a : ℕ) × (a ≡ n)
length-back n = (n, refl)

module _ (s : Settings) (m : Lent) where
  pub receive-met : (beat : ℕ) (bytes : List ℕ) → (y : Lent) × (r : Result Received Refusal) × Receives s m beat bytes y r
  unfolding receive_tests packet_tests any_pass all_pass
  receive-met beat bytes =
      met received_of received-back s _ m (decided-answer received_of received-back _ _ _ refl (receive-decided s (places_of m) (node_of m) beat bytes))

  pub propose-met : (beat number : ℕ) → (y : Lent) × (r : Result Number Refusal) × Proposes s m beat number y r
  unfolding propose_tests any_pass all_pass
  propose-met beat number = met value number-back s _ m (decided-answer value number-back _ _ _ refl (propose-decided s (places_of m) (node_of m) beat number))

  pub vote-met : (beat : ℕ) → (y : Lent) × (r : Result Number Refusal) × Votes s m beat y r
  unfolding vote_tests any_pass all_pass
  vote-met beat = met value number-back s _ m (decided-answer value number-back _ _ _ refl (vote-decided s (places_of m) (node_of m) beat))

  pub merge-met : (beat : ℕ) → (y : Lent) × (r : Result Unit Refusal) × Merges s m beat y r
  unfolding merge_tests any_pass all_pass
  merge-met beat = met nothing_of nothing-back s _ m (decided-answer nothing_of nothing-back _ _ _ refl (merge-decided s (places_of m) (node_of m) beat))

  -- ---- Write

  pub write-met : (proposal : Bool) (width : Width) (old : List ℕ) → (new : List ℕ) × (r : Result ℕ Refusal) × Writes s m proposal width old new r
  unfolding write_lent write_tests any_pass all_pass
  write-met proposal width old = let g = go (lent_sound s m) in (_, g.0, record { buffer = refl; answer = g.1 })
    where
      go : (b : Bool) → HasAnswer (λ n. n) length-back (cond b (write s (places_of m) (node_of m) proposal width old) (record { answer = refused (by 6); buffer = old })).answer
      go true = decided-answer (λ n. n) length-back _ _ _ refl (write-decided s (places_of m) (node_of m) proposal width old)
      go false = refused-answer (λ n. n) length-back (by 6) refl
