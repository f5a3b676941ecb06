-- Tests in a row: where the first ones pass, the others decide. Assumes nothing.
use Prim.Native.Nat.{ℕ}
use mathlib.Core.Path.{◌≡◌, refl, sym, ap, ◌∙◌}
use mathlib.Core.Bool.{Bool, true, false, cond}
use mathlib.Core.List.{List, [], ◌∷◌, ◌++◌}
use Rattle.std.specs.Prelude.{Result, Ok, Err, IsErrAnd, MatchResult}
use Rattle.std.proofs.lemmas.Result.{err_from_is_err_and}
use native.Mathlib.Omega.{arith}
use lib.ListN.{drop}
use Rattle.protocol.specs.declared.Settings.{Settings}
use Rattle.protocol.specs.declared.Width.{Width}
use Rattle.protocol.specs.Store.{Places, Node}
use Rattle.protocol.specs.Refusal.{by, Test, Verdict, pass, refuse, first, unsound}
use Rattle.protocol.specs.Lent.{Lent, places_of, node_of, lent_sound}
use Rattle.protocol.proofs.Lent.Memory.{lent-true}
use Rattle.protocol.proofs.Calls.Refusal.{first-pass, first-refuse}
use Rattle.protocol.specs.Calls.Receive.{receive_tests}
use Rattle.protocol.specs.Calls.Fit.{packet_tests}
use Rattle.protocol.specs.Calls.Propose.{propose_tests}
use Rattle.protocol.specs.Calls.Vote.{vote_tests}
use Rattle.protocol.specs.Calls.Query.{query_tests, settled_tests}
use Rattle.protocol.specs.Calls.Write.{write_tests}
use Rattle.verdicts.specs.declared.Refusal.{Refusal}
use Rattle.verdicts.specs.Verdict.{refusal_of, verdict_of}
use Rattle.verdicts.specs.Lent.{lent_verdict, beat_tests, due_tests}
use Rattle.verdicts.proofs.Passed.{refuse-not-pass}

-- ---- the exit of a `?`

-- a refusal that is passed on
pub refused-as : {B : Type 0} (z : Result B Refusal) (r : Refusal) {w : Verdict} → IsErrAnd z (λ k. k ≡ r) → refuse (refusal_of r) ≡ w → verdict_of z ≡ w
refused-as z r h f = let k = err_from_is_err_and z h in rw (k.1, k.2) f

-- f makes the refusal of what stands in the error
module _ {N : Type 0} (f : ℕ → Refusal) where
  pub mapped-ok : (r : Result N ℕ) (z : Result N Refusal) → MatchResult r (λ x. z ≡ Ok x) (λ i. IsErrAnd z (λ k. k ≡ f i)) → {x : N} → z ≡ Ok x → r ≡ Ok x
  mapped-ok (Ok y) z h {x} e = let p : y ≡ x = cc in ap (λ (o : N). Ok o) p
  mapped-ok (Err i) z h e = let k = err_from_is_err_and z h in let p = k.1 in let c : ◌≡◌ {A = ℕ} 0 1 = cc in absurd (omega arith)

  pub mapped-err : (r : Result N ℕ) (z : Result N Refusal) → MatchResult r (λ x. z ≡ Ok x) (λ i. IsErrAnd z (λ k. k ≡ f i)) → {k : Refusal} → z ≡ Err k
      → (i : ℕ) × (r ≡ Err i) × (k ≡ f i)
  mapped-err (Ok y) z h e = let c : ◌≡◌ {A = ℕ} 0 1 = cc in absurd (omega arith)
  mapped-err (Err i) z h {k} e = let q = err_from_is_err_and z h in let a = q.1 in let b : k ≡ q.0 = cc in (i, refl, b ∙ q.2)

-- ---- tests in a row

-- A call whose tests begin with ts, of which n are; v is what code answers by ts.
module _ (s : Settings) (ts tests : Places → Node → List Test) (m : Lent) (n : ℕ) (front : (p : Places) (x : Node) → tests p x ≡ ts p x ++ drop n (tests p x))
    {A : Type 0} {v : Result A Refusal} (told : verdict_of v ≡ lent_verdict s ts m) where
  pub refused-before : {r : Refusal} → v ≡ Err r → refuse (refusal_of r) ≡ lent_verdict s tests m
  unfolding lent_verdict
  refused-before {r} e = sym (go (lent_sound s m) (sym told ∙ ap verdict_of e))
    where
      go : (b : Bool) → cond b (first (ts (places_of m) (node_of m))) (refuse (by 6)) ≡ refuse (refusal_of r)
          → cond b (first (tests (places_of m) (node_of m))) (refuse (by 6)) ≡ refuse (refusal_of r)
      go true h = ap first (front (places_of m) (node_of m)) ∙ first-refuse (ts (places_of m) (node_of m)) _ (refusal_of r) h
      go false h = h

  -- as a `?` returns it
  pub refused-at : {r : Refusal} {B : Type 0} (w : Result B Refusal) → IsErrAnd w (λ k. k ≡ r) → v ≡ Err r → verdict_of w ≡ lent_verdict s tests m
  refused-at w h e = refused-as w _ h (refused-before e)

  pub passed-before : {a : A} → v ≡ Ok a → lent_verdict s tests m ≡ first (drop n (tests (places_of m) (node_of m)))
  unfolding lent_verdict
  passed-before e = go (lent_sound s m) (sym told ∙ ap verdict_of e)
    where
      go : (b : Bool) → cond b (first (ts (places_of m) (node_of m))) (refuse (by 6)) ≡ pass
          → cond b (first (tests (places_of m) (node_of m))) (refuse (by 6)) ≡ first (drop n (tests (places_of m) (node_of m)))
      go true h = ap first (front (places_of m) (node_of m)) ∙ first-pass (ts (places_of m) (node_of m)) _ h
      go false h = absurd (refuse-not-pass (by 6) h)

-- ---- the calls and the shared tests that they begin with

pub due-front : (s : Settings) (phase beat : ℕ) (p : Places) (x : Node) → due_tests s phase beat p x ≡ beat_tests s beat p x ++ drop 2 (due_tests s phase beat p x)
unfolding due_tests beat_tests
due-front s phase beat p x = refl

pub packet-front : (s : Settings) (beat : ℕ) (bytes : List ℕ) (p : Places) (x : Node)
    → packet_tests s p x beat bytes ≡ beat_tests s beat p x ++ drop 2 (packet_tests s p x beat bytes)
unfolding packet_tests beat_tests
packet-front s beat bytes p x = refl

pub receive-front : (s : Settings) (beat : ℕ) (bytes : List ℕ) (p : Places) (x : Node)
    → receive_tests s p x beat bytes ≡ packet_tests s p x beat bytes ++ drop 7 (receive_tests s p x beat bytes)
unfolding receive_tests packet_tests
receive-front s beat bytes p x = refl

pub propose-front : (s : Settings) (beat number : ℕ) (p : Places) (x : Node)
    → propose_tests s p x beat number ≡ due_tests s 0 beat p x ++ drop 4 (propose_tests s p x beat number)
unfolding propose_tests due_tests
propose-front s beat number p x = refl

pub vote-front : (s : Settings) (beat : ℕ) (p : Places) (x : Node) → vote_tests s p x beat ≡ due_tests s 1 beat p x ++ drop 4 (vote_tests s p x beat)
unfolding vote_tests due_tests
vote-front s beat p x = refl

-- the calls that begin with the memory's soundness alone
module _ (s : Settings) where
  pub query-front : (slot : ℕ) (p : Places) (x : Node) → query_tests s p x slot ≡ (unsound s p x ∷ []) ++ drop 1 (query_tests s p x slot)
  unfolding query_tests
  query-front slot p x = refl

  pub settled-front : (slot silent : ℕ) (p : Places) (x : Node) → settled_tests s p x slot silent ≡ (unsound s p x ∷ []) ++ drop 1 (settled_tests s p x slot silent)
  unfolding settled_tests query_tests
  settled-front slot silent p x = refl

  pub write-front : (proposal : Bool) (width : Width) (buffer : List ℕ) (p : Places) (x : Node)
      → write_tests s p x proposal width buffer ≡ (unsound s p x ∷ []) ++ drop 1 (write_tests s p x proposal width buffer)
  unfolding write_tests
  write-front proposal width buffer p x = refl

-- ---- the test of every call but Open, and then the others

module _ (s : Settings) (us : Places → Node → List Test) (m : Lent) {t : Bool} (told : t ≡ lent_sound s m) where
  pub unsound-refuse : t ≡ false → refuse (by 6) ≡ lent_verdict s (λ p x. unsound s p x ∷ us p x) m
  unfolding lent_verdict
  unsound-refuse e = rw (sym told ∙ e)

  pub sound-pass : t ≡ true → lent_verdict s (λ p x. unsound s p x ∷ us p x) m ≡ first (us (places_of m) (node_of m))
  unfolding lent_verdict first
  sound-pass e = rw (sym told ∙ e, (lent-true s m (sym told ∙ e)).node)
