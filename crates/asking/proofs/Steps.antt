-- One call after another on lent memory: what `then_call` and `and_then` are, where code stops at the first refusal. Assumes nothing.
use Rattle.std.proofs.Common.{ℕ, ◌≡◌, refl, ap, subst, sym, ◌∙◌, Bool, true, false, ◌-◌, ◌≤◌, List, length, take, drop, Result, Ok, Err, IsOk, IsErrAnd}
use Rattle.std.proofs.lemmas.Bool.{both_ways}
use Rattle.std.proofs.lemmas.Result.{err_from_is_err_and}
use native.Mathlib.Nat.{le_of_eq}
use lib.ListN.{length-drop}
use lib.Seq.{take_all}
use borrow.Author.Tests.{le-ltb}
use Rattle.protocol.specs.declared.Settings.{Settings}
use Rattle.protocol.specs.Store.{Places, Node}
use Rattle.protocol.specs.Refusal as rules
use Rattle.protocol.specs.Calls.Open.{open_node}
use Rattle.protocol.specs.Packet.{number_at}
use Rattle.protocol.specs.Lent.{block_words, vote_words, Lent, places_in, places_of, node_of, lent_sound, call_lent}
use Rattle.protocol.proofs.Lent.Open.{open_lent_lem, open-lent-answer, open-lent-node}
use Rattle.protocol.proofs.Lent.Calls.{Lawful, call-lent}
use Rattle.verdicts.specs.declared.Refusal.{Refusal}
use Rattle.verdicts.specs.Verdict.{refusal_of}
use Rattle.answers.specs.Answers.{answered, nothing_of}
use Rattle.answers.specs.Promises.{Leaves, Opens}
use Rattle.asking.specs.declared.Question.{Question}
use Rattle.asking.specs.Ask.{then_answer, and_then, then_call, Findings, open_and_ask, settings_in, ask_after}
use Rattle.asking.specs.Steps.{IsCarriedAs, IsCarried}

-- ---- one call

no-ok : {P : Type 0} → false ≡ true → P
no-ok h = absurd (both_ways false refl h)

-- carried out, it left sound memory
pub left-sound : {A B : Type 0} {of : A → B} {s : Settings} {call : Places → Node → rules.Outcome B} {m y : Lent} {r : Result A Refusal} {a : A}
    → IsCarriedAs of s call m y r → r ≡ Ok a → lent_sound s y ≡ true
left-sound P e = P.sound (rw e refl)

-- a call that carries a beat, on sound memory, under settings t that are s
pub call-carried : {A B : Type 0} {of : A → B} (s : Settings) (call : Settings → Places → Node → rules.Outcome B) → Lawful s (call s) → (m : Lent)
    → lent_sound s m ≡ true → {t : Settings} → t ≡ s → {y : Lent} {r : Result A Refusal} → Leaves of (call_lent t (call t) m) y r → IsCarriedAs of s (call s) m y r
call-carried {of = of} s call L m S e {y} {r} P =
    let l = call-lent s (call s) m L S in
    let Q : Leaves of (call_lent s (call s) m) y r = subst (λ z. Leaves of (call_lent z (call z) m) y r) e P in
    record {
      answer = Q.answer ∙ l.answer;
      sound = λ _. ap (lent_sound s) Q.memory ∙ l.sound;
      places = λ _. ap places_of Q.memory ∙ l.places;
      node = λ _. ap node_of Q.memory ∙ l.node;
    }

-- Open, on any memory
pub open-carried : (s : Settings) (m : Lent) {y : Lent} (r : Result Unit Refusal) → Opens s m y r → IsCarried s (open_node s) m y r
open-carried s m (Ok a) P =
    let o = open_lent_lem s m (sym P.answer) in
    record {
      answer = P.answer ∙ open-lent-answer s m;
      sound = λ _. ap (lent_sound s) P.memory ∙ o.sound;
      places = λ _. ap places_of P.memory ∙ o.places;
      node = λ _. ap node_of P.memory ∙ open-lent-node s m;
    }
open-carried s m (Err e) P = record {
  answer = P.answer ∙ open-lent-answer s m;
  sound = λ h. no-ok h;
  places = λ h. no-ok h;
  node = λ h. no-ok h;
}

-- ---- one call after another

module _ {A B C D : Type 0} {of : A → B} {of' : C → D} {s : Settings} {call : Places → Node → rules.Outcome B} (next : Places → Node → rules.Outcome D) {m y : Lent}
    {r : Result A Refusal} (P : IsCarriedAs of s call m y r) where
  -- the first is refused
  pub stopped : {z : Lent} {e : Refusal} (q : Result C Refusal) → IsErrAnd q (λ k. k ≡ e) → r ≡ Err e → IsCarriedAs of' s (then_call call next) m z q
  unfolding then_call and_then then_answer
  stopped q h e =
      let k = err_from_is_err_and q h in
      let t : rules.refused (refusal_of _) ≡ (call (places_of m) (node_of m)).answer = sym (ap (answered of) e) ∙ P.answer in
      rw (k.1, k.2) (record { answer = rw (sym t) refl; sound = λ h. no-ok h; places = λ h. no-ok h; node = λ h. no-ok h })

  -- the second decides
  pub went_on : {a : A} {z : Lent} {q : Result C Refusal} → r ≡ Ok a → IsCarriedAs of' s next y z q → IsCarriedAs of' s (then_call call next) m z q
  unfolding then_call and_then then_answer
  went_on {a} e Q =
      let ok : IsOk r = rw e refl in
      let t : rules.done (of a) ≡ (call (places_of m) (node_of m)).answer = sym (ap (answered of) e) ∙ P.answer in
      let p = P.places ok in
      let x = P.node ok in
      record {
        answer = Q.answer ∙ rw (sym t, p, x) refl;
        sound = Q.sound;
        places = λ h. Q.places h ∙ p;
        node = λ h. Q.node h ∙ rw (p, x) refl;
      }

-- ---- and then a question, on the memory w that was left, with the settings t that it was left with

module _ {A B D : Type 0} {of : A → B} {s : Settings} {call : Places → Node → rules.Outcome B} (next : Settings → Places → Node → rules.Answer D) {m y : Lent}
    {r : Result A Refusal} (P : IsCarriedAs of s call m y r) {p : Places} {x : Node} (F : places_of m ≡ p) (X : node_of m ≡ x) where
  pub not-asked : {e : Refusal} → r ≡ Err e → rules.refused (refusal_of e) ≡ and_then call (next s) p x
  unfolding and_then then_answer
  not-asked e =
      let t : rules.refused (refusal_of _) ≡ (call (places_of m) (node_of m)).answer = sym (ap (answered of) e) ∙ P.answer in
      rw (sym F, sym X, sym t) refl

  pub asked-after : {a : A} {t : Settings} {w : Lent} {q : rules.Answer D} → r ≡ Ok a → t ≡ s → w ≡ y → q ≡ next t (places_of w) (node_of w) → q ≡ and_then call (next s) p x
  unfolding and_then then_answer
  asked-after {a} e u v h =
      let ok : IsOk r = rw e refl in
      let d : rules.done (of a) ≡ (call (places_of m) (node_of m)).answer = sym (ap (answered of) e) ∙ P.answer in
      h ∙ rw (u, v, sym F, sym X, sym d, P.places ok, P.node ok) refl

-- ---- the memory that Open is given

pub places-are : (m : Lent) {b v : ℕ} → places_in block_words m.blocks ≡ b → places_in vote_words m.votes ≡ v → places_of m ≡ record { blocks = b; votes = v }
unfolding places_of
places-are m b v = λ i. record { blocks = b i; votes = v i }

-- ---- the input: the code lends the bytes from the n-th to the last

pub ask-within : (bs : List ℕ) (n : ℕ) (question : Question) {s : Settings} {t : ℕ} {r : rules.Answer Findings} → n ≤ length bs → length bs ≤ 32768 → s ≡ settings_in bs
    → t ≡ number_at bs 5 4 → r ≡ open_and_ask s t question (take (length bs - n) (drop n bs)) → r ≡ ask_after n question bs
unfolding ask_after
ask-within bs n question a b s t h =
    let rest = take_all (length bs - n) (drop n bs) (le_of_eq (length-drop n bs)) in
    h ∙ rw (le-ltb _ _ a, le-ltb _ _ b, rest, s, t) refl
