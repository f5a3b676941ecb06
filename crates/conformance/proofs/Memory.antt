-- The memory of an honest node along a run: it stays sound and has the places it was lent, and a call on it is the call on the node that it
-- holds. Assumes nothing.
use Prim.Native.Nat.{ℕ}
use mathlib.Core.Path.{◌≡◌, sym, ap, ◌∙◌}
use mathlib.Core.Bool.{Bool, true}
use mathlib.Core.List.{List}
use Rattle.std.specs.Prelude.{Result, Ok}
use Rattle.protocol.specs.declared.Settings.{Settings}
use Rattle.protocol.specs.declared.Width.{Width}
use Rattle.protocol.specs.Store.{Places, Node}
use Rattle.protocol.specs.Refusal.{Outcome, done}
use Rattle.protocol.specs.Calls.Open.{open_node}
use Rattle.protocol.specs.Calls.Write.{write}
use Rattle.protocol.specs.Lent.{Lent, places_of, node_of, lent_sound, open_lent, call_lent, write_lent}
use Rattle.protocol.proofs.Lent.Open.{open_lent_lem, open-lent-answer, open-lent-node}
use Rattle.protocol.proofs.Lent.Calls.{Lawful, call-lent, write-lent}
use Rattle.verdicts.specs.declared.Refusal as verdicts
use Rattle.answers.specs.Answers.{answered}
use Rattle.answers.specs.Promises.{Leaves, Opens}

-- sound memory with these places
pub record Healthy (s : Settings) (pl : Places) (m : Lent) : Type 0 where
  pub places : places_of m ≡ pl
  pub sound : lent_sound s m ≡ true

-- ---- Open

module _ (s : Settings) (old m : Lent) (O : Opens s old m (Ok tt)) where
  lent-done : (open_lent s old).answer ≡ done tt
  lent-done = sym O.answer

  pub opened-done : (open_node s (places_of old) (node_of old)).answer ≡ done tt
  opened-done = sym (open-lent-answer s old) ∙ lent-done

  pub opened-node : node_of m ≡ (open_node s (places_of old) (node_of old)).node
  opened-node = ap node_of O.memory ∙ open-lent-node s old

  pub opened-healthy : Healthy s (places_of old) m
  opened-healthy =
      let L = open_lent_lem s old lent-done in
      record { places = ap places_of O.memory ∙ L.places; sound = ap (lent_sound s) O.memory ∙ L.sound }

-- ---- the other calls

-- the memory and the answer after the call of which o is the outcome; `of` tells what the values of code are
pub record Called (s : Settings) (pl : Places) {A B : Type 0} (of : A → B) (o : Outcome B) (m : Lent) (r : Result A verdicts.Refusal) : Type 0 where
  pub node : node_of m ≡ o.node
  pub answer : answered of r ≡ o.answer
  pub healthy : Healthy s pl m

-- on the memory m, which holds the node x
module _ (s : Settings) (pl : Places) (x : Node) (m : Lent) (H : Healthy s pl m) (holds : x ≡ node_of m) where
  pub called : {A B : Type 0} (of : A → B) (call : Places → Node → Outcome B) → Lawful s call → (y : Lent) (r : Result A verdicts.Refusal)
      → Leaves of (call_lent s call m) y r → Called s pl of (call pl x) y r
  called of call L y r P =
      let C = call-lent s call m L H.sound in
      let same : call (places_of m) (node_of m) ≡ call pl x = λ k. call (H.places k) (sym holds k) in
      record {
        node = ap node_of P.memory ∙ C.node ∙ ap (λ o. o.node) same;
        answer = P.answer ∙ C.answer ∙ ap (λ o. o.answer) same;
        healthy = record {
          places = ap places_of P.memory ∙ C.places ∙ H.places;
          sound = ap (lent_sound s) P.memory ∙ C.sound;
        };
      }

  pub wrote : (proposal : Bool) (width : Width) (old : List ℕ) → write_lent s (λ p y. write s p y proposal width old) m old ≡ write s pl x proposal width old
  wrote proposal width old =
      write-lent s (λ p y. write s p y proposal width old) m old H.sound ∙ (λ k. write s (H.places k) (sym holds k) proposal width old)
