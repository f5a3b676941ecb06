-- What calls on lent memory answer and leave, told by their definitions on the node that the memory holds. Assumes nothing.
use Rattle.std.specs.Prelude.{◌≡◌, true, Result, IsOk}
use Rattle.protocol.specs.declared.Settings.{Settings}
use Rattle.protocol.specs.Store.{Places, Node}
use Rattle.protocol.specs.Refusal.{Outcome}
use Rattle.protocol.specs.Lent.{Lent, places_of, node_of, lent_sound}
use Rattle.verdicts.specs.declared.Refusal.{Refusal}
use Rattle.answers.specs.Answers.{answered, nothing_of}

-- r answers as the calls do on the node in m; where they are carried out, y holds their node, in the same places, and is sound
pub record IsCarriedAs {A B : Type 0} (of : A → B) (s : Settings) (calls : Places → Node → Outcome B) (m y : Lent) (r : Result A Refusal) : Type 0 where
  pub answer : answered of r ≡ (calls (places_of m) (node_of m)).answer
  pub sound : IsOk r → lent_sound s y ≡ true
  pub places : IsOk r → places_of y ≡ places_of m
  pub node : IsOk r → node_of y ≡ (calls (places_of m) (node_of m)).node

abbrev pub IsCarried : Settings → (Places → Node → Outcome Unit) → Lent → Lent → Result Unit Refusal → Type 0
IsCarried = IsCarriedAs nothing_of
