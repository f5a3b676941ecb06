-- Request 9 of the code: a rack beside a loom, by the promises of their calls alone. The claim is the one of protocol/specs/Rack. Assumes nothing.
use Rattle.std.specs.Prelude.{ℕ, ◌≤◌, ◌≡◌, Bool, false, List, Option, Result, Ok}
use Rattle.protocol.specs.declared.Settings.{Settings}
use Rattle.protocol.specs.declared.Number.{Number}
use Rattle.protocol.specs.declared.Width.{Width}
use Rattle.protocol.specs.Words.{value}
use Rattle.protocol.specs.Lent.{Lent, places_of, node_of}
use Rattle.protocol.specs.CallList.{Call, refused_by}
use Rattle.protocol.specs.Rack.{as_loom, by_room}
use Rattle.verdicts.specs.declared.Refusal.{Refusal}
use Rattle.answers.specs.Answers.{answered, choice_of}
use Rattle.answers.specs.Promises.{Opens, IsHead, IsDeep, IsFast, IsSettled, Writes}
use Rattle.conformance.specs.CodeCallList.{Found, answer_of, Promised}

-- The memories that an Open of a rack, one of a loom with as many places and the same other settings, and then the same calls of the code on both left,
-- none of which the rack refused by 10 or 24.
pub data SameCalls (s : Settings) : Lent → Lent → Type 0 where
  opened : (old m old' m' : Lent) → Opens s old m (Ok tt) → Opens (as_loom s) old' m' (Ok tt) →
      (places_of old).blocks ≤ (places_of old').blocks → (places_of old).votes ≤ (places_of old').votes → SameCalls s m m'
  then_call : {m m' : Lent} → SameCalls s m m' → (c : Call) (next next' : Lent) (r r' : Result (Found c) Refusal) →
      Promised s m c next r → Promised (as_loom s) m' c next' r' → refused_by by_room (answer_of c r) ≡ false → SameCalls s next next'

-- They hold the same used rows, marks and clock; the next call that the rack does not refuse so, every question and every Write is answered alike, a
-- refusal with its index, and Write leaves the same buffer.
unfoldable pub CodeRackAsLoom : Type 0
CodeRackAsLoom =
    (s : Settings) (m m' : Lent) → SameCalls s m m' →
    (node_of m ≡ node_of m')
    × ((c : Call) (next next' : Lent) (r r' : Result (Found c) Refusal) → Promised s m c next r → Promised (as_loom s) m' c next' r' →
    refused_by by_room (answer_of c r) ≡ false → answer_of c r ≡ answer_of c r')
    × ((t : ℕ) (a a' : Result Number Refusal) → IsHead s m t a → IsHead (as_loom s) m' t a' → answered value a ≡ answered value a')
    × ((t : ℕ) (a a' : Result Number Refusal) → IsDeep s m t a → IsDeep (as_loom s) m' t a' → answered value a ≡ answered value a')
    × ((t : ℕ) (a a' : Result (Option Number) Refusal) → IsFast s m t a → IsFast (as_loom s) m' t a' → answered choice_of a ≡ answered choice_of a')
    × ((t silent : ℕ) (a a' : Result Number Refusal) → IsSettled s m t silent a → IsSettled (as_loom s) m' t silent a' → answered value a ≡ answered value a')
    × ((proposal : Bool) (width : Width) (old new new' : List ℕ) (r r' : Result ℕ Refusal) →
    Writes s m proposal width old new r → Writes (as_loom s) m' proposal width old new' r' → (answered (λ n. n) r ≡ answered (λ n. n) r') × (new ≡ new'))
