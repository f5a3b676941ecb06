-- Request 4 of the code: a node, by the promises of its calls alone, beside the node of protocol/specs/Removal that never removes a vote.
-- Assumes nothing.
use Rattle.std.specs.Prelude.{ℕ, ◌≡◌, false, Option, Result, Ok}
use Rattle.protocol.specs.declared.Number.{Number}
use Rattle.protocol.specs.declared.Settings.{Settings}
use Rattle.protocol.specs.Words.{value}
use Rattle.protocol.specs.Filters.{Choice}
use Rattle.protocol.specs.Store.{Node, fresh}
use Rattle.protocol.specs.Refusal.{done}
use Rattle.protocol.specs.Calls.Vote.{head_of}
use Rattle.protocol.specs.Calls.Query.{deep_of, fast_of, settled_of}
use Rattle.protocol.specs.Lent.{Lent, places_of}
use Rattle.protocol.specs.CallList.{Call, refused_by}
use Rattle.protocol.specs.Removal.{by_ten, after_call_keeping}
use Rattle.verdicts.specs.declared.Refusal.{Refusal}
use Rattle.answers.specs.Answers.{answered, choice_of}
use Rattle.answers.specs.Promises.{Opens, IsHead, IsDeep, IsFast, IsSettled}
use Rattle.conformance.specs.CodeCallList.{Found, answer_of, Promised}

-- The memory that an Open and then calls of the code left, none of which answered 10; and the node that the same calls leave where no vote
-- is ever removed.
pub data CallsKeeping (s : Settings) : Lent → Node → Type 0 where
  opened : (old m : Lent) → Opens s old m (Ok tt) → CallsKeeping s m fresh
  then_call : {m : Lent} {y : Node} → CallsKeeping s m y → (c : Call) (next : Lent) (r : Result (Found c) Refusal) → Promised s m c next r →
      refused_by by_ten (answer_of c r) ≡ false → CallsKeeping s next (after_call_keeping s (places_of m) y c)

-- What Head, Deep, Fast and Settled answer of a slot, where they are not refused, that node finds.
unfoldable pub CodeRemovalUnseen : Type 0
CodeRemovalUnseen =
    (s : Settings) (m : Lent) (y : Node) → CallsKeeping s m y → (t : ℕ) →
    ((a : Result Number Refusal) (b : ℕ) → answered value a ≡ done b →
    (IsHead s m t a → b ≡ head_of s y t) × (IsDeep s m t a → b ≡ deep_of s y t)
    × ((silent : ℕ) → IsSettled s m t silent a → b ≡ settled_of s y t silent))
    × ((a : Result (Option Number) Refusal) (o : Choice) → answered choice_of a ≡ done o → IsFast s m t a → o ≡ fast_of s y t)
