-- Lists of calls on one node: what each answers, the node after them, and whether one is refused by given numbers. Assumes nothing.
use Rattle.std.specs.Prelude.{ℕ, Bool, true, false, not, ◌&&◌, List, [], ◌∷◌}
use Rattle.protocol.specs.declared.Settings.{Settings}
use Rattle.protocol.specs.Store.{Places, Node}
use Rattle.protocol.specs.Refusal.{refusal_number, Answer, refused, done}
use Rattle.protocol.specs.Calls.Receive.{Received, receive}
use Rattle.protocol.specs.Calls.Propose.{propose}
use Rattle.protocol.specs.Calls.Vote.{vote}
use Rattle.protocol.specs.Calls.Merge.{merge}

-- The calls that change a node, each with its beat first; the questions and Write change none.
pub data Call : Type 0 where
  Receive : ℕ → List ℕ → Call  -- these bytes
  Propose : ℕ → ℕ → Call  -- this number
  Vote : ℕ → Call
  Merge : ℕ → Call

-- ---- one call

-- the node after it, carried out or refused
unfoldable pub after_call : Settings → Places → Node → Call → Node
after_call s pl x (Receive beat bytes) = (receive s pl x beat bytes).node
after_call s pl x (Propose beat number) = (propose s pl x beat number).node
after_call s pl x (Vote beat) = (vote s pl x beat).node
after_call s pl x (Merge beat) = (merge s pl x beat).node

-- what it answers
pub data CallAnswer : Type 0 where
  received : Answer Received → CallAnswer
  named : Answer ℕ → CallAnswer  -- Propose and Vote
  merged : Answer Unit → CallAnswer

unfoldable pub call_answer : Settings → Places → Node → Call → CallAnswer
call_answer s pl x (Receive beat bytes) = received (receive s pl x beat bytes).answer
call_answer s pl x (Propose beat number) = named (propose s pl x beat number).answer
call_answer s pl x (Vote beat) = named (vote s pl x beat).answer
call_answer s pl x (Merge beat) = merged (merge s pl x beat).answer

-- whether it is refused by one of these numbers
unfoldable pub refused_by : {A : Type 0} → (ℕ → Bool) → Answer A → Bool
refused_by these (refused k) = these (refusal_number k)
refused_by these (done a) = false

unfoldable pub meets : (ℕ → Bool) → Settings → Places → Node → Call → Bool
meets these s pl x (Receive beat bytes) = refused_by these (receive s pl x beat bytes).answer
meets these s pl x (Propose beat number) = refused_by these (propose s pl x beat number).answer
meets these s pl x (Vote beat) = refused_by these (vote s pl x beat).answer
meets these s pl x (Merge beat) = refused_by these (merge s pl x beat).answer

-- ---- one after another

unfoldable pub after_calls : Settings → Places → Node → List Call → Node
after_calls s pl x [] = x
after_calls s pl x (c ∷ cs) = after_calls s pl (after_call s pl x c) cs

-- none of them is refused by one of these numbers
unfoldable pub meets_none : (ℕ → Bool) → Settings → Places → Node → List Call → Bool
meets_none these s pl x [] = true
meets_none these s pl x (c ∷ cs) = not (meets these s pl x c) && meets_none these s pl (after_call s pl x c) cs
