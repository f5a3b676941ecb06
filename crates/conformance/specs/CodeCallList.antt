-- What the code promises of each call in a list of calls on one node (protocol/specs/CallList). Assumes nothing.
use Rattle.std.specs.Prelude.{ℕ, Result}
use Rattle.protocol.specs.declared.Number.{Number}
use Rattle.protocol.specs.declared.Settings.{Settings}
use Rattle.protocol.specs.Words.{value}
use Rattle.protocol.specs.Refusal as rules
use Rattle.protocol.specs.Calls.Receive as receiving
use Rattle.protocol.specs.Lent.{Lent}
use Rattle.protocol.specs.CallList.{Call, Receive, Propose, Vote, Merge}
use Rattle.verdicts.specs.declared.Refusal.{Refusal}
use Rattle.answers.specs.declared.Received.{Received}
use Rattle.answers.specs.Answers.{answered, nothing_of, received_of}
use Rattle.answers.specs.Promises.{Receives, Proposes, Votes, Merges}

-- what it is answered where it is carried out, by the code and in `protocol`
abbrev pub Found : Call → Type 0
Found (Receive beat bytes) = Received
Found (Propose beat number) = Number
Found (Vote beat) = Number
Found (Merge beat) = Unit

abbrev pub Meant : Call → Type 0
Meant (Receive beat bytes) = receiving.Received
Meant (Propose beat number) = ℕ
Meant (Vote beat) = ℕ
Meant (Merge beat) = Unit

abbrev pub meant_by : (c : Call) → Found c → Meant c
meant_by (Receive beat bytes) = received_of
meant_by (Propose beat number) = value
meant_by (Vote beat) = value
meant_by (Merge beat) = nothing_of

abbrev pub answer_of : (c : Call) → Result (Found c) Refusal → rules.Answer (Meant c)
answer_of c = answered (meant_by c)

-- on the memory m
abbrev pub Promised : Settings → Lent → (c : Call) → Lent → Result (Found c) Refusal → Type 0
Promised s m (Receive beat bytes) = Receives s m beat bytes
Promised s m (Propose beat number) = Proposes s m beat number
Promised s m (Vote beat) = Votes s m beat
Promised s m (Merge beat) = Merges s m beat
