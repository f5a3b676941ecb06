-- What each answer of code means: document 01's refusal, or the values of a call that was carried out. Assumes nothing.
use Rattle.std.specs.Prelude.{ℕ, Option, Some, None, Result, Ok, Err}
use Rattle.protocol.specs.Words.{value}
use Rattle.protocol.specs.declared.Number.{Number}
use Rattle.protocol.specs.Filters.{Choice, chosen, nothing}
use Rattle.protocol.specs.Refusal as rules
use Rattle.protocol.specs.Calls.Receive as receiving
use Rattle.protocol.specs.Calls.Fit as fitting
use Rattle.protocol.specs.Equivocation.{equivocation, no_equivocation}
use Rattle.protocol.specs.Calls.Compare.{Comparison, first_refused, second_refused, compared}
use Rattle.verdicts.specs.declared.Refusal.{Refusal}
use Rattle.verdicts.specs.Verdict.{refusal_of}
use Rattle.equivocation.specs.declared.Equivocation.{Equivocation}
use Rattle.equivocation.specs.First.{equivocation_of}
use Rattle.answers.specs.declared.Received.{Received}
use Rattle.answers.specs.declared.Figures.{Figures}
use Rattle.answers.specs.declared.Answer.{Answer}
use Rattle.answers.specs.declared.Answer.TheVariants as answer
use Rattle.answers.specs.declared.NotCompared.{NotCompared}
use Rattle.answers.specs.declared.NotCompared.TheVariants as not_compared

-- a refusal by its number, or the values of a call that was carried out, as `of` tells what they are
abbrev pub answered : {A B : Type 0} → (A → B) → Result A Refusal → rules.Answer B
answered of (Ok a) = rules.done (of a)
answered of (Err e) = rules.refused (refusal_of e)

-- ---- the values

abbrev pub nothing_of : Unit {0} → Unit {0}
nothing_of a = tt

abbrev pub received_of : Received → receiving.Received
received_of t = record { new_blocks = t.new_blocks; new_votes = t.new_votes; viewed = t.viewed }

-- Head, Deep and Settled find a block; Fast finds one or none
abbrev pub choice_of : Option Number → Choice
choice_of (Some b) = chosen (value b)
choice_of None = nothing

abbrev pub figures_of : Figures → fitting.Figures
figures_of f = record { new_blocks = f.new_blocks; new_votes = f.new_votes; bytes = f.bytes }

-- the lowest voter with two different votes of one slot in both packets together, or nobody
abbrev pub compared_of : Result (Option Equivocation) NotCompared → rules.Answer Comparison
compared_of (Ok (Some e)) = rules.done (compared (equivocation (equivocation_of e)))
compared_of (Ok None) = rules.done (compared no_equivocation)
compared_of (Err (not_compared.First e)) = rules.done (first_refused (refusal_of e))
compared_of (Err (not_compared.Second e)) = rules.done (second_refused (refusal_of e))
compared_of (Err (not_compared.Memory e)) = rules.refused (refusal_of e)

-- ---- calls that change the memory, all alike

-- what they answer when carried out
pub data Value : Type 0 where
  -- Open and Merge
  nothing_more : Value
  -- Receive
  received : receiving.Received → Value
  -- Propose the base, Vote the head
  block : ℕ → Value

abbrev pub value_of : Answer → Value
value_of answer.Done = nothing_more
value_of (answer.Received t) = received (received_of t)
value_of (answer.Block b) = block (value b)

-- an answer, with its value seen as another
unfoldable pub map_answer : {A B : Type 0} → (A → B) → rules.Answer A → rules.Answer B
map_answer f (rules.refused k) = rules.refused k
map_answer f (rules.done a) = rules.done (f a)
