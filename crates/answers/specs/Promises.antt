-- What each call promises: equations with the call's definition in `protocol`, for any memory that a caller may lend.
-- On a refusal the same equations say that all is as it was. Assumes nothing.
use Rattle.std.specs.Prelude.{ℕ, ◌≡◌, Bool, List, Option, Result}
use Rattle.protocol.specs.declared.Number.{Number}
use Rattle.protocol.specs.declared.Settings.{Settings}
use Rattle.protocol.specs.declared.Width.{Width}
use Rattle.protocol.specs.Words.{value}
use Rattle.protocol.specs.Calls.Receive.{receive}
use Rattle.protocol.specs.Calls.Propose.{propose}
use Rattle.protocol.specs.Calls.Vote.{vote}
use Rattle.protocol.specs.Calls.Merge.{merge}
use Rattle.protocol.specs.Calls.Query.{head_query, deep_query, fast_query, settled_query}
use Rattle.protocol.specs.Calls.Write as writing
use Rattle.protocol.specs.Calls.Fit.{fit_query}
use Rattle.protocol.specs.Calls.Compare.{compare_query}
use Rattle.protocol.specs.Lent.{Lent, LentOutcome, open_lent, call_lent, ask_lent, write_lent}
use Rattle.verdicts.specs.declared.Refusal.{Refusal}
use Rattle.equivocation.specs.declared.Equivocation.{Equivocation}
use Rattle.answers.specs.Answers.{answered, nothing_of, received_of, choice_of, figures_of, compared_of, nothing_more, received, block, value_of, map_answer}
use Rattle.answers.specs.declared.Answer.{Answer}
use Rattle.answers.specs.declared.Received.{Received}
use Rattle.answers.specs.declared.Figures.{Figures}
use Rattle.answers.specs.declared.NotCompared.{NotCompared}
use Rattle.answers.specs.declared.Call.{Call}
use Rattle.answers.specs.declared.Call.TheVariants as call

-- ---- calls that change the memory

-- m is the memory at exit: the words of both tables, both counts, the clock; `of` tells what the values of code are
pub record Leaves {A B : Type 0} (of : A → B) (outcome : LentOutcome B) (m : Lent) (r : Result A Refusal) : Type 0 where
  pub memory : m ≡ outcome.lent
  pub answer : answered of r ≡ outcome.answer

-- the same outcome, with its value seen as another
abbrev pub seen : {A B : Type 0} → (A → B) → LentOutcome A → LentOutcome B
seen f y = record { answer = map_answer f y.answer; lent = y.lent }

-- m is the memory at entry
module _ (s : Settings) (m : Lent) where
  abbrev pub Opens : Lent → Result Unit Refusal → Type 0
  Opens = Leaves nothing_of (open_lent s m)

  abbrev pub Receives : ℕ → List ℕ → Lent → Result Received Refusal → Type 0
  Receives beat bytes = Leaves received_of (call_lent s (λ p x. receive s p x beat bytes) m)

  abbrev pub Proposes : ℕ → ℕ → Lent → Result Number Refusal → Type 0
  Proposes beat number = Leaves value (call_lent s (λ p x. propose s p x beat number) m)

  abbrev pub Votes : ℕ → Lent → Result Number Refusal → Type 0
  Votes beat = Leaves value (call_lent s (λ p x. vote s p x beat) m)

  abbrev pub Merges : ℕ → Lent → Result Unit Refusal → Type 0
  Merges beat = Leaves nothing_of (call_lent s (λ p x. merge s p x beat) m)

  -- the call that is asked for; the bytes are Receive's
  unfoldable pub Carries : Call → ℕ → List ℕ → Lent → Result Answer Refusal → Type 0
  Carries call.Receive beat bytes = Leaves value_of (seen received (call_lent s (λ p x. receive s p x beat bytes) m))
  Carries (call.Propose number) beat bytes = Leaves value_of (seen block (call_lent s (λ p x. propose s p x beat (value number)) m))
  Carries call.Vote beat bytes = Leaves value_of (seen block (call_lent s (λ p x. vote s p x beat) m))
  Carries call.Merge beat bytes = Leaves value_of (seen (λ a. nothing_more) (call_lent s (λ p x. merge s p x beat) m))

  -- ---- Head, Deep, Fast and Settled: the memory is only read

  abbrev pub IsHead : ℕ → Result Number Refusal → Type 0
  IsHead slot r = answered value r ≡ ask_lent s (λ p x. head_query s p x slot) m

  abbrev pub IsDeep : ℕ → Result Number Refusal → Type 0
  IsDeep slot r = answered value r ≡ ask_lent s (λ p x. deep_query s p x slot) m

  abbrev pub IsFast : ℕ → Result (Option Number) Refusal → Type 0
  IsFast slot r = answered choice_of r ≡ ask_lent s (λ p x. fast_query s p x slot) m

  abbrev pub IsSettled : ℕ → ℕ → Result Number Refusal → Type 0
  IsSettled slot silent r = answered value r ≡ ask_lent s (λ p x. settled_query s p x slot silent) m

  -- ---- Fit: the memory is only read

  abbrev pub IsFit : ℕ → List ℕ → Result Figures Refusal → Type 0
  IsFit beat bytes r = answered figures_of r ≡ ask_lent s (λ p x. fit_query s p x beat bytes) m

  -- ---- Compare: the memory and both packets are only read

  abbrev pub IsCompared : ℕ → List ℕ → List ℕ → Result (Option Equivocation) NotCompared → Type 0
  IsCompared beat one two r = compared_of r ≡ ask_lent s (λ p x. compare_query s p x beat one two) m

  -- ---- Write: the memory is only read; the buffer as it was and as it is left

  pub record Writes (proposal : Bool) (width : Width) (old new : List ℕ) (r : Result ℕ Refusal) : Type 0 where
    pub buffer : new ≡ (write_lent s (λ p x. writing.write s p x proposal width old) m old).buffer
    pub answer : answered (λ n. n) r ≡ (write_lent s (λ p x. writing.write s p x proposal width old) m old).answer
