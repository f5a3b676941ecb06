-- Runs of the code (document 01, "The run behind the third demand"): lists of calls, each given by what the code promises of it,
-- and the log of what the code answered. Assumes nothing.
use Rattle.std.specs.Prelude.{◌≡◌, ℕ, ◌+◌, ◌/◌, ◌%◌, true, false, cond, List, [], ◌∷◌, ◌++◌, take, T, Result, Ok, Err}
use Rattle.std.specs.Result.{is_ok}
use Rattle.protocol.specs.declared.Width.TheVariants.{Wide}
use Rattle.protocol.specs.declared.Number.{Number}
use Rattle.protocol.specs.Words.{value}
use Rattle.protocol.specs.Lent.{Lent}
use Rattle.verdicts.specs.declared.Refusal.{Refusal}
use Rattle.verdicts.specs.Verdict.{refusal_of}
use Rattle.answers.specs.declared.Received.{Received}
use Rattle.answers.specs.Promises.{Opens, Receives, Proposes, Votes, Merges, Writes}
use Rattle.resilience.specs.Run.{Step, Begin, Due, Gossip, Proposal, Receive, Event, woke, voted, built, sent, given, lacked, turned_away, Turn, ahead, owes, after_gossip, after_proposal, update, for_want, settings, is_honest, allowed}
use Rattle.conformance.specs.State.{Deployment, State, network, decoded}

-- ---- what an answer puts in the log

-- of a refusal: `want`, if it is for want of places, buffer or length
abbrev pub refused_for : Event → Refusal → List Event
refused_for want e = cond (for_want (refusal_of e)) (want ∷ []) []

-- `f` says what the values of a call that was carried out stand for
abbrev pub code_logged : {A : Type 0} → Event → (A → List Event) → Result A Refusal → List Event
code_logged want f (Ok a) = f a
code_logged want f (Err e) = refused_for want e

-- of a Write that left this buffer: "a sent packet is the bytes as Write left them, of the length it answered"
abbrev pub packet_sent : ℕ → ℕ → List ℕ → Result ℕ Refusal → List Event
packet_sent beat i buffer r = code_logged (lacked beat i) (λ n. sent beat i (take n buffer) ∷ []) r

-- ---- the steps

-- the state after a call of node i that left its memory as m: "nobody else writes them"
abbrev pub state_after : State → ℕ → Lent → Turn → List Event → State
state_after w i m u es = record { beat = w.beat; memory = update w.memory i m; turn = update w.turn i u; log = es ++ w.log }

-- A step from state w, and the state after it. A call has the promise that the code makes of it (answers/specs/Promises), and any memory m and
-- answer r that meet the promise. "Each call gets the tables and clock as the last call on that node left them": w.memory i.
-- A node's settings are the same at every call. Head, Deep and Fast only read, and are no steps.
pub data CodeStep (D : Deployment) (w : State) : Step → State → Type 0 where
  begins : CodeStep D w Begin (record { beat = w.beat + 1; memory = w.memory; turn = λ i. ahead; log = w.log })
  -- "phase 0: Propose if the slot is its own, else none"
  proposes : (i number : ℕ) (m : Lent) (r : Result Number Refusal) → w.beat % 3 ≡ 0 → w.beat / 3 % D.nodes ≡ i →
      Proposes (settings (network D) i) (w.memory i) w.beat number m r →
      CodeStep D w (Due i number)
      (state_after w i m (owes true (is_ok r)) (code_logged (lacked w.beat i) (λ p. built w.beat i number (value p) ∷ []) r ++ (woke w.beat i ∷ [])))
  waits : (i number : ℕ) → w.beat % 3 ≡ 0 → (w.beat / 3 % D.nodes ≡ i → ⊥) →
      CodeStep D w (Due i number) (state_after w i (w.memory i) (owes true false) (woke w.beat i ∷ []))
  -- "phase 1: Vote"
  votes : (i number : ℕ) (m : Lent) (r : Result Number Refusal) → w.beat % 3 ≡ 1 →
      Votes (settings (network D) i) (w.memory i) w.beat m r →
      CodeStep D w (Due i number)
      (state_after w i m (owes true false) (code_logged (lacked w.beat i) (λ x. voted w.beat i (value x) ∷ []) r ++ (woke w.beat i ∷ [])))
  -- "phase 2: Merge"
  merges : (i number : ℕ) (m : Lent) (r : Result Unit Refusal) → w.beat % 3 ≡ 2 →
      Merges (settings (network D) i) (w.memory i) w.beat m r →
      CodeStep D w (Due i number)
      (state_after w i m (owes true false) (code_logged (lacked w.beat i) (λ x. []) r ++ (woke w.beat i ∷ [])))
  -- "sends its stock, and its proposal if it made one, both by Write", "in the run .. wide": the memory is only read; the buffer before and after
  gossips : (i : ℕ) (old new : List ℕ) (r : Result ℕ Refusal) →
      Writes (settings (network D) i) (w.memory i) false Wide old new r →
      CodeStep D w (Gossip i old) (state_after w i (w.memory i) (after_gossip (w.turn i)) (packet_sent w.beat i new r))
  sends_proposal : (i : ℕ) (old new : List ℕ) (r : Result ℕ Refusal) →
      Writes (settings (network D) i) (w.memory i) true Wide old new r →
      CodeStep D w (Proposal i old) (state_after w i (w.memory i) (after_proposal (w.turn i)) (packet_sent w.beat i new r))
  -- "Receive calls between beats carry the beat last begun"
  receives : (i : ℕ) (bytes : List ℕ) (m : Lent) (r : Result Received Refusal) →
      Receives (settings (network D) i) (w.memory i) w.beat bytes m r →
      CodeStep D w (Receive i bytes)
      (state_after w i m (w.turn i) (code_logged (turned_away w.beat i bytes) (λ x. []) r ++ (given w.beat i bytes (is_ok r) ∷ [])))

-- ---- the runs

-- "It starts with every honest node fresh from Open": from what it was lent, an Open that was carried out left its memory.
-- Then come steps, in the order that `allowed` of `resilience` asks; it looks at the beat and the turns alone.
pub data CodeRun (D : Deployment) : State → Type 0 where
  opened : (memory : ℕ → Lent) →
      ((i : ℕ) → T (is_honest (network D) i) → Opens (settings (network D) i) (D.lent i) (memory i) (Ok tt)) →
      CodeRun D (record { beat = 2; memory = memory; turn = λ i. ahead; log = [] })
  then_step : {w v : State} → CodeRun D w → (s : Step) → T (allowed (network D) (decoded D w) s) → CodeStep D w s v → CodeRun D v

-- a run that stands in u goes on, by such steps, and stands in w
pub data CodeOnward (D : Deployment) (u : State) : State → Type 0 where
  no_step : CodeOnward D u u
  next : {w v : State} → CodeOnward D u w → (s : Step) → T (allowed (network D) (decoded D w) s) → CodeStep D w s v → CodeOnward D u v
