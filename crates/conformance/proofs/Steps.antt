-- A step of the code is the step of `resilience` on the decoded world, and leaves the memory of honest nodes healthy. Assumes nothing.
use Prim.Native.Nat.{ℕ, ◌/◌, ◌%◌}
use mathlib.Core.Path.{◌≡◌, refl, sym, ap, ◌∙◌}
use mathlib.Core.Bool.{Bool, true, false, cond}
use mathlib.Core.List.{List, [], ◌∷◌, ◌++◌}
use lib.Dec.{eqb}
use borrow.Author.Tests.{eqb-true, eq-eqb, ne_eqb}
use Rattle.std.specs.Prelude.{Result}
use Rattle.std.specs.Result.{is_ok}
use Rattle.protocol.specs.declared.Width.TheVariants.{Wide}
use Rattle.protocol.specs.Words.{value}
use Rattle.protocol.specs.Store.{Places, Node}
use Rattle.protocol.specs.Refusal.{Outcome}
use Rattle.protocol.specs.Calls.Write.{write}
use Rattle.protocol.specs.Lent.{Lent, node_of, call_lent}
use Rattle.protocol.proofs.Lent.Calls.{Lawful, receive-lawful, propose-lawful, vote-lawful, merge-lawful}
use Rattle.verdicts.specs.declared.Refusal.{Refusal}
use Rattle.answers.specs.Answers.{nothing_of, received_of}
use Rattle.answers.specs.Promises.{Leaves, Writes}
use Rattle.resilience.specs.Run as model
use Rattle.resilience.specs.Run.{Network, World, Step, Due, Gossip, Proposal, Receive, Event, woke, voted, built, given, lacked, turned_away, carried, logged, sends, Turn, owes, after_gossip, after_proposal, settings, is_honest, update, allowed, due_at, step}
use Rattle.resilience.proofs.Steps.Allowed.{due-honest, send-honest, receive-honest}
use Rattle.conformance.specs.State.{Deployment, State, network, decoded}
use Rattle.conformance.specs.CodeRun.{code_logged, packet_sent, state_after, CodeStep, begins, proposes, waits, votes, merges, gossips, sends_proposal, receives}
use Rattle.conformance.proofs.Answers.{same-events, same-carried, same-packet}
use Rattle.conformance.proofs.Memory.{Healthy, called, wrote}

-- the memory of every honest node is sound and has the places that it was lent
abbrev pub AllHealthy : Deployment → State → Type 0
AllHealthy D w = (i : ℕ) → is_honest (network D) i ≡ true → Healthy (settings (network D) i) ((network D).places i) (w.memory i)

-- what the step s from w does, where v is the state after it
pub record Follows (D : Deployment) (w : State) (s : Step) (v : State) : Type 0 where
  pub world : step (network D) (decoded D w) s ≡ decoded D v
  pub healthy : AllHealthy D v

module _ (D : Deployment) (w : State) (H : AllHealthy D w) where
  abbrev N : Network
  N = network D

  abbrev W : World
  W = decoded D w

  module _ (i : ℕ) (h : is_honest N i ≡ true) where
    holds : W.node i ≡ node_of (w.memory i)
    holds = ap (λ b. cond b (node_of (w.memory i)) ((model.start N).node i)) h

    -- node i alone is changed
    decoded-after : (m : Lent) (u : Turn) (es : List Event) → decoded D (state_after w i m u es) ≡ model.world_after W i (node_of m) u es
    decoded-after m u es =
        λ k. record { beat = w.beat; node = λ j. go j (eqb i j) refl k; turn = update w.turn i u; log = es ++ w.log }
      where
        go : (j : ℕ) (b : Bool) → eqb i j ≡ b
            → cond (is_honest N j) (node_of (cond b m (w.memory j))) ((model.start N).node j) ≡ cond b (node_of m) (W.node j)
        go j true e = let g = rw (eqb-true i j e) at h in ap (λ b. cond b (node_of m) ((model.start N).node j)) g
        go j false e = refl

    moved : (m : Lent) (x : Node) (u v : Turn) (es fs : List Event) → node_of m ≡ x → u ≡ v → es ≡ fs
        → model.world_after W i x v fs ≡ decoded D (state_after w i m u es)
    moved m x u v es fs p q r = sym (decoded-after m u es ∙ (λ k. model.world_after W i (p k) (q k) (r k)))

    healthy-after : (m : Lent) → Healthy (settings N i) (N.places i) m
        → (j : ℕ) → is_honest N j ≡ true → Healthy (settings N j) (N.places j) (update w.memory i m j)
    healthy-after m G j g = go (eqb i j) refl
      where
        go : (b : Bool) → eqb i j ≡ b → Healthy (settings N j) (N.places j) (cond b m (w.memory j))
        go true e = rw (eqb-true i j e) at G
        go false e = H j g

    -- a call that changes the memory: its value puts f in the log, or a refusal for want `want`, then come the events es, and u is the turn
    by_call : {A B : Type 0} (of : A → B) (call : Places → Node → Outcome B) → Lawful (settings N i) call
        → (m : Lent) (r : Result A Refusal) → Leaves of (call_lent (settings N i) call (w.memory i)) m r
        → (s : Step) (want : Event) (f : B → List Event) (u : Bool → Turn) (es : Bool → List Event)
        → (let o = call (N.places i) (W.node i) in step N W s
        ≡ model.world_after W i o.node (u (carried o.answer)) (logged want f o.answer ++ es (carried o.answer)))
        → Follows D w s (state_after w i m (u (is_ok r)) (code_logged want (λ a. f (of a)) r ++ es (is_ok r)))
    by_call of call L m r P s want f u es e =
        let o = call (N.places i) (W.node i) in
        let C = called (settings N i) (N.places i) (W.node i) (w.memory i) (H i h) holds of call L m r P in
        let c : is_ok r ≡ carried o.answer = same-carried of r o.answer C.answer in
        record {
          world = e ∙ moved m o.node (u (is_ok r)) (u (carried o.answer)) _ _ C.node (ap u c)
              (λ k. same-events of r o.answer C.answer want f k ++ es (c k));
          healthy = healthy-after m C.healthy;
        }

    -- Write, and a node that has no call to make: the memory is as it was
    by-reading : (s : Step) (u : Turn) (es fs : List Event) → es ≡ fs
        → step N W s ≡ model.world_after W i (W.node i) u fs → Follows D w s (state_after w i (w.memory i) u es)
    by-reading s u es fs q e = record {
      world = e ∙ moved (w.memory i) (W.node i) u u es fs (sym holds) refl q;
      healthy = healthy-after (w.memory i) (H i h);
    }

    written : (proposal : Bool) (old new : List ℕ) (r : Result ℕ Refusal) → Writes (settings N i) (w.memory i) proposal Wide old new r
        → packet_sent w.beat i new r
        ≡ sends w.beat i (write (settings N i) (N.places i) (W.node i) proposal Wide old)
    written proposal old new r P =
        let e = wrote (settings N i) (N.places i) (W.node i) (w.memory i) (H i h) holds proposal Wide old in
        same-packet w.beat i new r (write (settings N i) (N.places i) (W.node i) proposal Wide old)
        (P.buffer ∙ ap (λ y. y.buffer) e) (P.answer ∙ ap (λ y. y.answer) e)

  -- ---- the step

  in-phase : (phase : ℕ) → w.beat % 3 ≡ phase → (i number : ℕ) → step N W (Due i number) ≡ due_at phase N W i number
  unfolding step
  in-phase phase e i number = ap (λ k. due_at k N W i number) e

  pub follows : (s : Step) (v : State) → allowed N W s ≡ true → CodeStep D w s v → Follows D w s v
  unfolding step due_at
  follows s v a begins = record { world = refl; healthy = H }
  follows s v a (proposes i number m r e own P) =
      by_call i (due-honest N W i number a).0 value _ (propose-lawful (settings N i) w.beat number) m r P
      (Due i number) (lacked w.beat i) (λ p. built w.beat i number p ∷ []) (λ b. owes true b) (λ b. woke w.beat i ∷ [])
      (in-phase 0 e i number ∙ rw (eq-eqb (w.beat / 3 % D.nodes) i own))
  follows s v a (waits i number e other) =
      by-reading i (due-honest N W i number a).0 (Due i number) (owes true false) (woke w.beat i ∷ []) (woke w.beat i ∷ []) refl
      (in-phase 0 e i number ∙ rw (ne_eqb (w.beat / 3 % D.nodes) i other))
  follows s v a (votes i number m r e P) =
      by_call i (due-honest N W i number a).0 value _ (vote-lawful (settings N i) w.beat) m r P
      (Due i number) (lacked w.beat i) (λ x. voted w.beat i x ∷ []) (λ b. owes true false) (λ b. woke w.beat i ∷ []) (in-phase 1 e i number)
  follows s v a (merges i number m r e P) =
      by_call i (due-honest N W i number a).0 nothing_of _ (merge-lawful (settings N i) w.beat) m r P
      (Due i number) (lacked w.beat i) (λ x. []) (λ b. owes true false) (λ b. woke w.beat i ∷ []) (in-phase 2 e i number)
  follows s v a (gossips i old new r P) =
      let h = send-honest N W false i old a in
      by-reading i h (Gossip i old) (after_gossip (w.turn i)) _ _ (written i h false old new r P) refl
  follows s v a (sends_proposal i old new r P) =
      let h = send-honest N W true i old a in
      by-reading i h (Proposal i old) (after_proposal (w.turn i)) _ _ (written i h true old new r P) refl
  follows s v a (receives i bytes m r P) =
      by_call i (receive-honest N W i bytes a) received_of _ (receive-lawful (settings N i) w.beat bytes) m r P
      (Receive i bytes) (turned_away w.beat i bytes) (λ x. []) (λ b. w.turn i) (λ b. given w.beat i bytes b ∷ []) refl
