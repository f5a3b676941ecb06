-- Runs (document 01, "The run behind the third demand"): lists of calls of honest nodes, and the log of what happened in them.
-- Assumes nothing.
use Rattle.std.specs.Prelude.{◌≡◌, ℕ, zero, suc, ◌+◌, ◌/◌, ◌%◌, ◌^◌, Bool, true, false, not, ◌&&◌, ◌||◌, cond, List, [], ◌∷◌, ◌++◌, take, eqb, leb, ltb, T}
use Rattle.protocol.specs.declared.Settings.{Settings}
use Rattle.protocol.specs.declared.Profile.{Profile}
use Rattle.protocol.specs.declared.Width.TheVariants.{Wide}
use Rattle.protocol.specs.Lists.{all_pass}
use Rattle.protocol.specs.Store.{Places, Node}
use Rattle.protocol.specs.Refusal.{Refusal, refusal_number, Answer, refused, done, Outcome}
use Rattle.protocol.specs.Calls.Open.{open_node}
use Rattle.protocol.specs.Calls.Receive.{receive}
use Rattle.protocol.specs.Calls.Propose.{propose}
use Rattle.protocol.specs.Calls.Vote.{vote}
use Rattle.protocol.specs.Calls.Merge.{merge}
use Rattle.protocol.specs.Calls.Write.{Written, write}

-- The nodes of a run (document 01: a shed): how many, with the same expiry period and depth; of each the set of limits that it keeps to, so that looms
-- and racks may stand in one run; which are honest, a fixed set; and of each the places that it is lent and what stood there before it was opened.
pub record Network : Type 0 where
  pub nodes : ℕ
  pub expiry : ℕ
  pub depth : ℕ
  pub profile : ℕ → Profile
  pub honest : ℕ → Bool
  pub places : ℕ → Places
  pub before : ℕ → Node

abbrev pub settings : Network → ℕ → Settings
settings N i = record { profile = N.profile i; nodes = N.nodes; own = i; expiry = N.expiry; depth = N.depth }

abbrev pub is_honest : Network → ℕ → Bool
is_honest N i = ltb i N.nodes && N.honest i

-- ---- steps and events

pub data Step : Type 0 where
  Begin : Step  -- the next beat begins
  Due : ℕ → ℕ → Step  -- a node is awake and makes the call that is its due, with this number if it is a Propose
  Gossip : ℕ → List ℕ → Step  -- it sends its store, by a Write into this buffer
  Proposal : ℕ → List ℕ → Step  -- it sends its proposal, by a Write into this buffer
  Receive : ℕ → List ℕ → Step  -- its Receive is given these bytes

-- What happened. Each event has its beat first and then the node.
pub data Event : Type 0 where
  woke : ℕ → ℕ → Event  -- it was awake: it made the call that was its due
  voted : ℕ → ℕ → ℕ → Event  -- its vote in the beat's slot was for this block
  built : ℕ → ℕ → ℕ → ℕ → Event  -- its block of the beat's slot: number and parent
  sent : ℕ → ℕ → List ℕ → Event  -- these bytes
  given : ℕ → ℕ → List ℕ → Bool → Event  -- its Receive was given these bytes, and accepted them or not
  lacked : ℕ → ℕ → Event  -- a call of its own, Propose, Vote, Merge or a Write, was refused for want of places or buffer
  turned_away : ℕ → ℕ → List ℕ → Event  -- its Receive refused these bytes, for want of places or as too long

-- Where a node stands in a beat: it has not made its call, or it has, and owes its gossip, its proposal, both or neither.
pub data Turn : Type 0 where
  ahead : Turn
  owes : Bool → Bool → Turn

pub record World : Type 0 where
  pub beat : ℕ  -- the beat last begun; 2 before the first
  pub node : ℕ → Node
  pub turn : ℕ → Turn
  pub log : List Event  -- the latest first

-- every node fresh from Open
abbrev pub start : Network → World
start N =
    record {
      beat = 2;
      node = λ i. (open_node (settings N i) (N.places i) (N.before i)).node;
      turn = λ i. ahead;
      log = [];
    }

-- ---- what a step does

-- a function changed at one place
abbrev pub update {ℓ} : {A : Type ℓ} → (ℕ → A) → ℕ → A → ℕ → A
update f i a j = cond (eqb i j) a (f j)

-- the world after a call of node i
abbrev pub world_after : World → ℕ → Node → Turn → List Event → World
world_after w i x u es = record { beat = w.beat; node = update w.node i x; turn = update w.turn i u; log = es ++ w.log }

abbrev pub carried : {A : Type 0} → Answer A → Bool
carried (refused k) = false
carried (done a) = true

-- "want of places or buffer is refusal 10 or 18"; since request 9 it "includes a packet too long", 24
abbrev pub for_want : Refusal → Bool
for_want k = eqb (refusal_number k) 10 || (eqb (refusal_number k) 18 || eqb (refusal_number k) 24)

-- what an answer puts in the log: `want` if it is a refusal for want
abbrev pub logged : {A : Type 0} → Event → (A → List Event) → Answer A → List Event
logged want f (refused k) = cond (for_want k) (want ∷ []) []
logged want f (done a) = f a

-- "phase 0: Propose if the slot is its own, else none; phase 1: Vote; phase 2: Merge"
unfoldable pub due_at : ℕ → Network → World → ℕ → ℕ → World
due_at zero N w i number =
    cond (eqb (w.beat / 3 % N.nodes) i)
    (let o = propose (settings N i) (N.places i) (w.node i) w.beat number in
    world_after w i o.node (owes true (carried o.answer))
    (logged (lacked w.beat i) (λ p. built w.beat i number p ∷ []) o.answer ++ (woke w.beat i ∷ [])))
    (world_after w i (w.node i) (owes true false) (woke w.beat i ∷ []))
due_at (suc zero) N w i number =
    let o = vote (settings N i) (N.places i) (w.node i) w.beat in
    world_after w i o.node (owes true false) (logged (lacked w.beat i) (λ h. voted w.beat i h ∷ []) o.answer ++ (woke w.beat i ∷ []))
due_at (suc (suc k)) N w i number =
    let o = merge (settings N i) (N.places i) (w.node i) w.beat in
    world_after w i o.node (owes true false) (logged (lacked w.beat i) (λ h. []) o.answer ++ (woke w.beat i ∷ []))

abbrev pub after_gossip : Turn → Turn
after_gossip ahead = ahead
after_gossip (owes g p) = owes false p

abbrev pub after_proposal : Turn → Turn
after_proposal ahead = ahead
after_proposal (owes g p) = owes g false

-- "a sent packet is the bytes as Write left them, of the length it answered"; "in the run .. honest nodes write wide"
abbrev pub sends : ℕ → ℕ → Written → List Event
sends b i o = logged (lacked b i) (λ n. sent b i (take n o.buffer) ∷ []) o.answer

unfoldable pub step : Network → World → Step → World
step N w Begin = record { beat = w.beat + 1; node = w.node; turn = λ i. ahead; log = w.log }
step N w (Due i number) = due_at (w.beat % 3) N w i number
step N w (Gossip i buffer) =
    world_after w i (w.node i) (after_gossip (w.turn i))
    (sends w.beat i (write (settings N i) (N.places i) (w.node i) false Wide buffer))
step N w (Proposal i buffer) =
    world_after w i (w.node i) (after_proposal (w.turn i))
    (sends w.beat i (write (settings N i) (N.places i) (w.node i) true Wide buffer))
step N w (Receive i bytes) =
    let o = receive (settings N i) (N.places i) (w.node i) w.beat bytes in
    world_after w i o.node (w.turn i)
    (logged (turned_away w.beat i bytes) (λ r. []) o.answer ++ (given w.beat i bytes (carried o.answer) ∷ []))

-- ---- which steps document 01 allows

abbrev pub before_call : Turn → Bool
before_call ahead = true
before_call (owes g p) = false

abbrev pub owes_gossip : Turn → Bool
owes_gossip ahead = false
owes_gossip (owes g p) = g

abbrev pub owes_proposal : Turn → Bool
owes_proposal ahead = false
owes_proposal (owes g p) = p

-- whether every number below m passes
unfoldable pub all_below : (ℕ → Bool) → ℕ → Bool
all_below p zero = true
all_below p (suc m) = p m && all_below p m

-- A beat begins when no honest node owes a packet. In a beat a node makes one call and then sends, its gossip and its proposal
-- in either order. A Receive may come at any point, also before the first beat, inside a beat and at a sleeping node.
-- Block numbers have 128 bits, and bytes 8.
unfoldable pub allowed : Network → World → Step → Bool
allowed N w Begin = all_below (λ i. not (N.honest i) || not (owes_gossip (w.turn i) || owes_proposal (w.turn i))) N.nodes
allowed N w (Due i number) = is_honest N i && (leb 3 w.beat && (before_call (w.turn i) && ltb number (2 ^ 128)))
allowed N w (Gossip i buffer) = is_honest N i && owes_gossip (w.turn i)
allowed N w (Proposal i buffer) = is_honest N i && owes_proposal (w.turn i)
allowed N w (Receive i bytes) = is_honest N i && all_pass (λ b. ltb b 256) bytes

-- the runs, and the world in which each stands
pub data Run (N : Network) : World → Type 0 where
  opened : Run N (start N)
  then_step : {w : World} → Run N w → (s : Step) → T (allowed N w s) → Run N (step N w s)

-- A run that stands in u goes on, by steps that are allowed, and stands in w.
pub data Onward (N : Network) (u : World) : World → Type 0 where
  no_step : Onward N u u
  next : {w : World} → Onward N u w → (s : Step) → T (allowed N w s) → Onward N u (step N w s)

-- At beat b a call of node i was carried out: in a world of a run it was due, and this is its answer. The step left the world u.
pub record CarriedOut {A : Type 0} (N : Network) (call : Settings → Places → Node → ℕ → Outcome A) (i b : ℕ) (u : World) : Type 0 where
  pub before : World
  pub run : Run N before
  pub number : ℕ
  pub due : T (allowed N before (Due i number))
  pub beat : before.beat ≡ b
  pub value : A
  pub answer : (call (settings N i) (N.places i) (before.node i) before.beat).answer ≡ done value
  pub left : u ≡ step N before (Due i number)
