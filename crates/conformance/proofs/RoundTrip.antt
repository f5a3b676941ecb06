-- A gossip packet carries the whole store, said of the code. And what a Write, an Open and a Receive of the code are on the nodes that their memories hold.
-- Assumes nothing.
use Prim.Native.Nat.{ℕ, ◌-◌}
use mathlib.Core.Path.{◌≡◌, refl, sym, ap, ◌∙◌}
use mathlib.Core.Bool.{Bool, true, false, cond}
use mathlib.Core.List.{List}
use native.Mathlib.Omega.{arith}
use lib.ListN.{take}
use Rattle.std.specs.Prelude.{Result, Ok}
use Rattle.protocol.specs.declared.Settings.{Settings}
use Rattle.protocol.specs.declared.Width.{Width}
use Rattle.protocol.specs.Store.{Node, entries}
use Rattle.protocol.specs.Refusal.{by, refused, done, Outcome}
use Rattle.protocol.specs.Calls.Open.{open_node}
use Rattle.protocol.specs.Calls.Receive.{Received, receive}
use Rattle.protocol.specs.Calls.Write as writing
use Rattle.protocol.specs.Calls.Write.{write}
use Rattle.protocol.specs.Lent.{Lent, make_block, make_vote, places_of, node_of, lent_sound, write_lent}
use Rattle.protocol.specs.RoundTrip.{RoundTrip}
use Rattle.protocol.proofs.Lent.Rows.{length-rows_of}
use Rattle.protocol.proofs.Lent.Memory.{numbers-below}
use Rattle.protocol.proofs.Lent.Calls.{receive-lawful}
use Rattle.protocol.proofs.Exchange.RoundTrip.{gossip-carries-the-store}
use Rattle.verdicts.specs.declared.Refusal.{Refusal}
use Rattle.answers.specs.declared.Received as answers
use Rattle.answers.specs.Answers.{received_of}
use Rattle.answers.specs.Promises.{Opens, Receives, Writes}
use Rattle.conformance.specs.CodeRoundTrip.{CodeRoundTrip}
use Rattle.conformance.proofs.Memory.{Healthy, opened-done, opened-node, opened-healthy, Called, called, wrote}

-- ---- gossip that was written and received

-- memory on which a Write is carried out is sound
sound-by : (b : Bool) (w : writing.Written) (old : List ℕ) (n : ℕ) → done n ≡ (cond b w (record { answer = refused (by 6); buffer = old })).answer → b ≡ true
sound-by true w old n e = refl
sound-by false w old n e = let z : ◌≡◌ {A = ℕ} 0 1 = cc in absurd (omega arith)

-- a Write of gossip answered n and left the buffer so
module _ (s : Settings) (m : Lent) (width : Width) (old new : List ℕ) (n : ℕ) (W : Writes s m false width old new (Ok n)) where
  -- the same Write on the node that the memory holds
  abbrev pub out : writing.Written
  out = write s (places_of m) (node_of m) false width old

  pub sender-healthy : Healthy s (places_of m) m
  unfolding write_lent
  sender-healthy = record { places = refl; sound = sound-by (lent_sound s m) out old n W.answer }

  out-is : write_lent s (λ p x. write s p x false width old) m old ≡ out
  out-is = wrote s (places_of m) (node_of m) m sender-healthy refl false width old

  pub out-done : out.answer ≡ done n
  out-done = sym (W.answer ∙ ap (λ q. q.answer) out-is)

  -- it was received by a node that was opened
  module _ (s' : Settings) (before m' : Lent) (O : Opens s' before m' (Ok tt)) where
    -- the same Receive on the node that was opened there
    abbrev pub taken : Outcome Received
    taken = receive s' (places_of before) (open_node s' (places_of before) (node_of before)).node m.clock.seen (take n out.buffer)

    pub taken-called : (y : Lent) (r : Result answers.Received Refusal) → Receives s' m' m.clock.seen (take n new) y r → Called s' (places_of before) received_of taken y r
    taken-called y r R =
        let x' = (open_node s' (places_of before) (node_of before)).node in
        let e : new ≡ out.buffer = W.buffer ∙ ap (λ q. q.buffer) out-is in
        rw (← e) (called s' (places_of before) x' m' (opened-healthy s' before m' O) (sym (opened-node s' before m' O)) received_of
        (λ p x. receive s' p x m.clock.seen (take n new)) (receive-lawful s' m.clock.seen (take n new)) y r R)

pub code-gossip-carries-the-store : CodeRoundTrip
unfolding CodeRoundTrip RoundTrip node_of
code-gossip-carries-the-store s m words width old new n W s' before m' O same rb rv short y r R =
    let C = taken-called s m width old new n W s' before m' O y r R in
    let b = length-rows_of make_block m.blocks m.blocks_used in
    let v = length-rows_of make_vote m.votes m.votes_used in
    let G = gossip-carries-the-store s (places_of m) (node_of m) (numbers-below m words) width old n (out-done s m width old new n W) s' (places_of before) (node_of before)
    (opened-done s' before m' O) same (omega (arith, rb, b)) (omega (arith, rv, v)) short in
    let e = C.node ∙ ap (λ o. o.node) G.0 in (
      C.answer ∙ ap (λ o. o.answer) G.0 ∙ (λ i. done (record { new_blocks = b i - 1; new_votes = v i; viewed = false })),
      e,
      ap (λ (x : Node). entries x.blocks) e ∙ G.1,
      ap (λ (x : Node). entries x.votes) e ∙ G.2,
    )
