-- What happens in a run, each as a list of moves: nodes are awake or propose, and packets arrive. A packet is what the log says was
-- sent; only those of dishonest nodes are written out. Assumes nothing.
use Prim.Native.Nat.{ℕ, ◌+◌, ◌%◌}
use mathlib.Core.Path.{◌≡◌, refl, sym, ap, ◌∙◌}
use mathlib.Core.Bool.{Bool, true, not, ◌&&◌, cond}
use mathlib.Core.List.{List, [], ◌∷◌, ◌++◌, append_assoc}
use lib.ListN.{replicate}
use lib.Dec.{eqb}
use Rattle.protocol.specs.declared.Profile.{Profile}
use Rattle.protocol.specs.declared.Profile.TheVariants.{Loom, Rack}
use Rattle.protocol.specs.Entry.{Block, Vote}
use Rattle.protocol.specs.Store.{fresh}
use Rattle.protocol.specs.Packet.{Packet, packet_bytes}
use Rattle.resilience.specs.Run.{Network, Begin, Due, Gossip, Proposal, Receive, Event}
use Rattle.resilience.proofs.Witness.Runs.{Move}
use Rattle.resilience.proofs.Witness.Events.{row}

-- ---- networks

-- nodes with an odd index are racks, the others looms
abbrev pub odd_racks : ℕ → Profile
odd_racks i = cond (eqb (i % 2) 1) Rack Loom

-- n nodes, looms and racks, with expiry period E and depth K; node i has places for so many blocks, and for 30 votes
abbrev pub network : ℕ → ℕ → ℕ → (ℕ → Bool) → (ℕ → ℕ) → Network
network n E K honest blocks =
    record {
      nodes = n;
      expiry = E;
      depth = K;
      profile = odd_racks;
      honest = honest;
      places = λ i. record { blocks = blocks i; votes = 30 };
      before = λ i. fresh;
    }

abbrev pub everyone : ℕ → Bool
everyone i = true

-- node 1 is dishonest
abbrev pub but_one : ℕ → Bool
but_one i = not (eqb i 1)

abbrev pub ten : ℕ → ℕ
ten i = 10

-- ---- acts

abbrev pub Act : Type 0
Act = List Move

unfoldable pub together : List Act → List Move
together [] = []
together (a ∷ rest) = a ++ together rest

pub together-append : (xs ys : List Act) → together (xs ++ ys) ≡ together xs ++ together ys
unfolding together
together-append [] ys = refl
together-append (a ∷ xs) ys = ap (λ ms. a ++ ms) (together-append xs ys) ∙ sym (append_assoc a (together xs) (together ys))

unfoldable pub begin : Act
begin = (λ w. Begin) ∷ []

unfoldable buffer : List ℕ
buffer = replicate 900 0

-- node i is awake: it makes its call and sends its gossip
unfoldable pub awake : ℕ → Act
unfolding buffer
awake i = (λ w. Due i 0) ∷ (λ w. Gossip i buffer) ∷ []

-- node i proposes this number, and sends its gossip and its proposal
unfoldable pub proposes : ℕ → ℕ → Act
unfolding buffer
proposes i number = (λ w. Due i number) ∷ (λ w. Gossip i buffer) ∷ (λ w. Proposal i buffer) ∷ []

-- the first byte; honest nodes write wide: 2 gossip, 3 proposal
abbrev kind_of : List ℕ → ℕ
kind_of [] = 0
kind_of (k ∷ rest) = k

-- the packet of this kind that node i sent at beat b
unfoldable sent_at : ℕ → ℕ → ℕ → List Event → List ℕ
sent_at kind b i [] = []
sent_at kind b i (e ∷ log) =
    cond (eqb (row e).kind 3 && (eqb (row e).beat b && (eqb (row e).node i && eqb (kind_of (row e).bytes) kind)))
    (row e).bytes (sent_at kind b i log)

-- the gossip that node i sent at beat b reaches node j
unfoldable pub late_gossip : ℕ → ℕ → ℕ → Act
unfolding sent_at
late_gossip b i j = (λ w. Receive j (sent_at 2 b i w.log)) ∷ []

-- the gossip that it sent at this beat
unfoldable pub gossip : ℕ → ℕ → Act
unfolding sent_at
gossip i j = (λ w. Receive j (sent_at 2 w.beat i w.log)) ∷ []

-- the proposal that it sent at beat b
unfoldable pub late_proposal : ℕ → ℕ → ℕ → Act
unfolding sent_at
late_proposal b i j = (λ w. Receive j (sent_at 3 b i w.log)) ∷ []

-- the proposal that it sent at this beat
unfoldable pub proposal : ℕ → ℕ → Act
unfolding sent_at
proposal i j = (λ w. Receive j (sent_at 3 w.beat i w.log)) ∷ []

unfoldable spread : ℕ → List ℕ → Act
unfolding gossip
spread i [] = []
spread i (j ∷ js) = cond (eqb i j) (spread i js) (gossip i j ++ spread i js)

unfoldable spread_all : List ℕ → List ℕ → Act
unfolding spread
spread_all [] js = []
spread_all (i ∷ rest) js = spread i js ++ spread_all rest js

-- the gossip that each of these nodes sent at this beat reaches all the others
unfoldable pub exchange : List ℕ → Act
unfolding spread_all
exchange nodes = spread_all nodes nodes

-- a packet that no honest node sent reaches node j
unfoldable pub packet : Packet → ℕ → Act
packet p j = (λ w. Receive j (packet_bytes p)) ∷ []

-- ---- packets that are written out, narrow

abbrev pub block_with : ℕ → ℕ → ℕ → Block
block_with number parent slot = record { number = number; parent = parent; slot = slot }

abbrev pub vote_by : ℕ → ℕ → ℕ → Vote
vote_by voter slot number = record { voter = voter; slot = slot; number = number }

abbrev pub gossip_with : List Block → List Vote → Packet
gossip_with bs vs = record { kind = 0; slot = 0; number = 0; blocks = bs; votes = vs }

abbrev pub proposal_with : ℕ → ℕ → List Block → Packet
proposal_with slot number bs = record { kind = 1; slot = slot; number = number; blocks = bs; votes = [] }

-- the same, wide
abbrev pub wide : Packet → Packet
wide p = record { kind = p.kind + 2; slot = p.slot; number = p.number; blocks = p.blocks; votes = p.votes }
