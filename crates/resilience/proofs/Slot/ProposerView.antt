-- The proposer of a slot: its view after Propose, which stays till the Merge of that slot. Assumes nothing.
use Prim.Native.Nat.{ℕ, suc, ◌+◌, ◌/◌, ◌≤◌, ◌<◌}
use mathlib.Core.Path.{◌≡◌, sym, ap, ◌∙◌}
use mathlib.Core.Bool.{cond}
use mathlib.Core.List.{List, [], ◌∷◌, ◌++◌}
use native.Mathlib.Omega.{arith}
use Rattle.protocol.specs.Entry.{Block, Vote}
use Rattle.protocol.specs.Store.{entries, view_of, Node}
use Rattle.protocol.specs.Packet.{packet_of}
use Rattle.protocol.specs.Calls.Receive.{receive_into}
use Rattle.protocol.specs.Calls.Propose.{propose_into}
use Rattle.protocol.proofs.Store.Views.{view-all}
use Rattle.protocol.proofs.Calls.Receive.{view-stays, view-votes-stay}
use Rattle.protocol.proofs.Calls.ViewedAtOnce.{viewed-at-once-once}
use Rattle.protocol.proofs.Calls.Propose.{new_block, propose-stored, propose-view}
use Rattle.protocol.proofs.Calls.Vote.{vote-view}
use Rattle.resilience.specs.Run.{Network, settings, step}
use Rattle.resilience.proofs.Steps.Change.{Change, same, receives, proposes, votes, merges, change, node-after}
use Rattle.resilience.proofs.Runs.Trace.{at}
use Rattle.resilience.proofs.Runs.Execution.{Execution, world}
use Rattle.resilience.proofs.Runs.Lasting.{lasting}
use Rattle.resilience.proofs.Invariants.Proposals.{Built}

-- p's Propose of slot b / 3 was carried out with the number n and answered the base y
module _ {N : Network} {X : Execution N} {b p n y : ℕ} (Q : Built X b p n y) where
  abbrev pub block_of : Block
  block_of = record { number = n; parent = y; slot = b / 3 }

  -- the proposer before
  abbrev pub proposer : Node
  proposer = (world X Q.when).node p

  -- its view afterwards: all that it had, and the new block
  abbrev pub proposer_view : List Block
  proposer_view = entries proposer.blocks ++ (block_of ∷ [])

  abbrev pub votes_of : List Vote
  votes_of = entries proposer.votes

  pub new_is : new_block (settings N p) (N.places p) proposer (world X Q.when).beat n Q.by.tests ≡ block_of
  new_is = λ i. record { number = n; parent = sym Q.by.value i; slot = sym Q.by.beat i / 3 }

  pub node-is : (world X (suc Q.when)).node p ≡ propose_into (settings N p) proposer (world X Q.when).beat n
  unfolding at
  node-is = node-after N (world X Q.when) (X.steps Q.when) p _ (ap (λ o. o.node) Q.by.result)

  pub view-after : view_of ((world X (suc Q.when)).node p).blocks ≡ proposer_view
  view-after =
      ap (λ x. view_of x.blocks) node-is ∙ propose-view (settings N p) (N.places p) proposer (world X Q.when).beat n Q.by.tests
      ∙ ap (λ c. entries proposer.blocks ++ (c ∷ [])) new_is

  pub stored-after : entries ((world X (suc Q.when)).node p).blocks ≡ proposer_view
  stored-after =
      ap (λ x. entries x.blocks) node-is ∙ propose-stored (settings N p) (N.places p) proposer (world X Q.when).beat n Q.by.tests
      ∙ ap (λ c. entries proposer.blocks ++ (c ∷ [])) new_is

  pub votes-after : view_of ((world X (suc Q.when)).node p).votes ≡ votes_of
  votes-after = ap (λ x. view_of x.votes) node-is ∙ view-all proposer.votes

  -- ---- as long as the clock of p is before the merge beat of the slot

  pub record ViewIs (x : Node) : Type 0 where
    pub blocks : view_of x.blocks ≡ proposer_view
    pub votes : view_of x.votes ≡ votes_of
    pub proposed : x.clock.proposed ≡ b / 3

  abbrev Holds : Node → Type 0
  Holds x = (b ≤ x.clock.done) × (x.clock.seen ≤ b + 1 → ViewIs x)

  holds-start : Holds ((world X (suc Q.when)).node p)
  holds-start = (
    omega (arith, Q.by.beat, ap (λ x. x.clock.done) node-is),
    λ h. record { blocks = view-after; votes = votes-after; proposed = ap (λ x. x.clock.proposed) node-is ∙ ap (λ z. z / 3) (sym Q.by.beat) },
  )

  holds-step : (k : ℕ) → k < X.end → Holds ((world X k).node p) → Holds ((world X (suc k)).node p)
  unfolding at receive_into
  holds-step k l h = go (change N (world X k) (X.steps k) p)
    where
      go : Change N (world X k) (X.steps k) p → Holds ((step N (world X k) (X.steps k)).node p)
      go (same e) = rw e h
      go (receives bytes q R e lg) = rw e (
        h.0,
        λ s.
            let v = h.1 (omega (arith, R.base.after)) in
            let z = viewed-at-once-once ((world X k).node p) (world X k).beat (packet_of bytes) (b / 3) v.proposed
            (omega (arith, R.base.after, R.base.good.time.done-seen, h.0)) (omega (arith, Q.beat)) in
            record {
              blocks = view-stays (settings N p) (N.places p) ((world X k).node p) (world X k).beat bytes R z ∙ v.blocks;
              votes = view-votes-stay (settings N p) (N.places p) ((world X k).node p) (world X k).beat bytes R z ∙ v.votes;
              proposed = ap (λ o. cond o (packet_of bytes).slot ((world X k).node p).clock.proposed) z ∙ v.proposed;
            },
      )
      go (proposes m q R e lg) = rw e (omega (arith, R.undone, h.0), λ s. absurd (omega (arith, R.undone, R.phase, h.0, Q.beat)))
      go (votes m q R e lg) = rw e (
        omega (arith, R.undone, h.0),
        λ s.
            let v = h.1 (omega (arith, R.base.after)) in
            record {
              blocks = v.blocks;
              votes = vote-view (settings N p) (N.places p) ((world X k).node p) (world X k).beat R ∙ v.votes;
              proposed = v.proposed;
            },
      )
      go (merges m q R e lg tn) = rw e (omega (arith, R.undone, h.0), λ s. absurd (omega (arith, R.undone, R.phase, h.0, Q.beat)))

  pub own_view : (k : ℕ) → Q.when < k → k ≤ X.end → ((world X k).node p).clock.seen ≤ b + 1 → ViewIs ((world X k).node p)
  own_view k l m h = (lasting X p Holds holds-step (suc Q.when) k l m holds-start).1 h
