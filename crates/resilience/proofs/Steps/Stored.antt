-- Where an entry comes from that stands in a node's store after a step: it stood there before, a packet had it, or the node made it.
-- Assumes nothing.
use Prim.Native.Nat.{ℕ, ◌/◌, ◌≤◌}
use mathlib.Core.Path.{◌≡◌, ap, ◌∙◌}
use mathlib.Core.Logic.{◌⊎◌, inl, inr}
use mathlib.Core.Bool.{true}
use mathlib.Core.List.Memᴰ
use mathlib.Core.List.{List, [], ◌∷◌}
use Rattle.protocol.specs.Entry.{Block, Vote}
use Rattle.protocol.specs.Store.{entries, kept_from}
use Rattle.protocol.specs.Packet.{packet_of}
use Rattle.protocol.specs.Calls.Propose.{base_of}
use Rattle.protocol.specs.Calls.Vote.{head_of}
use Rattle.protocol.proofs.Chain.Relations.{In}
use Rattle.protocol.proofs.Filters.Relations.{Cast}
use Rattle.protocol.proofs.Store.Since.{since-in}
use Rattle.protocol.proofs.Store.Views.{entries-all}
use Rattle.protocol.proofs.Calls.Receive.{stored-blocks, stored-votes}
use Rattle.protocol.proofs.Calls.Propose.{new_block, propose-stored}
use Rattle.protocol.proofs.Calls.Vote.{own_vote, vote-stored}
use Rattle.protocol.proofs.Calls.Merge.{merge-votes}
use Rattle.resilience.specs.Run.{Network, World, settings, Step, Due, Receive, woke, voted, built, given, step}
use Rattle.resilience.proofs.Steps.Change.{Change, same, receives, proposes, votes, merges, change}

module _ (N : Network) (w : World) (s : Step) (i : ℕ) where
  pub data BlockFrom (c : Block) : Type 0 where
    old : In c (entries (w.node i).blocks) → BlockFrom c
    packet : (bytes : List ℕ) → s ≡ Receive i bytes → (step N w s).log ≡ given w.beat i bytes true ∷ w.log → In c (packet_of bytes).blocks → BlockFrom c
    own : (number : ℕ) → s ≡ Due i number → c ≡ record { number = number; parent = base_of (settings N i) (w.node i) (w.beat / 3); slot = w.beat / 3 }
        → (step N w s).log ≡ built w.beat i number (base_of (settings N i) (w.node i) (w.beat / 3)) ∷ woke w.beat i ∷ w.log → BlockFrom c

  pub block-from : (c : Block) → In c (entries ((step N w s).node i).blocks) → BlockFrom c
  block-from c m = go (change N w s i)
    where
      go : Change N w s i → BlockFrom c
      go (same e) = old (rw e at m)
      go (receives bytes q R e lg) = pick (stored-blocks (settings N i) (N.places i) (w.node i) w.beat bytes R c (rw e at m))
        where
          pick : In c (entries (w.node i).blocks) ⊎ In c (packet_of bytes).blocks → BlockFrom c
          pick (inl n) = old n
          pick (inr n) = packet bytes q lg n
      go (proposes x q P e lg) =
          pick (Memᴰ.append_cases (entries (w.node i).blocks) (rw
          (ap (λ o. entries o.blocks) e ∙ propose-stored (settings N i) (N.places i) (w.node i) w.beat x P) at m))
        where
          pick : In c (entries (w.node i).blocks) ⊎ In c (new_block (settings N i) (N.places i) (w.node i) w.beat x P ∷ []) → BlockFrom c
          pick (inl n) = old n
          pick (inr n) = own x q (Memᴰ.eq_of_singleton n) lg
      go (votes n q P e lg) = old (rw (ap (λ o. entries o.blocks) e) at m)
      go (merges n q P e lg tn) = old (rw (ap (λ o. entries o.blocks) e ∙ entries-all (w.node i).blocks) at m)

  pub data VoteFrom (a : Vote) : Type 0 where
    old-vote : Cast a (entries (w.node i).votes) → VoteFrom a
    packet-vote : (bytes : List ℕ) → (step N w s).log ≡ given w.beat i bytes true ∷ w.log → Cast a (packet_of bytes).votes → VoteFrom a
    own-vote : a ≡ record { voter = i; slot = w.beat / 3; number = head_of (settings N i) (w.node i) (w.beat / 3) }
        → (step N w s).log ≡ voted w.beat i (head_of (settings N i) (w.node i) (w.beat / 3)) ∷ woke w.beat i ∷ w.log → VoteFrom a

  pub vote-from : (a : Vote) → Cast a (entries ((step N w s).node i).votes) → VoteFrom a
  vote-from a m = go (change N w s i)
    where
      go : Change N w s i → VoteFrom a
      go (same e) = old-vote (rw e at m)
      go (receives bytes q R e lg) = pick (stored-votes (settings N i) (N.places i) (w.node i) w.beat bytes R a (rw e at m))
        where
          pick : Cast a (entries (w.node i).votes) ⊎ (Cast a (packet_of bytes).votes × (kept_from (settings N i) (w.node i).clock.merged ≤ a.slot)) → VoteFrom a
          pick (inl n) = old-vote n
          pick (inr n) = packet-vote bytes lg n.0
      go (proposes x q P e lg) = old-vote (rw (ap (λ o. entries o.votes) e ∙ entries-all (w.node i).votes) at m)
      go (votes x q P e lg) =
          pick (Memᴰ.append_cases (entries (w.node i).votes) (rw
          (ap (λ o. entries o.votes) e ∙ vote-stored (settings N i) (N.places i) (w.node i) w.beat P) at m))
        where
          pick : Cast a (entries (w.node i).votes) ⊎ Cast a (own_vote (settings N i) (N.places i) (w.node i) w.beat P ∷ []) → VoteFrom a
          pick (inl n) = old-vote n
          pick (inr n) = own-vote (Memᴰ.eq_of_singleton n) lg
      go (merges x q P e lg tn) =
          old-vote (since-in (kept_from (settings N i) (w.beat / 3)) (entries (w.node i).votes) a
          (rw (ap (λ o. entries o.votes) e ∙ merge-votes (settings N i) (N.places i) (w.node i) w.beat P) at m)).0
