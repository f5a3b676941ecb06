-- Request 7's numbers of slots cannot be weakened: a run in which two nodes have different deep blocks in one slot, and which meets all else. Assumes
-- nothing.
use Prim.Native.Nat.{ℕ, suc, ◌+◌, ◌*◌, ◌-◌, ◌≤◌}
use mathlib.Core.Path.{◌≡◌, refl}
use mathlib.Core.Bool.{true}
use mathlib.Core.List.{List, [], ◌∷◌}
use native.Mathlib.Omega.{arith}
use Rattle.resilience.specs.Run.{Network, World, start}
use Rattle.resilience.specs.Resilience.{Opened, Unforged, OneBlock, Enough, AtOrAbove}
use Rattle.resilience.specs.DeepAgreement.{ConditionsFrom, HonestBlock, BlockEvery, DeepAfterVote}
use Rattle.resilience.proofs.DeepAgreement.{conditions-from}
use Rattle.resilience.proofs.Witness.Runs.{runs}
use Rattle.resilience.proofs.Witness.Acts.{network, but_one, ten, Act, together, begin, awake, exchange, packet, vote_by, gossip_with}
use Rattle.resilience.proofs.Witness.Tests.{apart-true}
use Rattle.resilience.proofs.Witness.Premises.{Premise, delivery, one-block, enough, majority, Holds, unforged-by, run_test, run-true, premises_test, premises-true, needed_test}
use Rattle.resilience.proofs.Witness.FiveNodes.{proposal-11, proposal-12}
use Rattle.resilience.proofs.Witness.DeepTests.{deep_test, deep-true, every_test, every_true}

-- In a run that meets the premises from slot `since` on, but for `every` in place of the one on K slots, two nodes have in one slot, from
-- `since` + `gap` K on, deep blocks that are on different branches.
pub record Differ (every : Network → ℕ → World → Type 0) (gap : ℕ → ℕ) : Type 0 where
  pub network : Network
  pub opened : Opened network
  pub world : World
  pub since : ℕ
  pub conditions : ConditionsFrom network since world
  pub unforged : Unforged network world.log
  pub one_block : OneBlock world.log
  pub enough : Enough world.log
  pub blocks : every network since world
  pub slot : ℕ
  pub far : since + gap network.depth ≤ slot
  pub one : ℕ
  pub other : ℕ
  pub d : ℕ
  pub e : ℕ
  pub first : DeepAfterVote network world one slot d
  pub second : DeepAfterVote network world other slot e
  pub fails : AtOrAbove world.log d e → ⊥

-- ---- the run

-- Votes expire after one slot, and K is 2.
abbrev N : Network
N = network 5 1 2 but_one ten

-- Node 1 is dishonest. In slot 1 it proposes 12 to nodes 0 and 2 and 11 to nodes 3 and 4, and each votes for what it saw. Nodes 0 and 2 also have
-- a vote of node 1 for 12 before they merge. In slot 2 nobody proposes. Nodes 0 and 2 count three votes for 12, nodes 3 and 4 two for each, and vote for
-- the smaller number. Node 0 alone has a vote of node 1 in slot 2 for 12 before it merges. So in slot 3 it votes for 12, and node 3 for 11.
unfoldable acts : List Act
acts =
    begin ∷ packet proposal-12 0 ∷ packet proposal-12 2 ∷ packet proposal-11 3 ∷ packet proposal-11 4
    ∷ begin ∷ awake 0 ∷ awake 2 ∷ awake 3 ∷ awake 4 ∷ exchange (0 ∷ 2 ∷ 3 ∷ 4 ∷ [])
    ∷ packet (gossip_with [] (vote_by 1 1 12 ∷ [])) 0 ∷ packet (gossip_with [] (vote_by 1 1 12 ∷ [])) 2
    ∷ begin ∷ awake 0 ∷ awake 2 ∷ awake 3 ∷ awake 4 ∷ exchange (0 ∷ 2 ∷ 3 ∷ 4 ∷ [])
    ∷ begin
    ∷ begin ∷ awake 0 ∷ awake 2 ∷ awake 3 ∷ awake 4 ∷ exchange (0 ∷ 2 ∷ 3 ∷ 4 ∷ [])
    ∷ packet (gossip_with [] (vote_by 1 2 12 ∷ [])) 0
    ∷ begin ∷ awake 0 ∷ awake 2 ∷ awake 3 ∷ awake 4 ∷ exchange (0 ∷ 2 ∷ 3 ∷ 4 ∷ [])
    ∷ begin
    ∷ begin ∷ awake 0 ∷ awake 3
    ∷ []

abbrev end : World
end = runs N (start N) (together acts)

starts : run_test N acts ≡ true
unfolding run_test acts
starts = refl

deep-0 : DeepAfterVote N end 0 3 12
unfolding deep_test acts
deep-0 = deep-true N acts starts 0 3 12 refl

deep-3 : DeepAfterVote N end 3 3 11
unfolding deep_test acts
deep-3 = deep-true N acts starts 3 3 11 refl

apart : AtOrAbove end.log 12 11 → ⊥
unfolding needed_test acts
apart = apart-true end.log 12 (11 ∷ 0 ∷ []) refl 11 refl

differ : (every : Network → ℕ → World → Type 0) (gap : ℕ → ℕ) (s : ℕ) → premises_test N acts (3 * s - 1) s ≡ true → every N s end → s + gap 2 ≤ 3 → Differ every gap
differ every gap s h blocks far =
    let p : (q : Premise) → Holds q N (3 * s - 1) s end = premises-true N acts (3 * s - 1) s h in
    record {
      network = N;
      opened = (run-true N acts starts).opened;
      world = end;
      since = s;
      conditions = conditions-from N end s (p delivery) (p majority);
      unforged = unforged-by N (3 * s - 1) s end p;
      one_block = p one-block;
      enough = p enough;
      blocks = blocks;
      slot = 3;
      far = far;
      one = 0;
      other = 3;
      d = 12;
      e = 11;
      first = deep-0;
      second = deep-3;
      fails = apart;
    }

-- ---- what is not enough

abbrev deeper : Network → Network
deeper N =
    record { nodes = N.nodes; expiry = N.expiry; depth = suc N.depth; profile = N.profile; honest = N.honest; places = N.places; before = N.before }

abbrev Blocks : Network → ℕ → World → Type 0
Blocks N s w = BlockEvery N w (HonestBlock w) s

-- an honest block in every K + 1 slots
pub longer-gaps : Differ (λ N. Blocks (deeper N)) (λ K. K)
unfolding premises_test every_test acts
longer-gaps = differ (λ N. Blocks (deeper N)) (λ K. K) 1 refl (every_true (deeper N) 1 end (omega arith) refl) (omega arith)

-- a slot from s + K - 1 on
pub too-soon : Differ Blocks (λ K. K - 1)
unfolding premises_test every_test acts
too-soon = differ Blocks (λ K. K - 1) 2 refl (every_true N 2 end (omega arith) refl) (omega arith)
