-- The find of FastBlocks, and then a fault of E - 1 slots: the fast block stays. Assumes nothing.
use Prim.Native.Nat.{◌*◌, ◌<◌}
use mathlib.Core.Path.{◌≡◌, refl}
use mathlib.Core.Bool.{true, false}
use mathlib.Core.List.Memᴰ
use mathlib.Core.List.{List, [], ◌∷◌, ◌++◌}
use native.Mathlib.Omega.{arith}
use Rattle.resilience.specs.Run.{World, start, voted, built}
use Rattle.resilience.specs.Resilience.{AtOrAbove, StaysAfter}
use Rattle.resilience.specs.FastHolds.{dishonest, FoundAfterMerge}
use Rattle.resilience.specs.Asynchrony.{Good, AsynchronyFastHolds}
use Rattle.resilience.proofs.Runs.Premises.{enough-for-honest}
use Rattle.resilience.proofs.FastHolds.{has-fast, asynchrony-fast-holds}
use Rattle.resilience.proofs.Witness.Runs.{runs}
use Rattle.resilience.proofs.Witness.Acts.{Act, together, begin, awake, proposes, exchange, packet}
use Rattle.resilience.proofs.Witness.Events.{only, only-in}
use Rattle.resilience.proofs.Witness.Tests.{delivered-at-true}
use Rattle.resilience.proofs.Witness.Premises.{run_test, run-true, fair-true}
use Rattle.resilience.proofs.Witness.OneOfEvery.{one-of-true}
use Rattle.resilience.proofs.Witness.FiveNodes.{five}
use Rattle.resilience.proofs.Witness.FastTests.{found_test, found-true}
use Rattle.resilience.proofs.Witness.FastBlocks.{finding, again-12}
use Rattle.resilience.proofs.Witness.AsynchronyTests.{good_test, good-true, check_test}

-- In slot 2 node 2 proposes 21 and all vote, but all that they send is lost; node 1 votes for 12. In slot 3 nobody proposes, and the votes arrive. In
-- slot 4 node 4 proposes 41.
unfoldable fault : List Act
fault =
    begin ∷ proposes 2 21
    ∷ begin ∷ awake 0 ∷ awake 2 ∷ awake 3 ∷ awake 4 ∷ packet again-12 4
    ∷ begin ∷ awake 0 ∷ awake 2 ∷ awake 3 ∷ awake 4
    ∷ begin
    ∷ begin ∷ awake 0 ∷ awake 2 ∷ awake 3 ∷ awake 4 ∷ exchange (0 ∷ 2 ∷ 3 ∷ 4 ∷ [])
    ∷ begin ∷ awake 0 ∷ awake 2 ∷ awake 3 ∷ awake 4
    ∷ begin ∷ proposes 4 41
    ∷ begin ∷ awake 0 ∷ awake 2 ∷ awake 3 ∷ awake 4
    ∷ []

unfoldable pub acts : List Act
unfolding finding fault
acts = finding ++ fault

abbrev pub end : World
end = runs five (start five) (together acts)

-- In each list of events the latest comes first.
pub record Happened : Type 0 where
  pub votes : only 1 end.log
      ≡ voted 13 4 41 ∷ voted 13 3 21 ∷ voted 13 2 21 ∷ voted 13 0 21
      ∷ voted 10 4 11 ∷ voted 10 3 11 ∷ voted 10 2 21 ∷ voted 10 0 11
      ∷ voted 7 4 11 ∷ voted 7 3 11 ∷ voted 7 2 21 ∷ voted 7 0 11
      ∷ voted 4 4 12 ∷ voted 4 3 11 ∷ voted 4 2 11 ∷ voted 4 0 11 ∷ []
  pub blocks : only 2 end.log ≡ built 12 4 41 21 ∷ built 6 2 21 11 ∷ []
  -- slot 2 is not good
  pub lost : good_test five end 2 ≡ false

pub happened : Happened
unfolding check_test only acts
happened = record { votes = refl; blocks = refl; lost = refl }

-- ---- what the theorem says of it

starts : run_test five acts ≡ true
unfolding run_test acts
starts = refl

-- after its Merge of slot 1 node 0 finds block 11
pub found : FoundAfterMerge five end 0 1 11
unfolding found_test acts
found = found-true five acts finding fault refl starts 0 1 11 refl

few : 4 * dishonest five < 5
unfolding dishonest check_test
few = omega arith

-- and it stays
pub stays : StaysAfter 1 11 end
unfolding AsynchronyFastHolds check_test acts
stays =
    let f = fair-true five end refl in
    (asynchrony-fast-holds five (run-true five acts starts).opened end few 1 (delivered-at-true 4 end.log refl) f.0 f.1.0 (enough-for-honest f.1.1)
    (one-of-true (good_test five end) (Good five end) (good-true five end) 2 2 end (omega arith) refl) 0 11 (has-fast five end 0 1 11 found)).0

pub last-vote : AtOrAbove end.log 11 41
last-vote = stays.0 13 4 41 (only-in 1 end.log (voted 13 4 41) (rw happened.votes (Memᴰ.head refl))) (omega arith)
