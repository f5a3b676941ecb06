-- The run of five nodes again, with K = 2: deep blocks of two nodes in two slots, and what the theorem says of them. Assumes nothing.
use mathlib.Core.Path.{◌≡◌, refl}
use mathlib.Core.Bool.{true}
use mathlib.Core.List.Memᴰ
use mathlib.Core.List.{[], ◌∷◌}
use native.Mathlib.Omega.{arith}
use Rattle.protocol.proofs.Basics.Tests.{and_left, and_right}
use Rattle.resilience.specs.Run.{built}
use Rattle.resilience.specs.Resilience.{Enough, AtOrAbove}
use Rattle.resilience.specs.DeepAgreement.{HonestBlock, Agree, BlockEvery, DeepAfterVote, DeepAgreement}
use Rattle.resilience.proofs.DeepAgreement.{conditions-from, deep-agreement}
use Rattle.resilience.proofs.Witness.Events.{only-in}
use Rattle.resilience.proofs.Witness.Tests.{apart-true}
use Rattle.resilience.proofs.Witness.Premises.{Premise, delivery, one-block, enough, majority, Holds, unforged-by, run_test, run-true, proposed_test, premises-true, meets_test, needed_test}
use Rattle.resilience.proofs.Witness.DeepTests.{deep_test, deep-true, every_test, every_true}
use Rattle.resilience.proofs.Witness.FiveNodes.{five, twin, acts, end, happened, met}

starts : run_test five acts ≡ true
unfolding meets_test proposed_test
starts = and_left (run_test five acts) _ (and_left (proposed_test five acts 6 2 twin 11) _ met)

premises : (q : Premise) → Holds q five 5 2 end
unfolding meets_test
premises = premises-true five acts 5 2 (and_right (proposed_test five acts 6 2 twin 11) _ met)

-- From slot 2 on every two slots have an honest block. Slot 6 has none: node 1 proposes there, against the chain.
pub blocks : BlockEvery five end (HonestBlock end) 2
unfolding every_test meets_test acts
blocks = every_true five 2 end (omega arith) refl

-- right after the vote of node 0 in slot 4 its deep block is twin, and right after that of node 3 in slot 6 it is 41
pub deep-4 : DeepAfterVote five end 0 4 twin
unfolding deep_test acts
deep-4 = deep-true five acts starts 0 4 twin refl

pub deep-6 : DeepAfterVote five end 3 6 41
unfolding deep_test acts
deep-6 = deep-true five acts starts 3 6 41 refl

block-31 : HonestBlock end 9 31
block-31 = record {
  proposer = 3;
  parent = twin;
  proposed = only-in 2 end.log (built 9 3 31 twin) (rw happened.blocks (Memᴰ.tail (Memᴰ.tail (Memᴰ.head refl))));
}

claim : Agree Enough five end (DeepAfterVote five end)
unfolding DeepAgreement
claim = deep-agreement five (run-true five acts starts).opened end

pub record Conclusion : Type 0 where
  -- these two agree
  pub agree : AtOrAbove end.log twin 41
  -- block 31, of slot 3, is at or below the deep block of slot 6
  pub block : AtOrAbove end.log 31 41
  -- block 51, of slot 5, is not: K slots must lie between
  pub too-soon : AtOrAbove end.log 51 41 → ⊥

pub holds : Conclusion
unfolding needed_test acts
holds =
    let r = claim 2 (conditions-from five end 2 (premises delivery) (premises majority))
    (unforged-by five 5 2 end premises) (premises one-block) (premises enough) in
    record {
      agree = r.0 blocks 4 6 0 3 twin 41 (omega arith) (omega arith) deep-4 deep-6;
      block = r.1.1 9 31 6 3 41 block-31 (omega arith) (omega arith) deep-6;
      too-soon = apart-true end.log 51 (41 ∷ 31 ∷ twin ∷ 11 ∷ 0 ∷ []) refl 41 refl;
    }
