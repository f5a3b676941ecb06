-- The five nodes of `resilience`'s computed run, with lent memory: that run, which meets every premise of reorg resilience, is a run of the code.
-- Assumes nothing.
use mathlib.Core.Path.{◌≡◌}
use mathlib.Core.List.{◌∷◌}
use lib.ListN.{replicate}
use Rattle.protocol.specs.Words.{from_halves}
use Rattle.protocol.specs.Store.{fresh_clock}
use Rattle.protocol.specs.Lent.{rows_of, places_in, places_of, node_of}
use Rattle.protocol.proofs.Basics.Tests.{and_left}
use Rattle.resilience.proofs.Witness.Acts.{but_one, odd_racks}
use Rattle.resilience.proofs.Witness.Premises.{proposed_test, proposed-true, meets_test}
use Rattle.resilience.proofs.Witness.FiveNodes.{five, acts, twin, end, met}
use Rattle.conformance.specs.State.{Deployment, State, decoded}
use Rattle.conformance.specs.CodeRun.{CodeRun}
use Rattle.conformance.specs.Conformance.{Completeness}
use Rattle.conformance.proofs.Completes.{completes}

-- each is lent ten places for blocks and thirty for votes; node 1 is dishonest, and node 3 a rack
abbrev pub deployment : Deployment
deployment =
    record {
      nodes = 5;
      expiry = 2;
      depth = 2;
      honest = but_one;
      profile = odd_racks;
      lent = λ i.
          record { blocks = 0 ∷ 0 ∷ 0 ∷ 0 ∷ 0 ∷ 1 ∷ replicate 54 0; votes = replicate 150 0; blocks_used = 1; votes_used = 0; clock = fresh_clock };
    }

pub five-nodes : (w : State) × CodeRun deployment w × (decoded deployment w ≡ end)
unfolding Completeness meets_test places_of places_in node_of rows_of from_halves
five-nodes =
    let P = (proposed-true five acts 6 2 twin 11 (and_left (proposed_test five acts 6 2 twin 11) _ met)).started in
    completes deployment P.opened end P.run
