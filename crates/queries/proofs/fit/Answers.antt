-- `queries::fit` meets its contract: Fit. Assumes nothing.
use Prim.Native.Nat.{ℕ, ◌+◌, ◌≤◌}
use mathlib.Core.Path.{refl, ◌∙◌}
use native.Mathlib.Omega.{arith}
use lib.ListN.{length-replicate}
use Rattle.search_tree.proofs.Tree.{blank-new}
use Rattle.queries.proofs.Asks.{fit-leaves, some-used, few-entries, fit-answers}
use Rattle.queries.proofs.fit.Goals as goal
use Rattle.queries.proofs.fit.Goals.{In_ok-new}

pub packet_verdict-requires : goal.packet_verdict-requires
packet_verdict-requires c = let v = length-replicate {A = ℕ} 24576 0 in (refl, refl, (omega arith, omega arith), blank-new 24576, refl)

pub returns-in_err-new : goal.returns-in_err-new
returns-in_err-new c = fit-leaves _ _ _ _ c.packet_verdict.ensures.verdict c.from_residual.result c.in_err-new.was c.from_residual.ensures.1

-- block 0 is there, and no more than a table and a packet hold
few : (c : In_ok-new) → let l = c.args.lent in let n = c.in_ok-new.new in
    (1 ≤ l.blocks_used) × (l.blocks_used + n.blocks ≤ 67584) × (l.votes_used + n.votes ≤ 73728)
few c =
    let x = c.packet_verdict in
    let h = x.ensures.verdict in
    let e = c.in_ok-new.was in
    let counts = c.in_ok-new.ensures.counts in
    let f = few-entries _ _ _ _ h e counts c.in_ok-new.ensures.firsts
    (x.auto.block_firsts ∙ length-replicate {A = ℕ} 1056 0) (x.auto.vote_firsts ∙ length-replicate {A = ℕ} 1152 0) in
    (some-used _ _ _ _ h e counts, f.0, f.1)

pub overflow_sub-written : goal.overflow_sub-written
overflow_sub-written c = omega (arith, (few (goal.at.overflow_sub-written c).In_ok-new).0)

pub overflow_add-written : goal.overflow_add-written
overflow_add-written c =
    let f = few (goal.at.overflow_add-written c).In_ok-new in
    omega (arith, f.0, f.1)

pub overflow_add-kept : goal.overflow_add-kept
overflow_add-kept c = omega (arith, (few (goal.at.overflow_add-kept c).In_ok-new).2)

pub packet_length-requires : goal.packet_length-requires
packet_length-requires c =
    let f = few (goal.at.packet_length-requires c).In_ok-new in
    (omega arith, omega (arith, f.0, f.1), omega (arith, f.2))

pub returns : goal.returns
returns c = fit-answers _ _ _ _ c.packet_verdict.ensures.verdict c.in_ok-new.was c.in_ok-new.ensures.counts c.packet_length.ensures.size.0
