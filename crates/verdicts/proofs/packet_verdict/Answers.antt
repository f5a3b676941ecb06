-- `packet_verdict` meets its contract. Assumes nothing.
use native.Mathlib.Omega.{arith}
use Prim.Native.Nat.{ℕ}
use mathlib.Core.Path.{◌≡◌, ap, sym, ◌∙◌, subst⁻¹}
use mathlib.Core.List.{◌++◌}
use lib.ListN.{length, length-replicate, replicate, drop}
use Rattle.index.proofs.Shapes.{first-links}
use Rattle.index.proofs.Joined as joined
use Rattle.index.proofs.Cells.{part-blank, part_room, part_length, part-back, freed}
use Rattle.admission.specs.Seen.{BlocksSeen, VotesSeen}
use Rattle.admission.proofs.Seen.{blocks-begin, votes-begin, blocks-new, blocks-named, votes-new, votes-named}
use Rattle.lent.specs.Memory.{memory}
use Rattle.verdicts.specs.declared.Refusal.TheVariants.{BadBlock, BadVote}
use Rattle.verdicts.proofs.Passed.{passed-sound, passed-ready}
use Rattle.verdicts.proofs.Sequence.{refused-at, refused-as, mapped-ok, mapped-err, packet-front}
use Rattle.verdicts.proofs.Receive.{Left, too_long_lem, misformed, block_refused, vote-refused, entries-passed, header_refused, all-passed, counts-new}
use Rattle.verdicts.proofs.packet_verdict.Goals as goal
use Rattle.verdicts.proofs.packet_verdict.Goals.{After-header_allowed, After-packet_span-vote_span}

pub returns-in_err-indexed_verdict-clause-verdict : goal.returns-in_err-indexed_verdict-clause-verdict
returns-in_err-indexed_verdict-clause-verdict c =
    refused-at _ _ _ _ 2 (packet-front _ _ _) c.indexed_verdict.ensures.verdict _ c.from_residual.ensures.1 c.in_err-indexed_verdict.was

pub of-tables-requires : goal.of-tables-requires
of-tables-requires c = passed-sound _ _ _ c.indexed_verdict.ensures.verdict c.in_ok-indexed_verdict.was

pub returns-then-long-clause-verdict : goal.returns-then-long-clause-verdict
returns-then-long-clause-verdict c =
    too_long_lem _ _ _ _ c.indexed_verdict.ensures.verdict c.in_ok-indexed_verdict.was c.too_long-long.ensures c.if-long.true

pub returns-then-not-formed-clause-verdict : goal.returns-then-not-formed-clause-verdict
returns-then-not-formed-clause-verdict c =
    misformed _ _ _ _ c.indexed_verdict.ensures.verdict c.in_ok-indexed_verdict.was c.too_long-long.ensures c.if-long.false
    c.well_formed-formed.ensures c.if-not-formed.true

-- ---- blocks

pub admit_blocks-requires-clause-indexed : goal.admit_blocks-requires-clause-indexed
admit_blocks-requires-clause-indexed c =
    let span = c.packet_span-block_span.ensures in
    rw (c.of-tables.ensures.blocks, c.of-tables.ensures.blocks_used)
    (joined.blocks-begin _ _ _ _ c.in_ok-indexed_verdict.ensures.indexed.blocks.index (part-blank 81919 _ span.1 c.requires.4)
    (part_room 81919 _ span.1 c.requires.4 c.salt_for-salt.result {count = 0} (omega arith) (first-links c.salt_for-salt.result c.count-block_count.result span.0)))

pub admit_blocks-requires-clause-seen : goal.admit_blocks-requires-clause-seen
admit_blocks-requires-clause-seen c = subst⁻¹ (BlocksSeen _ _ _ 0) c.requires.0 (blocks-begin _ _ _ 1056)

pub returns-in_err-new_blocks-clause-verdict : goal.returns-in_err-new_blocks-clause-verdict
returns-in_err-new_blocks-clause-verdict c =
    refused-as _ _ c.from_residual-in_err-new_blocks.ensures.1
    (block_refused _ _ _ _ c.indexed_verdict.ensures.verdict c.in_ok-indexed_verdict.was c.too_long-long.ensures c.if-long.false
    c.well_formed-formed.ensures c.if-not-formed.false _ (rw (c.of-tables.ensures.blocks, c.of-tables.ensures.blocks_used) at c.admit_blocks.ensures.bad) c.admit_blocks.ensures.within
    (mapped-err BadBlock _ _ c.map_err.ensures.cases c.in_err-new_blocks.was))

-- ---- votes

pub returns-in_err-map_err-clause-verdict : goal.returns-in_err-map_err-clause-verdict
returns-in_err-map_err-clause-verdict c =
    refused-as _ _ c.from_residual-in_err-map_err.ensures.1
    (vote-refused _ _ _ _ c.indexed_verdict.ensures.verdict c.in_ok-indexed_verdict.was c.too_long-long.ensures c.if-long.false
    c.well_formed-formed.ensures c.if-not-formed.false _ (rw (c.of-tables.ensures.blocks, c.of-tables.ensures.blocks_used) at c.admit_blocks.ensures.bad)
    (mapped-ok BadBlock _ _ c.map_err.ensures.cases c.in_ok-new_blocks.was)
    _ (rw (c.of-tables.ensures.blocks, c.of-tables.ensures.blocks_used) at c.admit_votes.ensures.bad) c.admit_votes.ensures.within
    (mapped-err BadVote _ _ c.map_err-2.ensures.cases c.in_err-map_err.was))

-- ---- the header and the new entries

-- the entries passed
left : (c : After-header_allowed) → Left c.args.lent.settings (memory c.args.lent) c.args.beat c.args.bytes.now c.header_allowed.result
left c =
    entries-passed _ _ _ _ c.indexed_verdict.ensures.verdict c.in_ok-indexed_verdict.was c.too_long-long.ensures c.if-long.false
    c.well_formed-formed.ensures c.if-not-formed.false _ (rw (c.of-tables.ensures.blocks, c.of-tables.ensures.blocks_used) at c.admit_blocks.ensures.bad)
    (mapped-ok BadBlock _ _ c.map_err.ensures.cases c.in_ok-new_blocks.was)
    _ (rw (c.of-tables.ensures.blocks, c.of-tables.ensures.blocks_used) at c.admit_votes.ensures.bad)
    (mapped-ok BadVote _ _ c.map_err-2.ensures.cases c.in_ok-map_err.was) c.header_allowed.ensures

pub returns-then-not-header_allowed-clause-verdict : goal.returns-then-not-header_allowed-clause-verdict
returns-then-not-header_allowed-clause-verdict c =
    header_refused _ _ _ _ c.header_allowed.result (left (goal.at.returns-then-not-header_allowed-clause-verdict c).After-header_allowed) c.if-not-header_allowed.true

-- all links are free again
all-free : (c : After-packet_span-vote_span) → let m = c.packet_span-block_span.result in
    c.free_all.new.links ++ drop m (c.admit_blocks.new.packet_links ++ drop m c.args.packet_links.now) ≡ replicate 81919 0
all-free c =
    let m = c.packet_span-block_span.ensures.1 in
    let back = c.admit_blocks.auto.packet_links ∙ part_length 81919 _ m c.requires.4 in
    freed 81919 _ m c.requires.4 c.admit_blocks.new.packet_links c.free_all.new.links back
    (c.free_all.auto.links ∙ ap length (part-back _ c.admit_blocks.new.packet_links _ back) ∙ back) c.free_all.ensures

pub new_votes-new_votes-requires-clause-indexed : goal.new_votes-new_votes-requires-clause-indexed
new_votes-new_votes-requires-clause-indexed c =
    let span = c.packet_span-vote_span.ensures in
    let free = all-free (goal.at.new_votes-new_votes-requires-clause-indexed c).After-packet_span-vote_span in
    rw (c.of-tables.ensures.votes, c.of-tables.ensures.votes_used)
    (joined.votes-begin _ _ _ _ c.in_ok-indexed_verdict.ensures.indexed.votes (part-blank 81919 _ span.1 free)
    (part_room 81919 _ span.1 free c.salt_for-salt.result {count = 0} (omega arith) (first-links c.salt_for-salt.result c.count-vote_count.result span.0)))

pub new_votes-new_votes-requires-clause-places : goal.new_votes-new_votes-requires-clause-places
new_votes-new_votes-requires-clause-places c =
    let R = passed-ready _ _ _ c.indexed_verdict.ensures.verdict c.in_ok-indexed_verdict.was in
    let firsts : length c.args.vote_firsts.now ≡ 1152 = ap length c.requires.1 ∙ length-replicate {A = ℕ} 1152 0 in
    omega (arith, R.few-votes, c.count-vote_count.ensures, firsts, c.of-tables.ensures.votes_used)

pub new_votes-new_votes-requires-clause-seen : goal.new_votes-new_votes-requires-clause-seen
new_votes-new_votes-requires-clause-seen c = subst⁻¹ (VotesSeen _ _ _ 0) c.requires.1 (votes-begin _ _ _ 1152)

pub returns-clause-verdict : goal.returns-clause-verdict
returns-clause-verdict c =
    all-passed _ _ _ _ c.header_allowed.result (left (goal.at.returns-clause-verdict c).After-header_allowed) c.if-not-header_allowed.false

pub returns-clause-counts : goal.returns-clause-counts
returns-clause-counts c =
    counts-new _ _ c.args.beat _ c.kept_from-from.ensures
    (rw (mapped-ok BadBlock _ _ c.map_err.ensures.cases c.in_ok-new_blocks.was, c.of-tables.ensures.blocks, c.of-tables.ensures.blocks_used) at c.admit_blocks.ensures.new)
    (rw (c.of-tables.ensures.votes, c.of-tables.ensures.votes_used) at c.new_votes-new_votes.ensures.new)

pub returns-clause-firsts : goal.returns-clause-firsts
returns-clause-firsts c =
    let R = passed-ready _ _ _ c.indexed_verdict.ensures.verdict c.in_ok-indexed_verdict.was in
    let named = rw (mapped-ok BadVote _ _ c.map_err-2.ensures.cases c.in_ok-map_err.was) at c.admit_votes.ensures.seen in
    let block_firsts : length c.args.block_firsts.now ≡ 1056 = ap length c.requires.0 ∙ length-replicate {A = ℕ} 1056 0 in
    let vote_firsts : length c.args.vote_firsts.now ≡ 1152 = ap length c.requires.1 ∙ length-replicate {A = ℕ} 1152 0 in
    rw (sym c.of-tables.ensures.blocks, sym c.of-tables.ensures.blocks_used, sym c.of-tables.ensures.votes, sym c.of-tables.ensures.votes_used) (record {
      blocks-fit = omega (arith, R.few-blocks, c.count-block_count.ensures, block_firsts, c.of-tables.ensures.blocks_used, c.admit_blocks.auto.firsts, c.admit_votes.auto.firsts);
      votes-fit = omega (arith, R.few-votes, c.count-vote_count.ensures, vote_firsts, c.of-tables.ensures.votes_used, c.new_votes-new_votes.auto.firsts);
      blocks-new = blocks-new _ _ _ _ named;
      blocks-named = blocks-named _ _ _ _ named;
      votes-new = votes-new _ _ _ _ c.new_votes-new_votes.ensures.seen;
      votes-named = votes-named _ _ _ _ c.new_votes-new_votes.ensures.seen;
    })
