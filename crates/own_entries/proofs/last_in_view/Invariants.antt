-- The loop of `last_in_view`: its invariant. Assumes nothing.
use mathlib.Core.Path.{◌≡◌}
use Rattle.protocol.specs.Words.{block_of}
use Rattle.protocol.specs.Store.{view_of}
use Rattle.protocol.specs.Lent.{rows_of, make_block}
use Rattle.protocol.specs.Calls.Write.{last_block}
use Rattle.own_entries.proofs.last_in_view.Given as goal

abbrev pub invariant-loop-i : goal.invariant-loop-i
invariant-loop-i l = block_of l.last ≡ last_block (view_of (rows_of make_block l.blocks.words.now l.i))
