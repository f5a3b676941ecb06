-- `last_in_view` meets its contract. Assumes nothing.
use mathlib.Core.Path.{refl, sym, ap, ◌∙◌}
use Rattle.protocol.specs.Words.{block_of, from_halves}
use Rattle.protocol.specs.Store.{view_of}
use Rattle.protocol.specs.Lent.{rows_of}
use Rattle.protocol.specs.Calls.Write.{last_block}
use Rattle.own_entries.proofs.Last.{last_turn}
use Rattle.own_entries.proofs.last_in_view.Goals as goal
use Rattle.own_entries.proofs.last_in_view.Goals.{then-row, else-row}

pub loop-i-init : goal.loop-i-init
unfolding last_block view_of rows_of from_halves
loop-i-init c = refl

pub loop-i-preserved : goal.loop-i-preserved
loop-i-preserved c =
    let t = last_turn c.args.blocks.words.now c.loop-i.i c.row-row.ensures in
    elim c.if-row.branch [
      | then-row w ↦ ap block_of w.last-is ∙ sym (t ∙ rw w.if-row.true)
      | else-row w ↦ ap block_of w.last-is ∙ c.loop-i.invariant ∙ sym (t ∙ rw w.if-row.false)
    ]
