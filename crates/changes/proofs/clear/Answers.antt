-- `clear` meets its contract. Assumes nothing.
use Prim.Native.Nat.{ℕ}
use mathlib.Core.List.{List}
use mathlib.Core.Path.{ap, ◌∙◌}
use lib.ListN.{length}
use Rattle.protocol.specs.Chain.{genesis}
use Rattle.protocol.specs.Words.{from_halves}
use Rattle.protocol.specs.Store.{in_view}
use Rattle.protocol.specs.Lent.{block_words, block_row}
use Rattle.rows.specs.Rows.{put_row}
use Rattle.changes.proofs.Zeros.{put_first}
use Rattle.changes.proofs.clear.Goals as goal

pub returns : goal.returns
unfolding from_halves
returns c =
    let a = c.args in (
      c.put.ensures
          ∙ ap (λ (w : List ℕ). put_row block_words w 0 (block_row (in_view genesis))) (c.fill.ensures.after (λ y e. e))
          ∙ put_first (length a.blocks.now),
      c.fill-2.ensures.after (λ y e. e),
    )
