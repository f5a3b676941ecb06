-- The block with a number comes into view at the row that was found. Assumes nothing.
use Prim.Native.Nat.{ℕ, suc, ◌<◌}
use mathlib.Core.Bool.{true}
use mathlib.Core.List.{List}
use mathlib.Core.Path.{◌≡◌, sym, ◌∙◌}
use borrow.Author.Tests.{eqb-true, eq-eqb}
use lib.Dec.{eqb}
use Rattle.protocol.specs.Store.{in_view, view}
use Rattle.protocol.specs.Lent.{BlocksFit, block_words, rows_of, stored, make_block, block_row, marks_sound}
use Rattle.protocol.proofs.Lent.Rows.{block-codec}
use Rattle.rows.specs.Rows.{row_at, put_row}
use Rattle.index.specs.Links.{numbers_differ, link_to_number}
use Rattle.views.specs.Ancestors.{Ordered}
use Rattle.views.proofs.Order.{numbered, apart-differ, ordered-apart}
use Rattle.views.proofs.One.{one_below, one_none, one_at}

module _ (ws : List ℕ) (n x : ℕ) where
  pub block-below : {k : ℕ} → suc k ≡ link_to_number (rows_of make_block ws n) x → k < n
  unfolding link_to_number
  block-below = one_below (numbered x) block-codec ws n

  module _ (h : BlocksFit n ws) (s : marks_sound make_block ws n ≡ true) where
    pub block_none : 0 ≡ link_to_number (rows_of make_block ws n) x → ws ≡ stored block_row (view (numbered x) (rows_of make_block ws n)) ws
    unfolding link_to_number
    block_none = one_none (numbered x) block-codec ws n h s

    pub block-at : {k : ℕ} {ws' : List ℕ} → Ordered (rows_of make_block ws n) → suc k ≡ link_to_number (rows_of make_block ws n) x
        → ws' ≡ put_row block_words ws k (block_row (in_view (row_at make_block ws k).entry)) → ws' ≡ stored block_row (view (numbered x) (rows_of make_block ws n)) ws
    unfolding link_to_number numbers_differ
    block-at O =
        one_at (numbered x) block-codec ws n h s (λ a b. eqb a.entry.number b.entry.number)
        (λ a b p q. eq-eqb a.entry.number b.entry.number (eqb-true a.entry.number x p ∙ sym (eqb-true b.entry.number x q)))
        (apart-differ (rows_of make_block ws n) (ordered-apart (rows_of make_block ws n) O))
