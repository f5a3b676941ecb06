-- `parent_rows` meets its contract. Assumes nothing.
use native.Mathlib.Omega.{arith}
use mathlib.Core.Path.{ap, ◌∙◌}
use Rattle.protocol.specs.Words.{value}
use Rattle.search_tree.proofs.Tree.{index-free}
use Rattle.subtree_voters.specs.BlockRows.{row_in}
use Rattle.subtree_voters.proofs.Filled.{filled_none, filled_more}
use Rattle.subtree_voters.proofs.BlockRows.{link-low}
use Rattle.subtree_voters.proofs.parent_rows.Goals as goal

pub loop-i-init : goal.loop-i-init
loop-i-init c = record { index = index-free _ c.requires.2 (omega (arith, c.requires.1.1)); parents = filled_none _ _ }

pub put_link-requires : goal.put_link-requires
put_link-requires c =
    let p = rw (c.first.ensures.words, c.first.ensures.used) at c.row_in-p.ensures in
    (omega (arith, c.loop-i.auto.parents, c.requires.3), omega (arith, p, link-low c.args.blocks.words.now c.loop-i.i (value c.row-row.result.entry.parent)))

pub loop-i-preserved : goal.loop-i-preserved
loop-i-preserved c =
    let p = rw (c.first.ensures.words, c.first.ensures.used) at c.row_in-p.ensures in
    record {
      index = c.add_block.ensures;
      parents = filled_more _ c.loop-i.i c.loop-i.invariant.parents c.put_link.ensures
          (p ∙ ap (λ o. row_in c.args.blocks.words.now c.loop-i.i o.entry.parent) c.row-row.ensures) (omega (arith, c.loop-i.auto.parents, c.requires.3));
    }
