-- `admit_block` meets its contract. Assumes nothing.
use native.Mathlib.Omega.{arith}
use mathlib.Core.Bool.{Bool, true, false}
use mathlib.Core.Path.{◌≡◌, refl, ap, sym, ◌∙◌}
use Rattle.std.specs.Prelude.{Option, is_some, IfSome}
use Rattle.std.specs.Bool.{then_some}
use Rattle.protocol.specs.Entry.{Block}
use Rattle.index.specs.Keys.{number_key}
use Rattle.index.proofs.Firsts.{linked-within, first-most}
use Rattle.admission.proofs.Links.{no-row, block-key, link-told, block_new_lem}
use Rattle.admission.proofs.FirstBad.{block-told}
use Rattle.admission.proofs.Seen.{blocks-next}
use Rattle.admission.proofs.admit_block.Goals as goal

allowed-is : (b new : Bool) {r : Option Bool} → r ≡ then_some b new → is_some r ≡ b
allowed-is true new e = ap is_some e
allowed-is false new e = ap is_some e

new-is : (b : Bool) {new is : Bool} {r : Option Bool} → r ≡ then_some b new → new ≡ is → IfSome r (λ n. n ≡ is)
new-is true e q = rw e q
new-is false e q = rw e tt

pub found-parent-requires : goal.found-parent-requires
found-parent-requires c = omega (arith, linked-within _ c.known_block-parent_row.ensures)

pub found-earlier-requires : goal.found-earlier-requires
found-earlier-requires c = omega (arith, linked-within _ c.join_block-row.ensures.0)

pub note_first-requires : goal.note_first-requires
note_first-requires c = omega (arith, first-most _ c.join_block-row.ensures.0)

pub returns-clause-allowed : goal.returns-clause-allowed
returns-clause-allowed c =
    let i = c.args.i in
    allowed-is _ _ c.then_some.ensures
    ∙ block-told _ _ _ c.at-b.ensures (link-told _ _ _ i (omega arith) _ refl c.known_block-parent_row.ensures c.found-parent.ensures)
    (link-told _ _ _ i (omega arith) _ (block-key _ _ _ i ∙ ap (λ (x : Block). number_key x.number) (sym c.at-b.ensures)) c.join_block-row.ensures.0 c.found-earlier.ensures) c.block_allowed.ensures

pub returns-clause-new : goal.returns-clause-new
returns-clause-new c =
    new-is _ c.then_some.ensures (no-row _ _ c.is_none.ensures ∙ block_new_lem _ _ _ c.args.i (omega arith) _ c.join_block-row.ensures.0)

pub returns-clause-seen : goal.returns-clause-seen
returns-clause-seen c =
    blocks-next _ _ _ c.requires.differ c.args.i _ _ _ c.requires.within c.join_block-row.ensures.0 c.requires.places c.note_first.ensures c.requires.seen
