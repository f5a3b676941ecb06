-- An old stock comes back narrow, said of the code. Assumes nothing.
use mathlib.Core.Path.{refl, sym, ap, ◌∙◌}
use mathlib.Core.Bool.{false}
use native.Mathlib.Omega.{arith}
use Rattle.protocol.specs.declared.Width.TheVariants.{Narrow, Wide}
use Rattle.protocol.specs.Lent.{make_block, make_vote, places_of, node_of}
use Rattle.protocol.specs.RoundTrip.{OldStock}
use Rattle.protocol.proofs.Lent.Rows.{length-rows_of}
use Rattle.protocol.proofs.Exchange.OldStock.{old-stock-comes-back}
use Rattle.conformance.specs.CodeOldStock.{CodeOldStock}
use Rattle.conformance.proofs.Memory.{opened-done, wrote}
use Rattle.conformance.proofs.RoundTrip.{sender-healthy, out-done, taken, taken-called}

pub code-old-stock-comes-back : CodeOldStock
unfolding CodeOldStock OldStock node_of
code-old-stock-comes-back s m N old new n W s' before m' O same rb rv short y r R buffer room narrow own a b X Y =
    let C = taken-called s m Wide old new n W s' before m' O y r R in
    let back = old-stock-comes-back s (places_of m) (node_of m) N old n (out-done s m Wide old new n W) s' (places_of before) (node_of before)
    (opened-done s' before m' O) same (omega (arith, rb, length-rows_of make_block m.blocks m.blocks_used))
    (omega (arith, rv, length-rows_of make_vote m.votes m.votes_used)) short buffer room in
    let f = wrote s' (places_of before) (taken s m Wide old new n W s' before m' O).node y C.healthy (sym C.node) false Narrow buffer ∙ back.0 in
    let g = wrote s (places_of m) (node_of m) m (sender-healthy s m Wide old new n W) refl false Narrow buffer ∙ back.1 in (
      X.answer ∙ ap (λ q. q.answer) f,
      X.buffer ∙ ap (λ q. q.buffer) f,
      Y.answer ∙ ap (λ q. q.answer) g,
      Y.buffer ∙ ap (λ q. q.buffer) g,
    )
