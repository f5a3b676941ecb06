-- The last block in view, after one row more. Assumes nothing.
use Prim.Native.Nat.{ℕ, ◌+◌}
use mathlib.Core.Path.{◌≡◌, sym, ap, ◌∙◌}
use mathlib.Core.Bool.{Bool, true, false, cond}
use mathlib.Core.List.{List, [], ◌∷◌, ◌++◌, append-nil}
use Rattle.protocol.specs.Entry.{Block}
use Rattle.protocol.specs.Store.{Marked, view_of}
use Rattle.protocol.specs.Lent.{rows_of, make_block}
use Rattle.protocol.specs.Calls.Write.{last_block}
use Rattle.protocol.proofs.Store.Views.{view-append}
use Rattle.protocol.proofs.Calls.Write.{last_end}
use Rattle.rows.specs.Rows.{row_at}
use Rattle.rows.proofs.Rows.{rows_more}

last_more : (xs : List Block) (b : Block) (viewed : Bool) → last_block (xs ++ cond viewed (b ∷ []) []) ≡ cond viewed b (last_block xs)
last_more xs b true = last_end xs b
last_more xs b false = ap last_block (append-nil xs)

-- where row i was read as m
pub last_turn : (ws : List ℕ) (i : ℕ) {m : Marked Block} → m ≡ row_at make_block ws i
    → last_block (view_of (rows_of make_block ws (i + 1))) ≡ cond m.viewed m.entry (last_block (view_of (rows_of make_block ws i)))
unfolding view_of
last_turn ws i {m} e =
    let r : rows_of make_block ws (i + 1) ≡ rows_of make_block ws i ++ (m ∷ []) = rows_more make_block ws i ∙ ap (λ (a : Marked Block). rows_of make_block ws i ++ (a ∷ [])) (sym e) in
    ap (λ ms. last_block (view_of ms)) r ∙ ap last_block (view-append (rows_of make_block ws i) (m ∷ []))
    ∙ last_more (view_of (rows_of make_block ws i)) m.entry m.viewed
