-- The deep block, one step of the way down at a time. Assumes nothing.
use Prim.Native.Nat.{ℕ, ◌+◌, ◌-◌, ◌≤◌, ◌<◌}
use mathlib.Core.Bool.{true, false}
use mathlib.Core.List.{List}
use mathlib.Core.Path.{◌≡◌, refl, ap, sym, ◌∙◌}
use native.Mathlib.Omega.{arith}
use Rattle.protocol.specs.Entry.{Block}
use Rattle.protocol.specs.Confirm.{deep_from, deep_block}
use Rattle.protocol.specs.Store.{Marked, view_of}
use Rattle.protocol.specs.Lent.{rows_of, make_block, make_vote}
use Rattle.protocol.specs.Walk.{walk, weight_at}
use Rattle.protocol.proofs.Chain.Relations.{In}
use Rattle.protocol.proofs.Confirm.Deep.{late-number, deep-here, deep-next}
use Rattle.rows.specs.Rows.{row_at}
use Rattle.subtree_voters.specs.BlockRows.{block_at, blocks_of, parent_row}
use Rattle.vote_filters.specs.Latest.{selected, votes_of}
use Rattle.fork_choice.proofs.SoundTables.{head-number}
use Rattle.fork_choice.proofs.Held.{Held, is_in, lists, parent_is, parent_in, row-pos}

-- from row i the way down ends where it ends from `x`
pub record Down (ws : List ℕ) (n m x i : ℕ) : Type 0 where
  pub inside : i < n
  pub viewed : is_in false ws i ≡ true
  pub is : deep_from (blocks_of false ws n) m x ≡ deep_from (blocks_of false ws n) m (block_at ws i).number

module _ {ws : List ℕ} {n : ℕ} (H : Held false ws n) (m : ℕ) {x i : ℕ} (D : Down ws n m x i) where
  here_in : In (block_at ws i) (blocks_of false ws n)
  here_in = lists false ws n i D.inside D.viewed

  pub down-end : (r : Marked Block) → r ≡ row_at make_block ws i → r.entry.slot ≤ m → r.entry.number ≡ deep_from (blocks_of false ws n) m x
  down-end r e l =
      ap (λ o. o.entry.number) e
      ∙ sym (D.is ∙ deep-here H.sound m (block_at ws i) here_in (rw (ap (λ o. o.entry.slot) e) at l))

  pub down_pos : (r : Marked Block) → r ≡ row_at make_block ws i → m < r.entry.slot → 0 < i
  down_pos r e l = row-pos H i (late-number H.sound m (block_at ws i) here_in (omega (arith, ap (λ o. o.entry.slot) e)))

  pub down-on : (r : Marked Block) (p : ℕ) → r ≡ row_at make_block ws i → m < r.entry.slot → p ≡ parent_row ws i → (p < i) × Down ws n m x p
  down-on r p e l a =
      let z = down_pos r e l in
      let k = parent_is H i z D.inside in
      let s = parent_in H i z D.inside D.viewed in
      let h : parent_row ws i < n = omega (arith, k.0, D.inside) in
      rw a (
        k.0,
        record {
          inside = h;
          viewed = s;
          is = D.is ∙ deep-next H.sound m (block_at ws i) here_in (omega (arith, ap (λ o. o.entry.slot) e))
              ∙ ap (deep_from (blocks_of false ws n) m) (sym k.1);
        },
      )

-- as the definition has it
pub deep-number : (bw : List ℕ) (bu : ℕ) (vw : List ℕ) (vu n E K t : ℕ) {r m x : ℕ} → r ≡ deep_from (blocks_of false bw bu) m x → m ≡ t - K
    → x ≡ walk (weight_at (blocks_of false bw bu) (votes_of false vw vu) n E t) (blocks_of false bw bu) (t + 1)
    → r ≡ deep_block (view_of (rows_of make_block bw bu)) (view_of (rows_of make_vote vw vu)) n E K t
unfolding deep_block
deep-number bw bu vw vu n E K t {r} {m} {x} d e h =
    d ∙ ap (λ (y : ℕ). deep_from (blocks_of false bw bu) y x) e ∙ ap (deep_from (blocks_of false bw bu) (t - K)) (head-number bw bu vw vu n E t h)
    ∙ unfold selected in refl
