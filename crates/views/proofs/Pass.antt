-- The words of the table along the pass from the last row to the first. Assumes nothing.
use Prim.Native.Nat.{ℕ, zero, suc, ◌+◌, ◌≤◌, ◌<◌}
use mathlib.Core.Bool.{true, false}
use mathlib.Core.List.{List}
use mathlib.Core.Path.{◌≡◌, refl, ap, sym, ◌∙◌}
use native.Mathlib.Omega.{arith}
use lib.ListN.{length}
use Rattle.protocol.specs.Entry.{Block}
use Rattle.protocol.specs.Store.{Marked, entries, view_of, view}
use Rattle.protocol.specs.Lent.{BlocksFit, rows_of, stored, make_block, block_row, marks_sound}
use Rattle.protocol.proofs.Store.Tables.{Closed}
use Rattle.protocol.proofs.Store.Views.{length-viewing, entries-viewing}
use Rattle.protocol.proofs.Lent.Rows.{block-codec, rows-stored, marks-stored, stored_same, length-rows_of}
use Rattle.rows.specs.Rows.{row_at}
use Rattle.rows.proofs.Rows.{drop-read, drop-end}
use Rattle.rows.proofs.Stored.{stored-longer}
use Rattle.views.specs.Ancestors.{Ordered, view_ancestors}
use Rattle.views.proofs.Order.{numbered, ordered-viewing}
use Rattle.views.proofs.Ancestors.{ClosedFrom, closed-end, closed-waits, closed-viewed-at-once, closed_all, closed_same, parent-same, row-viewed, row_number}

-- the words before row i is looked at, from words ws₀
pub record Pass (ws₀ : List ℕ) (n : ℕ) (ws : List ℕ) (i : ℕ) : Type 0 where
  pub holds : ws ≡ stored block_row (rows_of make_block ws n) ws₀
  pub marks : marks_sound make_block ws n ≡ true
  pub entered : entries (rows_of make_block ws₀ n) ≡ entries (rows_of make_block ws n)
  pub ordered : Ordered (rows_of make_block ws n)
  pub same : view_ancestors (rows_of make_block ws n) ≡ view_ancestors (rows_of make_block ws₀ n)
  pub closed : ClosedFrom i (rows_of make_block ws n)

module _ (ws₀ : List ℕ) (n : ℕ) where
  pub pass-begin : BlocksFit n ws₀ → marks_sound make_block ws₀ n ≡ true → Ordered (rows_of make_block ws₀ n) → Pass ws₀ n ws₀ n
  pass-begin h k O = record {
    holds = sym (stored_same block-codec ws₀ n k h);
    marks = k;
    entered = refl;
    ordered = O;
    same = refl;
    closed = closed-end (rows_of make_block ws₀ n) n (drop-end make_block ws₀ n n (omega arith));
  }

  -- row j, the one before i, was read as m
  module _ (ws : List ℕ) (i j : ℕ) {m : Marked Block} (P : Pass ws₀ n ws i) (e : i ≡ j + 1) (h : j < n) (r : m ≡ row_at make_block ws j) where
    later : ClosedFrom (j + 1) (rows_of make_block ws n)
    later = rw e at P.closed

    pub pass-waits : m.viewed ≡ false → Pass ws₀ n ws j
    pass-waits s = record {
      holds = P.holds;
      marks = P.marks;
      entered = P.entered;
      ordered = P.ordered;
      same = P.same;
      closed = closed-waits (rows_of make_block ws n) j m (drop-read make_block ws n j h r) later s;
    }

    pub pass-shows : {ws' : List ℕ} → m.viewed ≡ true → 0 < j → ws' ≡ stored block_row (view (numbered m.entry.parent) (rows_of make_block ws n)) ws → Pass ws₀ n ws' j
    pass-shows {ws'} s z q =
        let R = rows_of make_block ws n in
        let N = view (numbered m.entry.parent) R in
        let d = drop-read make_block ws n j h r in
        let l : length N ≡ n = length-viewing (numbered m.entry.parent) R ∙ length-rows_of make_block ws n in
        let rows : rows_of make_block ws' n ≡ N = ap (λ (w : List ℕ). rows_of make_block w n) q ∙ rows-stored block-codec N ws n l in
        record {
          holds = q ∙ ap (λ (w : List ℕ). stored block_row N w) P.holds
              ∙ stored-longer block-codec N R ws₀ (omega (arith, l, length-rows_of make_block ws n))
              ∙ ap (λ (o : List (Marked Block)). stored block_row o ws₀) (sym rows);
          marks = rw q (marks-stored block-codec N ws n l);
          entered = P.entered ∙ sym (ap entries rows ∙ entries-viewing (numbered m.entry.parent) R);
          ordered = rw rows (ordered-viewing R P.ordered (numbered m.entry.parent));
          same = ap view_ancestors rows ∙ parent-same R P.ordered m.entry (row-viewed R j m d later P.ordered z s) (row_number R j m d later P.ordered z s) ∙ P.same;
          closed = rw rows (closed-viewed-at-once R j m d later P.ordered z s);
        }

  pub pass-end : (ws : List ℕ) (i : ℕ) → i ≤ 1 → Pass ws₀ n ws i → ws ≡ stored block_row (view_ancestors (rows_of make_block ws₀ n)) ws₀
  pass-end ws i h P = P.holds ∙ ap (λ (l : List (Marked Block)). stored block_row l ws₀) (sym (closed_same (rows_of make_block ws n) P.ordered (whole i h P.closed)) ∙ P.same)
    where
      whole : (k : ℕ) → k ≤ 1 → ClosedFrom k (rows_of make_block ws n) → Closed (view_of (rows_of make_block ws n))
      whole zero l C = C
      whole (suc zero) l C = closed_all (rows_of make_block ws n) P.ordered C
      whole (suc (suc k)) l C = absurd (omega arith)
