-- A parent, or the block of a vote, by the row that the index of all blocks gives. Assumes nothing.
use Prim.Native.Nat.{ℕ, suc, ◌≤◌, ◌<◌}
use mathlib.Core.Bool.{Bool, true, false, not, ◌&&◌, ◌||◌, cond}
use mathlib.Core.List.{List}
use mathlib.Core.Path.{◌≡◌, refl, ap, sym, ◌∙◌}
use native.Mathlib.Omega.{arith}
use borrow.Author.Tests.{le-leb, lt-leb}
use lib.Dec.{leb, ltb}
use Rattle.protocol.specs.Entry.{Block, Vote}
use Rattle.protocol.specs.Chain.{find, found_with, known}
use Rattle.protocol.specs.Store.{Marked, entries, view_of}
use Rattle.protocol.specs.Lent.{rows_of, make_block}
use Rattle.rows.specs.Rows.{row_at}
use Rattle.rows.proofs.Find.{row_below, found_at, found_none}
use Rattle.index.specs.Links.{numbers_differ, link_to_number}
use Rattle.index.proofs.Tables.{link-before, differ-before}
use Rattle.index.proofs.Found.{at-link, missing-link, view-at}
use Rattle.soundness.specs.Parts.{parent_sound, voted_sound}

-- a test of the block with number x, in view if the entry that asks is
abbrev tested : (Block → Bool) → Bool → List (Marked Block) → ℕ → Bool
tested p viewed bs x = found_with p (find (entries bs) x) && (not viewed || known (view_of bs) x)

module _ (p : Block → Bool) (viewed : Bool) (ws : List ℕ) (n x : ℕ) where
  pub tested-none : 0 ≡ link_to_number (rows_of make_block ws n) x → tested p viewed (rows_of make_block ws n) x ≡ false
  tested-none e = rw (found_none p ws n x (missing-link (rows_of make_block ws n) x (sym e)))

  -- the row there was read as b
  pub tested_at : {j : ℕ} {b : Marked Block} → numbers_differ (rows_of make_block ws n) ≡ true → suc j ≡ link_to_number (rows_of make_block ws n) x
      → b ≡ row_at make_block ws j → tested p viewed (rows_of make_block ws n) x ≡ (p b.entry && (not viewed || b.viewed))
  tested_at {j} d e r = rw (found_at p ws n x (at-link (rows_of make_block ws n) x j (sym e)) r, view-at ws n x j d (sym e) r)

module _ (ws : List ℕ) (n : ℕ) where
  -- a row that is found is one of all
  pub row-within : (x j : ℕ) → suc j ≡ link_to_number (rows_of make_block ws n) x → j < n
  row-within x j e = row_below ws n x j (at-link (rows_of make_block ws n) x j (sym e))

  module _ (m : Marked Vote) where
    pub voted-none : 0 ≡ link_to_number (rows_of make_block ws n) m.entry.number → voted_sound (rows_of make_block ws n) m ≡ false
    unfolding voted_sound
    voted-none e = tested-none (λ b. leb b.slot m.entry.slot) m.viewed ws n m.entry.number e

    pub voted_at : {j : ℕ} {b : Marked Block} → numbers_differ (rows_of make_block ws n) ≡ true → suc j ≡ link_to_number (rows_of make_block ws n) m.entry.number
        → b ≡ row_at make_block ws j → voted_sound (rows_of make_block ws n) m ≡ (leb b.entry.slot m.entry.slot && (not m.viewed || b.viewed))
    unfolding voted_sound
    voted_at d e r = tested_at (λ b. leb b.slot m.entry.slot) m.viewed ws n m.entry.number d e r

  -- a parent is sought among the rows before row i, and its row is found among all
  module _ (i : ℕ) (m : Marked Block) (h : i ≤ n) where
    pub parent-none : 0 ≡ link_to_number (rows_of make_block ws n) m.entry.parent → parent_sound (rows_of make_block ws i) m ≡ false
    unfolding parent_sound
    parent-none e =
        tested-none (λ b. ltb b.slot m.entry.slot) m.viewed ws i m.entry.parent
        (sym (link-before ws n i m.entry.parent h ∙ ap (λ (k : ℕ). cond (leb k i) k 0) (sym e) ∙ none (leb 0 i)))
      where
        none : (b : Bool) → ◌≡◌ {A = ℕ} (cond b 0 0) 0
        none true = refl
        none false = refl

    pub parent-late : (j : ℕ) → suc j ≡ link_to_number (rows_of make_block ws n) m.entry.parent → i ≤ j → parent_sound (rows_of make_block ws i) m ≡ false
    unfolding parent_sound
    parent-late j e l =
        tested-none (λ b. ltb b.slot m.entry.slot) m.viewed ws i m.entry.parent
        (sym (link-before ws n i m.entry.parent h ∙ rw (← e) (rw (lt-leb (suc j) i (omega arith)))))

    pub parent_at : (j : ℕ) {b : Marked Block} → numbers_differ (rows_of make_block ws n) ≡ true → suc j ≡ link_to_number (rows_of make_block ws n) m.entry.parent → j < i
        → b ≡ row_at make_block ws j → parent_sound (rows_of make_block ws i) m ≡ (ltb b.entry.slot m.entry.slot && (not m.viewed || b.viewed))
    unfolding parent_sound
    parent_at j d e l r =
        tested_at (λ b. ltb b.slot m.entry.slot) m.viewed ws i m.entry.parent (differ-before ws n i h d)
        (sym (link-before ws n i m.entry.parent h ∙ rw (← e) (rw (le-leb (suc j) i (omega arith))))) r
