-- An index serves other words with the same entries: coming into view changes none, so that the index of a table stays one.
-- Assumes nothing.
use Prim.Native.Nat.{ℕ, zero, suc, ◌<◌}
use mathlib.Core.List.{List, [], ◌∷◌}
use mathlib.Core.Path.{◌≡◌, refl, ap, sym, ◌∙◌}
use lib.ListN.{get_or}
use Rattle.protocol.specs.Store.{Marked, entries}
use Rattle.protocol.specs.Lent.{Make, rows_of, make_block}
use Rattle.rows.specs.Rows.{row_at}
use Rattle.rows.proofs.Rows.{get_d-rows_of}
use Rattle.search_tree.proofs.Tree.{index_same}
use Rattle.index.specs.Keys.{number_key}
use Rattle.index.specs.Links.{BlockIndex}

module _ {A : Type 0} where
  get_d-entries : (ms : List (Marked A)) (j : ℕ) (d : Marked A) → get_or (entries ms) j d.entry ≡ (get_or ms j d).entry
  unfolding entries
  get_d-entries [] j d = refl
  get_d-entries (m ∷ ms) zero d = refl
  get_d-entries (m ∷ ms) (suc j) d = get_d-entries ms j d

  entry-same : (make : Make (Marked A)) (ws ws' : List ℕ) (n : ℕ) → entries (rows_of make ws n) ≡ entries (rows_of make ws' n) → (j : ℕ) → j < n
      → (row_at make ws j).entry ≡ (row_at make ws' j).entry
  entry-same make ws ws' n e j h =
      let d = row_at make ws j in
      ap (λ m. m.entry) (sym (get_d-rows_of make ws n j d h)) ∙ sym (get_d-entries (rows_of make ws n) j d) ∙ ap (λ (l : List A). get_or l j d.entry) e
      ∙ get_d-entries (rows_of make ws' n) j d ∙ ap (λ m. m.entry) (get_d-rows_of make ws' n j d h)

pub blocks-indexed : (ws ws' : List ℕ) (n : ℕ) {ls : List ℕ} → entries (rows_of make_block ws n) ≡ entries (rows_of make_block ws' n)
    → BlockIndex ws n ls → BlockIndex ws' n ls
blocks-indexed ws ws' n e x = index_same (λ j h. ap (λ b. number_key b.number) (entry-same make_block ws ws' n e j h)) x
