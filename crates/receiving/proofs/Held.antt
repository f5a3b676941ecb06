-- What the words of a table are after rows were stored, and after others were stored over them. Assumes nothing.
use Prim.Native.Nat.{ℕ, ◌≤◌}
use mathlib.Core.Bool.{Bool, true}
use mathlib.Core.List.{List}
use mathlib.Core.Path.{◌≡◌, ap, sym, ◌∙◌}
use native.Mathlib.Omega.{arith}
use lib.ListN.{length}
use Rattle.protocol.specs.Store.{Marked, entries, view}
use Rattle.protocol.specs.Lent.{Make, rows_of, stored, marks_sound}
use Rattle.protocol.proofs.Store.New.{Adding}
use Rattle.protocol.proofs.Store.Added.{length-grows}
use Rattle.protocol.proofs.Store.Views.{length-entries, length-viewing}
use Rattle.protocol.proofs.Lent.Rows.{Codec, length-rows_of, rows-stored, marks-stored}
use Rattle.rows.proofs.Stored.{stored-longer}
use Rattle.storing.specs.Grown.{grown, Holds}
use Rattle.storing.proofs.Adding.{length-grown}

module _ {A : Type 0} {make : Make (Marked A)} {row : Marked A → List ℕ} (codec : Codec (Marked A) make row) where
  module _ (rs : List (Marked A)) (ws₀ : List ℕ) {ws : List ℕ} {u : ℕ} (h : Holds (Marked A) row rs ws₀ ws u) where
    pub rows-held : rows_of make ws u ≡ rs
    rows-held = ap (λ (w : List ℕ). rows_of make w u) h.words ∙ rows-stored codec rs ws₀ u (sym h.used)

    pub marks-held : marks_sound make ws u ≡ true
    marks-held = ap (λ (w : List ℕ). marks_sound make w u) h.words ∙ marks-stored codec rs ws₀ u (sym h.used)

    -- no fewer rows over them
    pub over-held : (xs : List (Marked A)) {ws' : List ℕ} → length rs ≤ length xs → ws' ≡ stored row xs ws → ws' ≡ stored row xs ws₀
    over-held xs l e = e ∙ ap (stored row xs) h.words ∙ stored-longer codec xs rs ws₀ l

    -- some of them come into view
    pub viewed-held : (q : A → Bool) {ws' : List ℕ} → ws' ≡ stored row (view q (rows_of make ws u)) ws → Holds (Marked A) row (view q rs) ws₀ ws' u
    viewed-held q e = record {
      words = over-held (view q rs) (omega (arith, length-viewing q rs)) (e ∙ ap (λ (r : List (Marked A)). stored row (view q r) ws) rows-held);
      used = h.used ∙ sym (length-viewing q rs);
    }

  -- rows that were there came into view
  pub viewing-held : (q : A → Bool) (ws₀ : List ℕ) (n : ℕ) {ws : List ℕ} → ws ≡ stored row (view q (rows_of make ws₀ n)) ws₀
      → Holds (Marked A) row (view q (rows_of make ws₀ n)) ws₀ ws n
  viewing-held q ws₀ n e = record { words = e; used = sym (length-viewing q (rows_of make ws₀ n) ∙ length-rows_of make ws₀ n) }

-- how many rows there are after entries xs were added
module _ {A : Type 0} (has : List A → A → Bool) (add : List A → List A → List A) (is : Adding has add) {make : Make (Marked A)} {row : Marked A → List ℕ}
    (codec : Codec (Marked A) make row) (ws₀ : List ℕ) (u₀ : ℕ) (xs : List A) {ws : List ℕ} {u : ℕ} (h : Holds (Marked A) row (grown add (rows_of make ws₀ u₀) xs) ws₀ ws u) where
  pub used-added : u ≡ length (add (entries (rows_of make ws₀ u₀)) xs)
  used-added = h.used ∙ length-grown has add is (rows_of make ws₀ u₀) xs

  pub used_grows : u₀ ≤ u
  used_grows =
      let R = rows_of make ws₀ u₀ in
      omega (arith, used-added, length-grows has add is (entries R) xs, length-entries R ∙ length-rows_of make ws₀ u₀)
