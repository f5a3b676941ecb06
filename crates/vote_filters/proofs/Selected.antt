-- The store or the view of a table's first rows: one row more, and the rows of its entries. Assumes nothing.
use Prim.Native.Nat.{ℕ, zero, suc, ◌+◌, ◌<◌}
use mathlib.Core.Bool.{Bool, true, false, ◌||◌, cond, true≢false}
use mathlib.Core.List.Memᴰ
use mathlib.Core.List.{List, [], ◌∷◌, ◌++◌, append-nil, Memᴰ}
use mathlib.Core.Logic.{◌⊎◌, inl, inr}
use mathlib.Core.Path.{◌≡◌, refl, ap, sym, ◌∙◌}
use native.Mathlib.Numerals.{add-one}
use native.Mathlib.Omega.{arith}
use lib.Dec.{eqb}
use borrow.Author.Tests.{eqb-true, eqb-false}
use Rattle.protocol.specs.Store.{Marked, entries, view_of}
use Rattle.protocol.specs.Lent.{Make, rows_of}
use Rattle.protocol.proofs.Store.Views.{entries-append, view-append}
use Rattle.rows.specs.Rows.{row_at}
use Rattle.rows.proofs.Rows.{rows_more}
use Rattle.vote_filters.specs.Latest.{selected}

module _ {A : Type 0} where
  -- one row more
  selected-end : (w : Bool) (ms : List (Marked A)) (m : Marked A)
      → selected w (ms ++ (m ∷ [])) ≡ cond (w || m.viewed) (selected w ms ++ (m.entry ∷ [])) (selected w ms)
  unfolding selected entries view_of
  selected-end true ms m = entries-append ms (m ∷ [])
  selected-end false ms m = view-append ms (m ∷ []) ∙ go m.viewed
    where
      go : (b : Bool) → view_of ms ++ cond b (m.entry ∷ []) [] ≡ cond b (view_of ms ++ (m.entry ∷ [])) (view_of ms)
      go true = refl
      go false = append-nil (view_of ms)

module _ {A : Type 0} (make : Make (Marked A)) (w : Bool) (ws : List ℕ) (i : ℕ) (m : Marked A) (read : m ≡ row_at make ws i) where
  selected-more : selected w (rows_of make ws (i + 1)) ≡ cond (w || m.viewed) (selected w (rows_of make ws i) ++ (m.entry ∷ [])) (selected w (rows_of make ws i))
  selected-more =
      ap (selected w) (rows_more make ws i ∙ ap (λ (a : Marked A). rows_of make ws i ++ (a ∷ [])) (sym read)) ∙ selected-end w (rows_of make ws i) m

  -- row i was read as m, and is selected, or is not
  pub selected-in : (w || m.viewed) ≡ true → selected w (rows_of make ws (i + 1)) ≡ selected w (rows_of make ws i) ++ (m.entry ∷ [])
  selected-in e = selected-more ∙ rw e

  pub selected-out : (w || m.viewed) ≡ false → selected w (rows_of make ws (i + 1)) ≡ selected w (rows_of make ws i)
  selected-out e = selected-more ∙ rw e

-- ---- the selected entries by their rows

module _ {A : Type 0} (make : Make (Marked A)) where
  abbrev is_in : Bool → List ℕ → ℕ → Bool
  is_in w ws i = w || (row_at make ws i).viewed

  more-in : (w : Bool) (ws : List ℕ) (k : ℕ) → is_in w ws k ≡ true → selected w (rows_of make ws (suc k)) ≡ selected w (rows_of make ws k) ++ ((row_at make ws k).entry ∷ [])
  more-in w ws k s = ap (λ (x : ℕ). selected w (rows_of make ws x)) (sym (add-one k)) ∙ selected-in make w ws k (row_at make ws k) refl s

  more-out : (w : Bool) (ws : List ℕ) (k : ℕ) → is_in w ws k ≡ false → selected w (rows_of make ws (suc k)) ≡ selected w (rows_of make ws k)
  more-out w ws k s = ap (λ (x : ℕ). selected w (rows_of make ws x)) (sym (add-one k)) ∙ selected-out make w ws k (row_at make ws k) refl s

  no_rows : (w : Bool) (ws : List ℕ) → selected w (rows_of make ws 0) ≡ []
  unfolding selected rows_of entries view_of
  no_rows true ws = refl
  no_rows false ws = refl

  abbrev Row : Bool → List ℕ → ℕ → A → Type 0
  Row w ws n c = (i : ℕ) × (i < n) × (is_in w ws i ≡ true) × (c ≡ (row_at make ws i).entry)

  -- a selected entry has a row
  pub row_of : (w : Bool) (ws : List ℕ) (n : ℕ) (c : A) → Memᴰ c (selected w (rows_of make ws n)) → (i : ℕ) × (i < n) × ((w || (row_at make ws i).viewed) ≡ true) × (c ≡ (row_at make ws i).entry)
  row_of w ws zero c m = absurd (Memᴰ.not-nil (rw (no_rows w ws) at m))
  row_of w ws (suc k) c m = go (is_in w ws k) refl (λ q. row_of w ws k c q)
    where
      wider : Row w ws k c → Row w ws (suc k) c
      wider (i, l, s, e) = (i, omega arith, s, e)

      go : (b : Bool) → is_in w ws k ≡ b → (Memᴰ c (selected w (rows_of make ws k)) → Row w ws k c) → Row w ws (suc k) c
      go true s rec = at (Memᴰ.append_cases (selected w (rows_of make ws k)) (rw (more-in w ws k s) at m))
        where
          at : Memᴰ c (selected w (rows_of make ws k)) ⊎ Memᴰ c ((row_at make ws k).entry ∷ []) → Row w ws (suc k) c
          at (inl q) = wider (rec q)
          at (inr q) = (k, omega arith, s, Memᴰ.eq_of_singleton q)
      go false s rec = wider (rec (rw (more-out w ws k s) at m))

  -- a selected row has its entry
  pub entry_in : (w : Bool) (ws : List ℕ) (n i : ℕ) → i < n → (w || (row_at make ws i).viewed) ≡ true → Memᴰ (row_at make ws i).entry (selected w (rows_of make ws n))
  entry_in w ws zero i l s = absurd (omega arith)
  entry_in w ws (suc k) i l s = go (is_in w ws k) refl (eqb i k) refl (λ h. entry_in w ws k i h s)
    where
      go : (b : Bool) → is_in w ws k ≡ b → (c : Bool) → eqb i k ≡ c → (i < k → Memᴰ (row_at make ws i).entry (selected w (rows_of make ws k)))
          → Memᴰ (row_at make ws i).entry (selected w (rows_of make ws (suc k)))
      go true q true e rec = rw (more-in w ws k q) (Memᴰ.append_right (selected w (rows_of make ws k)) (Memᴰ.head (ap (λ (x : ℕ). (row_at make ws x).entry) (eqb-true i k e))))
      go true q false e rec =
          let ne : i ≡ k → ⊥ = eqb-false i k e in
          rw (more-in w ws k q) (Memᴰ.append_left ((row_at make ws k).entry ∷ []) (rec (omega arith)))
      go false q true e rec = absurd (true≢false (sym s ∙ ap (is_in w ws) (eqb-true i k e) ∙ q))
      go false q false e rec =
          let ne : i ≡ k → ⊥ = eqb-false i k e in
          rw (more-out w ws k q) (rec (omega arith))
