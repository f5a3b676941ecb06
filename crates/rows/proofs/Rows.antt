-- Laws of decoded rows, once for every table: row i, a front of them, and one turn of a loop over them.
-- Assumes nothing.
use Prim.Native.Nat.{ℕ, zero, suc, ◌+◌, ◌*◌, ◌≤◌, ◌<◌}
use mathlib.Core.Bool.{Bool, true, false}
use mathlib.Core.List.{List, [], ◌∷◌, ◌++◌}
use mathlib.Core.Path.{◌≡◌, refl, ap, sym, ◌∙◌}
use native.Mathlib.Nat.{mul-zero, mul-suc}
use native.Mathlib.Numerals.{add-one}
use native.Mathlib.Omega.{arith}
use lib.ListN.{length, get_or, take, drop, drop_of_length-le}
use lib.Seq.{drop-drop, drop-cons, take-suc}
use Rattle.protocol.specs.Lists.{any_pass, all_pass}
use Rattle.protocol.specs.Lent.{Make, rows_of}
use Rattle.protocol.proofs.Lent.Rows.{length-rows_of}
use Rattle.rows.specs.Rows.{row_at}

module _ {A : Type 0} (make : Make A) where
  -- ---- the rows

  pub get_d-rows_of : (ws : List ℕ) (n i : ℕ) (d : A) → i < n → get_or (rows_of make ws n) i d ≡ row_at make ws i
  unfolding rows_of
  get_d-rows_of ws zero i d h = absurd (omega arith)
  get_d-rows_of ws (suc n) zero d h = ap (λ (k : ℕ). make.of (drop k ws)) (sym (mul-zero make.words))
  get_d-rows_of ws (suc n) (suc i) d h =
      let e : make.words + make.words * i ≡ make.words * suc i = omega (arith, mul-suc make.words i) in
      get_d-rows_of (drop make.words ws) n i d (omega arith)
      ∙ ap make.of (drop-drop (make.words * i) make.words ws ∙ ap (λ (k : ℕ). drop k ws) e)

  -- the rows from i on
  pub drop-rows_of : (ws : List ℕ) (n i : ℕ) → i < n → drop i (rows_of make ws n) ≡ row_at make ws i ∷ drop (i + 1) (rows_of make ws n)
  drop-rows_of ws n i h =
      let l : i < length (rows_of make ws n) = omega (arith, length-rows_of make ws n) in
      rw (add-one i) (drop-cons (rows_of make ws n) i (make.of []) l ∙ rw (get_d-rows_of ws n i (make.of []) h))

  -- the same where row i was read as a
  pub drop-read : (ws : List ℕ) (n i : ℕ) {a : A} → i < n → a ≡ row_at make ws i → drop i (rows_of make ws n) ≡ a ∷ drop (i + 1) (rows_of make ws n)
  drop-read ws n i h e = rw e (drop-rows_of ws n i h)

  pub drop-end : (ws : List ℕ) (n i : ℕ) → n ≤ i → drop i (rows_of make ws n) ≡ []
  drop-end ws n i h =
      let l : length (rows_of make ws n) ≤ i = omega (arith, length-rows_of make ws n) in
      drop_of_length-le (rows_of make ws n) l

  -- the first i + 1 rows are the first i, and row i
  pub take-rows_of : (ws : List ℕ) (n i : ℕ) → i < n → take (i + 1) (rows_of make ws n) ≡ take i (rows_of make ws n) ++ (row_at make ws i ∷ [])
  take-rows_of ws n i h =
      let l : i < length (rows_of make ws n) = omega (arith, length-rows_of make ws n) in
      rw (add-one i) (take-suc (rows_of make ws n) i (make.of []) l ∙ rw (get_d-rows_of ws n i (make.of []) h))

  -- fewer rows are a front of more
  pub rows-front : (ws : List ℕ) (n i : ℕ) → i ≤ n → take i (rows_of make ws n) ≡ rows_of make ws i
  unfolding rows_of
  rows-front ws n zero h = refl
  rows-front ws zero (suc i) h = absurd (omega arith)
  rows-front ws (suc n) (suc i) h = ap (λ (r : List A). make.of ws ∷ r) (rows-front (drop make.words ws) n i (omega arith))

  -- one row more
  pub rows_more : (ws : List ℕ) (i : ℕ) → rows_of make ws (i + 1) ≡ rows_of make ws i ++ (row_at make ws i ∷ [])
  rows_more ws i =
      sym (rows-front ws (i + 1) (i + 1) (omega arith)) ∙ take-rows_of ws (i + 1) i (omega arith)
      ∙ ap (λ (r : List A). r ++ (row_at make ws i ∷ [])) (rows-front ws (i + 1) i (omega arith))

  -- ---- one turn of a loop over the rows, where row i was read as a; and its end

  -- a search
  module _ (p : A → Bool) (ws : List ℕ) (n i : ℕ) where
    pub any-hit : {a : A} → i < n → a ≡ row_at make ws i → p a ≡ true → any_pass p (drop i (rows_of make ws n)) ≡ true
    unfolding any_pass
    any-hit h r e = rw (drop-read ws n i h r, e)

    pub any-miss : {a : A} → i < n → a ≡ row_at make ws i → p a ≡ false → any_pass p (drop i (rows_of make ws n)) ≡ any_pass p (drop (i + 1) (rows_of make ws n))
    unfolding any_pass
    any-miss h r e = rw (drop-read ws n i h r, e)

    pub any-end : n ≤ i → any_pass p (drop i (rows_of make ws n)) ≡ false
    unfolding any_pass
    any-end h = rw (drop-end ws n i h)

  -- a test of every row
  module _ (p : A → Bool) (ws : List ℕ) (n i : ℕ) where
    pub all_pass_lem : {a : A} → i < n → a ≡ row_at make ws i → p a ≡ true → all_pass p (drop i (rows_of make ws n)) ≡ all_pass p (drop (i + 1) (rows_of make ws n))
    unfolding all_pass
    all_pass_lem h r e = rw (drop-read ws n i h r, e)

    pub all-fail : {a : A} → i < n → a ≡ row_at make ws i → p a ≡ false → all_pass p (drop i (rows_of make ws n)) ≡ false
    unfolding all_pass
    all-fail h r e = rw (drop-read ws n i h r, e)

    pub all_end : n ≤ i → all_pass p (drop i (rows_of make ws n)) ≡ true
    unfolding all_pass
    all_end h = rw (drop-end ws n i h)
