-- A pass over a table that brings rows into view: one turn, and the end. Assumes nothing.
use Prim.Native.Nat.{ℕ, ◌+◌, ◌*◌, ◌≤◌, ◌<◌}
use mathlib.Core.Bool.{Bool, true, ◌||◌}
use mathlib.Core.List.{List, [], ◌∷◌, ◌++◌}
use mathlib.Core.Path.{◌≡◌, refl, ap, sym, ◌∙◌}
use native.Mathlib.Nat.{le_of_eq, mul-suc, mul-le-mul_left}
use native.Mathlib.Omega.{arith}
use lib.ListN.{length, take}
use lib.Seq.{take_all, length-take-le}
use Rattle.protocol.specs.Store.{Marked, view}
use Rattle.protocol.specs.Lent.{Make, rows_of, words_of, stored, marks_sound}
use Rattle.protocol.proofs.Store.Growth.{viewing-append}
use Rattle.protocol.proofs.Store.Views.{length-viewing}
use Rattle.protocol.proofs.Lent.Rows.{Codec, length-rows_of}
use Rattle.rows.specs.Rows.{row_at, put_row}
use Rattle.rows.proofs.Rows.{take-rows_of}
use Rattle.rows.proofs.Stored.{put-end, row-after, stored-read, mark-row}

module _ {A : Type 0} {make : Make (Marked A)} {row : Marked A → List ℕ} (codec : Codec (Marked A) make row) (p : A → Bool) (ws₀ : List ℕ) (n : ℕ) where
  abbrev pub viewed_to : ℕ → List ℕ
  viewed_to i = stored row (view p (take i (rows_of make ws₀ n))) ws₀

  pub viewing-begin : ws₀ ≡ viewed_to 0
  unfolding stored view words_of
  viewing-begin = refl

  -- row i was read as a from words that hold the first i rows in view
  module _ (i : ℕ) {ws : List ℕ} {a : Marked A} {b : Bool} (h : i < n) (e : ws ≡ viewed_to i) (r : a ≡ row_at make ws i) (q : b ≡ (a.viewed || p a.entry)) where
    R : List (Marked A)
    R = rows_of make ws₀ n

    len : length (view p (take i R)) ≡ i
    unfolding R
    len = length-viewing p (take i R) ∙ length-take-le i R (omega (arith, length-rows_of make ws₀ n))

    was : a ≡ row_at make ws₀ i
    unfolding R
    was = r ∙ ap (λ (w : List ℕ). row_at make w i) e ∙ row-after codec (view p (take i R)) ws₀ i (le_of_eq len)

    more : view p (take (i + 1) R) ≡ view p (take i R) ++ (record { entry = a.entry; viewed = b } ∷ [])
    unfolding view R
    more =
        ap (view p) (take-rows_of make ws₀ n i h ∙ ap (λ (x : Marked A). take i R ++ (x ∷ [])) (sym was)) ∙ viewing-append p (take i R) (a ∷ [])
        ∙ ap (λ (c : Bool). view p (take i R) ++ (record { entry = a.entry; viewed = c } ∷ [])) (sym q)

    -- it is written
    pub viewing-turn : {ws' : List ℕ} → ws' ≡ put_row make.words ws i (row (record { entry = a.entry; viewed = b })) → ws' ≡ viewed_to (i + 1)
    unfolding R
    viewing-turn f =
        f ∙ ap (λ (w : List ℕ). put_row make.words w i (row (record { entry = a.entry; viewed = b }))) e
        ∙ put-end codec (view p (take i R)) ws₀ (record { entry = a.entry; viewed = b }) i len
        ∙ ap (λ (l : List (Marked A)). stored row l ws₀) (sym more)

    -- it is left as it is
    pub viewing-skip : make.words * n ≤ length ws₀ → marks_sound make ws₀ n ≡ true → b ≡ a.viewed → ws ≡ viewed_to (i + 1)
    unfolding R
    viewing-skip l m s =
        e ∙ sym (stored-read codec (view p (take i R)) ws₀ i len (omega (arith, mul-suc make.words i, mul-le-mul_left make.words h)) (mark-row make ws₀ n i m h))
        ∙ ap (λ (x : Marked A). stored row (view p (take i R) ++ (x ∷ [])) ws₀) (sym was ∙ (λ k. record { entry = a.entry; viewed = sym s k }))
        ∙ ap (λ (o : List (Marked A)). stored row o ws₀) (sym more)

  pub viewing-end : (i : ℕ) {ws : List ℕ} → n ≤ i → ws ≡ viewed_to i → ws ≡ stored row (view p (rows_of make ws₀ n)) ws₀
  viewing-end i h e =
      let l : length (rows_of make ws₀ n) ≤ i = omega (arith, length-rows_of make ws₀ n) in
      e ∙ ap (λ (l : List (Marked A)). stored row (view p l) ws₀) (take_all i (rows_of make ws₀ n) l)
