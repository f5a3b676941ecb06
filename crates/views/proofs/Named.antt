-- One turn of a pass that brings the rows that pass a test into view; once for blocks and votes. Assumes nothing.
use Prim.Native.Nat.{ℕ, ◌+◌, ◌*◌, ◌≤◌, ◌<◌}
use mathlib.Core.Bool.{Bool, true, false, ◌||◌, or-true, or-false}
use mathlib.Core.List.{List}
use mathlib.Core.Path.{◌≡◌, refl, ap, sym, ◌∙◌}
use native.Mathlib.Omega.{arith}
use lib.ListN.{length, take}
use lib.Seq.{length-take-le}
use Rattle.protocol.specs.Store.{Marked, in_view, view}
use Rattle.protocol.specs.Lent.{Make, rows_of, marks_sound}
use Rattle.protocol.proofs.Store.Views.{length-viewing}
use Rattle.protocol.proofs.Lent.Rows.{Codec, length-rows_of}
use Rattle.rows.specs.Rows.{row_at, put_row}
use Rattle.rows.proofs.Stored.{row-after}
use Rattle.changes.proofs.View.{viewed_to, viewing-begin, viewing-turn, viewing-skip, viewing-end}
use Rattle.views.specs.Named.{Agrees, ViewedAt}

module _ {A : Type 0} {make : Make (Marked A)} {row : Marked A → List ℕ} (codec : Codec (Marked A) make row) (ws₀ : List ℕ) (n : ℕ) (row_test : ℕ → Bool) where
  -- the first i rows were looked at
  abbrev pub NamedTo : ℕ → List ℕ → Type 0
  NamedTo i ws = (p : A → Bool) → Agrees A make ws₀ n row_test p → ws ≡ viewed_to codec p ws₀ n i

  pub named-begin : NamedTo 0 ws₀
  named-begin p f = viewing-begin codec p ws₀ n

  module _ (i : ℕ) {ws : List ℕ} (h : i < n) (e : NamedTo i ws) where
    -- row i, read as a, passes if its number does
    passes : (p : A → Bool) → Agrees A make ws₀ n row_test p → {a : Marked A} → a ≡ row_at make ws i → p a.entry ≡ row_test i
    passes p f {a} r =
        let R = rows_of make ws₀ n in
        let l : length (view p (take i R)) ≤ i = omega (arith, length-viewing p (take i R), length-take-le i R (omega (arith, length-rows_of make ws₀ n))) in
        ap (λ (m : Marked A). p m.entry) (r ∙ ap (λ (w : List ℕ). row_at make w i) (e p f) ∙ row-after codec (view p (take i R)) ws₀ i l) ∙ sym (f i h)

    pub named-turn : {a : Marked A} {ws' : List ℕ} → row_test i ≡ true → a ≡ row_at make ws i → ws' ≡ put_row make.words ws i (row (in_view a.entry)) → NamedTo (i + 1) ws'
    named-turn {a} t r q p f =
        viewing-turn codec p ws₀ n i h (e p f) r (sym (ap (λ (b : Bool). a.viewed || b) (passes p f r ∙ t) ∙ or-true a.viewed)) q

    pub named-skip : row_test i ≡ false → make.words * n ≤ length ws₀ → marks_sound make ws₀ n ≡ true → NamedTo (i + 1) ws
    named-skip t l m p f =
        let a = row_at make ws i in
        viewing-skip codec p ws₀ n i h (e p f) refl (sym (ap (λ (b : Bool). a.viewed || b) (passes p f refl ∙ t) ∙ or-false a.viewed)) l m refl

  pub named_end : (i : ℕ) {ws : List ℕ} → n ≤ i → NamedTo i ws → ViewedAt A make row ws₀ n row_test ws
  named_end i h e p f = viewing-end codec p ws₀ n i h (e p f)
