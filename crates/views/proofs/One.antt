-- One row comes into view: where no two rows pass the test, the row that does is written. Assumes nothing.
use Prim.Native.Nat.{ℕ, zero, suc, ◌+◌, ◌*◌, ◌≤◌, ◌<◌}
use mathlib.Core.Bool.{Bool, true, false, not, ◌||◌, cond, or-true, or-false}
use mathlib.Core.List.{List, [], ◌∷◌}
use mathlib.Core.Logic.{⊎_elim}
use mathlib.Core.Path.{◌≡◌, refl, ap, sym, ◌∙◌}
use native.Mathlib.Omega.{arith}
use borrow.Author.Tests.{not-true}
use lib.ListN.{length, get_or, set}
use Rattle.protocol.specs.Lists.{any_pass}
use Rattle.protocol.specs.Store.{Marked, in_view, view}
use Rattle.protocol.specs.Lent.{Make, rows_of, stored, marks_sound}
use Rattle.protocol.proofs.Basics.Tests.{and_left, and_right, clashing}
use Rattle.protocol.proofs.Basics.Members.{any-holds}
use Rattle.protocol.proofs.Lent.Rows.{Codec, stored_same, length-rows_of}
use Rattle.rows.specs.Rows.{row_at, put_row}
use Rattle.rows.proofs.Rows.{get_d-rows_of}
use Rattle.rows.proofs.Stored.{put-set}
use Rattle.search_tree.specs.Lists.{link_from, link_to, distinct}
use Rattle.search_tree.proofs.Lists.{link-past, link-within}
use Rattle.views.proofs.Views.{viewing-idle}

module _ {A : Type 0} (p : A → Bool) where
  abbrev passes : Marked A → Bool
  passes m = p m.entry

  -- no row passes
  none-viewing : (o : ℕ) (ms : List (Marked A)) → link_from passes o ms ≡ 0 → view p ms ≡ ms
  unfolding link_from view
  none-viewing o [] e = refl
  none-viewing o (m ∷ ms) e = go (p m.entry) (none-viewing (suc o) ms) e
    where
      go : (t : Bool) → (link_from passes (suc o) ms ≡ 0 → view p ms ≡ ms) → cond t (suc o) (link_from passes (suc o) ms) ≡ 0
          → record { entry = m.entry; viewed = m.viewed || t } ∷ view p ms ≡ m ∷ ms
      go true rec f = absurd (omega arith)
      go false rec f = rw (or-false m.viewed, rec f)

  -- no two rows are the same; any two that pass are
  module _ (same : Marked A → Marked A → Bool) (alike : (a b : Marked A) → p a.entry ≡ true → p b.entry ≡ true → same a b ≡ true) where
    -- no row after one that passes does
    rest-viewing : (m : Marked A) (ms : List (Marked A)) → p m.entry ≡ true → any_pass (same m) ms ≡ false → view p ms ≡ ms
    rest-viewing m ms q f = viewing-idle p ms (λ a n e. absurd (clashing (any-holds (same m) a n (alike m a q e)) f))

    set-viewing : (o : ℕ) (ms : List (Marked A)) (j : ℕ) (m : Marked A) → distinct same ms ≡ true → link_from passes o ms ≡ suc (o + j) → m ≡ get_or ms j m
        → set ms j (in_view m.entry) ≡ view p ms
    unfolding distinct link_from view
    set-viewing o [] j m d e g = absurd (omega arith)
    set-viewing o (a ∷ ms) zero m d e g = go (p a.entry) refl e
      where
        go : (t : Bool) → p a.entry ≡ t → cond t (suc o) (link_from passes (suc o) ms) ≡ suc (o + 0)
            → in_view m.entry ∷ ms ≡ record { entry = a.entry; viewed = a.viewed || t } ∷ view p ms
        go true q f = rw (or-true a.viewed, g, rest-viewing a ms q (not-true _ (and_left (not (any_pass (same a) ms)) _ d)))
        go false q f = absurd (⊎_elim (λ z. omega arith) (λ z. omega arith) (link-past passes ms (suc o)))
    set-viewing o (a ∷ ms) (suc j) m d e g = go (p a.entry) (λ q. set-viewing (suc o) ms j m (and_right (not (any_pass (same a) ms)) _ d) q g) e
      where
        go : (t : Bool) → (link_from passes (suc o) ms ≡ suc (suc o + j) → set ms j (in_view m.entry) ≡ view p ms)
            → cond t (suc o) (link_from passes (suc o) ms) ≡ suc (o + suc j)
            → a ∷ set ms j (in_view m.entry) ≡ record { entry = a.entry; viewed = a.viewed || t } ∷ view p ms
        go true rec f = absurd (omega arith)
        go false rec f = rw (or-false a.viewed, rec (f ∙ omega arith))

  -- the words of a table, of which row k is the first that passes, or none does
  module _ {make : Make (Marked A)} {row : Marked A → List ℕ} (codec : Codec (Marked A) make row) (ws : List ℕ) (n : ℕ) where
    pub one_below : {k : ℕ} → suc k ≡ link_to passes (rows_of make ws n) → k < n
    one_below e = omega (arith, e, link-within passes (rows_of make ws n) 0, length-rows_of make ws n)

    module _ (h : make.words * n ≤ length ws) (s : marks_sound make ws n ≡ true) where
      pub one_none : 0 ≡ link_to passes (rows_of make ws n) → ws ≡ stored row (view p (rows_of make ws n)) ws
      one_none e = sym (ap (λ (o : List (Marked A)). stored row o ws) (none-viewing 0 (rows_of make ws n) (sym e)) ∙ stored_same codec ws n s h)

      pub one_at : (same : Marked A → Marked A → Bool) → ((a b : Marked A) → p a.entry ≡ true → p b.entry ≡ true → same a b ≡ true)
          → {k : ℕ} {ws' : List ℕ} → distinct same (rows_of make ws n) ≡ true → suc k ≡ link_to passes (rows_of make ws n)
          → ws' ≡ put_row make.words ws k (row (in_view (row_at make ws k).entry)) → ws' ≡ stored row (view p (rows_of make ws n)) ws
      one_at same alike {k} {ws'} d e q =
          let R = rows_of make ws n in
          let m = row_at make ws k in
          let l : k < n = one_below e in
          let z : link_to passes R ≡ suc (0 + k) = sym e ∙ omega arith in
          q ∙ ap (λ (w : List ℕ). put_row make.words w k (row (in_view m.entry))) (sym (stored_same codec ws n s h))
          ∙ put-set codec R ws k (in_view m.entry) (omega (arith, length-rows_of make ws n))
          ∙ ap (λ (o : List (Marked A)). stored row o ws) (set-viewing same alike 0 R k m d z (sym (get_d-rows_of make ws n k m l)))
