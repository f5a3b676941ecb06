-- A pass over the votes that keeps those of a slot and later, in view and moved up: one turn, the end, and the places freed.
-- Assumes nothing.
use Prim.Native.Nat.{ℕ, ◌+◌, ◌*◌, ◌-◌, ◌≤◌, ◌<◌}
use mathlib.Core.Bool.{Bool, true, false, cond, or-true}
use mathlib.Core.List.{List, [], ◌∷◌, ◌++◌, append-nil}
use mathlib.Core.Path.{◌≡◌, refl, ap, sym, ◌∙◌}
use native.Mathlib.Omega.{arith}
use lib.ListN.{length, take, drop, replicate, length-append}
use lib.Seq.{take_all, take_at, length-take-le}
use Rattle.protocol.specs.Entry.{Vote}
use Rattle.protocol.specs.Lists.{passing}
use Rattle.protocol.specs.Store.{Marked, in_view, view, view_all, since, rows_since}
use Rattle.protocol.specs.Lent.{vote_words, rows_of, words_of, stored, make_vote, vote_row, emptied}
use Rattle.protocol.proofs.Basics.Filter.{filter-append}
use Rattle.protocol.proofs.Store.Growth.{viewing-append}
use Rattle.protocol.proofs.Store.Since.{length-since}
use Rattle.protocol.proofs.Store.Views.{length-viewing}
use Rattle.protocol.proofs.Lent.Rows.{vote-codec, length-rows_of, length-words_of, drop-stored, stored-freed}
use Rattle.rows.specs.Rows.{row_at, put_row}
use Rattle.rows.proofs.Rows.{take-rows_of}
use Rattle.rows.proofs.Stored.{put-end, row-after}

length-all : (ms : List (Marked Vote)) → length (view_all ms) ≡ length ms
unfolding view_all
length-all ms = length-viewing (λ a. true) ms

module _ (ws₀ : List ℕ) (n from : ℕ) where
  abbrev pub rows : List (Marked Vote)
  rows = rows_of make_vote ws₀ n

  -- those of the first i rows that stay
  abbrev pub kept_to : ℕ → List (Marked Vote)
  kept_to i = rows_since from (take i rows)

  abbrev pub moved_to : ℕ → List ℕ
  moved_to i = stored vote_row (view_all (kept_to i)) ws₀

  pub move-begin : (ws₀ ≡ moved_to 0) × (0 ≡ length (kept_to 0))
  unfolding stored view_all view rows_since passing words_of
  move-begin = (refl, refl)

  -- no more than i stay
  pub kept-most : (i : ℕ) → i ≤ n → length (kept_to i) ≤ i
  kept-most i h = omega (arith, length-since from (take i rows), length-take-le i rows (omega (arith, length-rows_of make_vote ws₀ n)))

  -- row i was read as a from words in which the rows before it are moved up
  module _ (i kept : ℕ) {ws : List ℕ} {a : Marked Vote} (h : i < n) (k : kept ≡ length (kept_to i)) (e : ws ≡ moved_to i) (r : a ≡ row_at make_vote ws i) where
    was : a ≡ row_at make_vote ws₀ i
    was =
        r ∙ ap (λ (w : List ℕ). row_at make_vote w i) e
        ∙ row-after vote-codec (view_all (kept_to i)) ws₀ i (omega (arith, length-all (kept_to i), kept-most i (omega arith)))

    next : kept_to (i + 1) ≡ kept_to i ++ cond (since from a.entry) (a ∷ []) []
    unfolding rows_since passing
    next =
        ap (passing (λ m. since from m.entry)) (take-rows_of make_vote ws₀ n i h ∙ ap (λ (x : Marked Vote). take i rows ++ (x ∷ [])) (sym was))
        ∙ filter-append (λ m. since from m.entry) (take i rows) (a ∷ [])

    -- it stays, and is written behind those that stayed
    pub move-turn : since from a.entry ≡ true → {ws' : List ℕ} → ws' ≡ put_row vote_words ws kept (vote_row (in_view a.entry))
        → (ws' ≡ moved_to (i + 1)) × (kept + 1 ≡ length (kept_to (i + 1)))
    unfolding view_all view
    move-turn s f =
        let m : kept_to (i + 1) ≡ kept_to i ++ (a ∷ []) = next ∙ ap (λ (b : Bool). kept_to i ++ cond b (a ∷ []) []) s in
        let v : view_all (kept_to i ++ (a ∷ [])) ≡ view_all (kept_to i) ++ (in_view a.entry ∷ [])
        = viewing-append (λ b. true) (kept_to i) (a ∷ []) ∙ ap (λ (b : Bool). view_all (kept_to i) ++ (record { entry = a.entry; viewed = b } ∷ [])) (or-true a.viewed) in (
          f ∙ ap (λ (w : List ℕ). put_row vote_words w kept (vote_row (in_view a.entry))) e
              ∙ put-end vote-codec (view_all (kept_to i)) ws₀ (in_view a.entry) kept (length-all (kept_to i) ∙ sym k)
              ∙ ap (λ (l : List (Marked Vote)). stored vote_row l ws₀) (sym v ∙ ap view_all (sym m)),
          omega (arith, ap length m, length-append (kept_to i) (a ∷ []), k),
        )

    -- it is left out
    pub move-skip : since from a.entry ≡ false → (ws ≡ moved_to (i + 1)) × (kept ≡ length (kept_to (i + 1)))
    move-skip s =
        let m : kept_to (i + 1) ≡ kept_to i = next ∙ ap (λ (b : Bool). kept_to i ++ cond b (a ∷ []) []) s ∙ append-nil (kept_to i) in
        (e ∙ ap (λ (l : List (Marked Vote)). stored vote_row (view_all l) ws₀) (sym m), k ∙ ap length (sym m))

  pub move-end : (i : ℕ) → n ≤ i → kept_to i ≡ rows_since from rows
  move-end i h = ap (rows_since from) (take_all i rows (omega (arith, length-rows_of make_vote ws₀ n)))

-- zero in the places that are free then
pub moved-freed : (ws₀ : List ℕ) (n from kept : ℕ) {ws ws' : List ℕ} → let L = rows_since from (rows_of make_vote ws₀ n) in
    ws ≡ stored vote_row (view_all L) ws₀ → kept ≡ length L → ws' ≡ take (vote_words * kept) ws ++ (replicate (vote_words * n - vote_words * kept) 0 ++ drop (vote_words * n) ws)
    → ws' ≡ stored vote_row (view_all L) (emptied n ws₀)
unfolding stored
moved-freed ws₀ n from kept {ws} {ws'} e k f =
    let L = view_all (rows_since from (rows_of make_vote ws₀ n)) in
    let l : length L ≡ kept = length-all (rows_since from (rows_of make_vote ws₀ n)) ∙ sym k in
    let most : kept ≤ n = omega (arith, k, length-since from (rows_of make_vote ws₀ n), length-rows_of make_vote ws₀ n) in
    let t : take (vote_words * kept) ws ≡ words_of vote_row L
    = ap (take (vote_words * kept)) e ∙ take_at (words_of vote_row L) (drop (length (words_of vote_row L)) ws₀) (vote_words * kept) (omega (arith, length-words_of vote-codec L, l)) in
    let d : drop (vote_words * n) ws ≡ drop (vote_words * n) ws₀ = ap (drop (vote_words * n)) e ∙ drop-stored vote-codec L ws₀ (vote_words * n) (omega (arith, l, most)) in
    let z : vote_words * n - vote_words * kept ≡ vote_words * (n - length L) = omega (arith, l) in
    f ∙ rw (t, d, z) (sym (stored-freed L n ws₀ (omega (arith, l, most))))
