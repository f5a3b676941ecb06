-- The entries of a table and then of a packet: how many, each by its row, and the first of them. Assumes nothing.
use Prim.Native.Nat.{ℕ, zero, suc, ◌+◌, ◌-◌, ◌≤◌, ◌<◌}
use mathlib.Core.List.{List, [], ◌∷◌, ◌++◌}
use mathlib.Core.Path.{◌≡◌, refl, ap, sym, ◌∙◌}
use native.Mathlib.Omega.{arith}
use lib.ListN.{length, get_or, take, length-append, get_or-append}
use lib.Seq.{take-append-add, get_or-append-add}
use Rattle.protocol.specs.Store.{Marked, entries}
use Rattle.protocol.specs.Lent.{Make, rows_of}
use Rattle.protocol.proofs.Lent.Rows.{length-rows_of}
use Rattle.protocol.proofs.Store.Views.{length-entries}
use Rattle.rows.specs.Rows.{row_at}
use Rattle.rows.proofs.Rows.{get_d-rows_of}
use Rattle.index.specs.Index.{rows_then_entries}

get_d-entries : {A : Type 0} (ms : List (Marked A)) (j : ℕ) (m : Marked A) → get_or (entries ms) j m.entry ≡ (get_or ms j m).entry
unfolding entries
get_d-entries [] j m = refl
get_d-entries (x ∷ ms) zero m = refl
get_d-entries (x ∷ ms) (suc j) m = get_d-entries ms j m

module _ {A : Type 0} (make : Make (Marked A)) (ws : List ℕ) (used : ℕ) (ys : List A) where
  abbrev R : List (Marked A)
  R = rows_of make ws used

  size : length (entries R) ≡ used
  size = length-entries R ∙ length-rows_of make ws used

  pub length-known : length (rows_then_entries make ws used ys) ≡ used + length ys
  unfolding rows_then_entries
  length-known = length-append (entries R) ys ∙ ap (λ n. n + length ys) size

  -- the table's, and the first i of the packet's
  pub known-front : (i : ℕ) → take (used + i) (rows_then_entries make ws used ys) ≡ entries R ++ take i ys
  unfolding rows_then_entries
  known-front i = ap (λ n. take (n + i) (entries R ++ ys)) (sym size) ∙ take-append-add (entries R) ys i

  -- the entry at row j, read in the table as m, or in the packet; d stands for the entries past the end
  pub known-row : (j : ℕ) {m : Marked A} (d : Marked A) → j < used → m ≡ row_at make ws j → m.entry ≡ get_or (rows_then_entries make ws used ys) j d.entry
  unfolding rows_then_entries
  known-row j d h e =
      let l : j < length (entries R) = omega (arith, size) in
      ap (λ r. r.entry) (e ∙ sym (get_d-rows_of make ws used j d h)) ∙ sym (get_or-append (entries R) ys d.entry j l ∙ get_d-entries R j d)

  -- entry i of the packet, and that at row j
  pub known_next : (i : ℕ) (d : A) → get_or (rows_then_entries make ws used ys) (used + i) d ≡ get_or ys i d
  unfolding rows_then_entries
  known_next i d = ap (λ n. get_or (entries R ++ ys) (n + i) d) (sym size) ∙ get_or-append-add (entries R) ys i d

  pub known_past : (j : ℕ) (d : A) → used ≤ j → get_or ys (j - used) d ≡ get_or (rows_then_entries make ws used ys) j d
  known_past j d h =
      let z : j ≡ used + (j - used) = omega arith in
      sym (ap (λ n. get_or (rows_then_entries make ws used ys) n d) z ∙ known_next (j - used) d)
