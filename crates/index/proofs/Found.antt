-- What stands at the row that the index gives: the block that is found, and whether it is in view. Assumes nothing.
use Prim.Native.Nat.{ℕ, zero, suc, ◌+◌}
use mathlib.Core.Bool.{Bool, true, false, not, ◌&&◌, ◌||◌, cond}
use mathlib.Core.List.{List, [], ◌∷◌}
use mathlib.Core.Logic.{⊎_elim}
use mathlib.Core.Path.{◌≡◌, refl, ap, sym, ◌∙◌}
use native.Mathlib.Omega.{arith}
use borrow.Author.Tests.{eqb-true, eqb-false, ne_eqb, not-true}
use lib.Dec.{eqb}
use lib.ListN.{get_or}
use Rattle.std.specs.Prelude.{Some, None}
use Rattle.protocol.specs.Entry.{Block}
use Rattle.protocol.specs.Lists.{any_pass}
use Rattle.protocol.specs.Chain.{genesis, known}
use Rattle.protocol.specs.Store.{Marked, view_of, in_view}
use Rattle.protocol.specs.Lent.{rows_of, make_block}
use Rattle.protocol.proofs.Basics.Tests.{and_left, and_right, neither}
use Rattle.rows.specs.Rows.{row_at}
use Rattle.rows.specs.Find.{row_of, row_from}
use Rattle.rows.proofs.Rows.{get_d-rows_of}
use Rattle.rows.proofs.Find.{row_below, known-any}
use Rattle.rows.proofs.Views.{any-view}
use Rattle.search_tree.specs.Lists.{link_from, distinct}
use Rattle.search_tree.proofs.Lists.{link-past}
use Rattle.index.specs.Links.{numbers_differ, link_to_number}

abbrev is : ℕ → Marked Block → Bool
is x m = eqb m.entry.number x

-- ---- the row as `rows::find_block` has it

at_from : (i : ℕ) (ms : List (Marked Block)) (x k : ℕ) → link_from (is x) i ms ≡ suc k → row_from i ms x ≡ Some k
unfolding link_from row_from
at_from i [] x k e = absurd (omega arith)
at_from i (m ∷ ms) x k e = go (is x m) (at_from (suc i) ms x k) e
  where
    go : (t : Bool) → (link_from (is x) (suc i) ms ≡ suc k → row_from (suc i) ms x ≡ Some k)
        → cond t (suc i) (link_from (is x) (suc i) ms) ≡ suc k → cond t (Some i) (row_from (suc i) ms x) ≡ Some k
    go true rec f = let z : i ≡ k = omega arith in ap Some z
    go false rec f = rec f

missing-from : (i : ℕ) (ms : List (Marked Block)) (x : ℕ) → link_from (is x) i ms ≡ 0 → row_from i ms x ≡ None
unfolding link_from row_from
missing-from i [] x e = refl
missing-from i (m ∷ ms) x e = go (is x m) (missing-from (suc i) ms x) e
  where
    go : (t : Bool) → (link_from (is x) (suc i) ms ≡ 0 → row_from (suc i) ms x ≡ None)
        → cond t (suc i) (link_from (is x) (suc i) ms) ≡ 0 → cond t (Some i) (row_from (suc i) ms x) ≡ None
    go true rec f = absurd (omega arith)
    go false rec f = rec f

pub at-link : (ms : List (Marked Block)) (x k : ℕ) → link_to_number ms x ≡ suc k → row_of ms x ≡ Some k
unfolding link_to_number
at-link ms x k e = at_from 0 ms x k e

pub missing-link : (ms : List (Marked Block)) (x : ℕ) → link_to_number ms x ≡ 0 → row_of ms x ≡ None
unfolding link_to_number
missing-link ms x e = missing-from 0 ms x e

-- ---- where numbers differ, a number is that of a block in view if the block at its row is

-- no other block has the number of a
alone : (a : Marked Block) (x : ℕ) → a.entry.number ≡ x → (ms : List (Marked Block)) → any_pass (λ b. eqb a.entry.number b.entry.number) ms ≡ false
    → any_pass (λ b. b.viewed && is x b) ms ≡ false
unfolding any_pass
alone a x q [] e = refl
alone a x q (m ∷ ms) e =
    let h = neither (eqb a.entry.number m.entry.number) (any_pass (λ b. eqb a.entry.number b.entry.number) ms) e in
    rw (ne_eqb m.entry.number x (λ z. eqb-false _ _ h.0 (q ∙ sym z)), alone a x q ms h.1) (go m.viewed)
  where
    go : (t : Bool) → ((t && false) || false) ≡ false
    go true = refl
    go false = refl

abbrev some_row : Marked Block
some_row = in_view genesis

seen : (o : ℕ) (ms : List (Marked Block)) (x k : ℕ) → distinct (λ a b. eqb a.entry.number b.entry.number) ms ≡ true → link_from (is x) o ms ≡ suc (o + k)
    → any_pass (λ m. m.viewed && is x m) ms ≡ (get_or ms k some_row).viewed
unfolding link_from distinct any_pass
seen o [] x k d e = absurd (omega arith)
seen o (m ∷ ms) x zero d e = go (is x m) refl e
  where
    none : m.entry.number ≡ x → any_pass (λ b. b.viewed && is x b) ms ≡ false
    none q = alone m x q ms (not-true _ (and_left (not (any_pass (λ b. eqb m.entry.number b.entry.number) ms)) _ d))

    viewed : (t : Bool) → ((t && true) || false) ≡ t
    viewed true = refl
    viewed false = refl

    go : (t : Bool) → is x m ≡ t → cond t (suc o) (link_from (is x) (suc o) ms) ≡ suc (o + 0)
        → ((m.viewed && t) || any_pass (λ b. b.viewed && is x b) ms) ≡ m.viewed
    go true q f = rw (none (eqb-true m.entry.number x q)) (viewed m.viewed)
    go false q f = absurd (⊎_elim (λ z. omega arith) (λ z. omega arith) (link-past (is x) ms (suc o)))
seen o (m ∷ ms) x (suc k) d e = go (is x m) (λ q. seen (suc o) ms x k (and_right (not (any_pass (λ b. eqb m.entry.number b.entry.number) ms)) _ d) q) e
  where
    waits : (t : Bool) (b : Bool) → ((t && false) || b) ≡ b
    waits true b = refl
    waits false b = refl

    go : (t : Bool) → (link_from (is x) (suc o) ms ≡ suc (suc o + k) → any_pass (λ b. b.viewed && is x b) ms ≡ (get_or ms k some_row).viewed)
        → cond t (suc o) (link_from (is x) (suc o) ms) ≡ suc (o + suc k)
        → ((m.viewed && t) || any_pass (λ b. b.viewed && is x b) ms) ≡ (get_or ms k some_row).viewed
    go true rec f = absurd (omega arith)
    go false rec f = waits m.viewed _ ∙ rec (f ∙ omega arith)

-- the row there was read as m
pub view-at : (ws : List ℕ) (n x k : ℕ) {m : Marked Block} → numbers_differ (rows_of make_block ws n) ≡ true → link_to_number (rows_of make_block ws n) x ≡ suc k
    → m ≡ row_at make_block ws k → known (view_of (rows_of make_block ws n)) x ≡ m.viewed
unfolding numbers_differ link_to_number
view-at ws n x k d e r =
    let R = rows_of make_block ws n in
    let z : suc k ≡ suc (0 + k) = omega arith in
    known-any (view_of R) x ∙ any-view (λ c. eqb c.number x) R ∙ seen 0 R x k d (e ∙ z)
    ∙ ap (λ a. a.viewed) (get_d-rows_of make_block ws n k some_row (row_below ws n x k (at_from 0 R x k e)) ∙ sym r)
