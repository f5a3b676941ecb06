-- Tables in order: numbers stand once, and parents stand before their children. Assumes nothing.
use Prim.Native.Nat.{ℕ, zero, suc, ◌<◌}
use mathlib.Core.Bool.{Bool, true, false, cond}
use mathlib.Core.List.Memᴰ
use mathlib.Core.List.{List, [], ◌∷◌, ◌++◌, Memᴰ, append_assoc, append-nil, head-eq_of_cons-eq}
use mathlib.Core.Logic.{◌⊎◌, inl, inr}
use mathlib.Core.Path.{◌≡◌, refl, ap, sym, ◌∙◌}
use native.Mathlib.Omega.{arith}
use lib.Dec.{eqb}
use lib.ListN.{take, drop}
use borrow.Author.Tests.{eqb-true}
use Rattle.protocol.specs.Entry.{Block}
use Rattle.protocol.specs.Lists.{any_pass}
use Rattle.protocol.specs.Chain.{genesis}
use Rattle.protocol.specs.Store.{Marked, entries, view_of, view, view_all}
use Rattle.protocol.proofs.Basics.Tests.{and_right, not-passes}
use Rattle.protocol.proofs.Basics.Members.{any-true}
use Rattle.protocol.proofs.Chain.Above.{parent-known}
use Rattle.protocol.proofs.Chain.Relations.{In, Sound}
use Rattle.protocol.proofs.Store.Follow.{all_follow, block_follows, follow-apart}
use Rattle.protocol.proofs.Store.Tables.{Table, table-true, table-holds, table-sound}
use Rattle.protocol.proofs.Store.Views.{entries-all, view-all, view-stored}
use Rattle.search_tree.specs.Lists.{distinct}
use Rattle.index.specs.Links.{numbers_differ}
use Rattle.views.specs.Ancestors.{Ordered}
use Rattle.views.proofs.Views.{all-viewing}

-- ---- numbers stand once

unfoldable pub Apart : List Block → Type 0
Apart [] = Unit
Apart (b ∷ bs) = ((d : Block) → In d bs → b.number ≡ d.number → ⊥) × Apart bs

pub entry_in : (m : Marked Block) {ms : List (Marked Block)} → Memᴰ m ms → In m.entry (entries ms)
unfolding entries
entry_in m (Memᴰ.head {x = x} {xs = xs} e) = Memᴰ.head (ap (λ o. o.entry) e)
entry_in m (Memᴰ.tail {x = x} {xs = xs} n) = Memᴰ.tail (entry_in m n)

-- a row whose entry is in view is in view itself
pub viewed-row : (ms : List (Marked Block)) → Apart (entries ms) → (m : Marked Block) → Memᴰ m ms → In m.entry (view_of ms) → m.viewed ≡ true
unfolding Apart entries view_of
viewed-row [] A m n k = absurd (Memᴰ.not-nil n)
viewed-row (x ∷ xs) A m n k = go x.viewed refl k (Memᴰ.cases_cons n) (λ o h. viewed-row xs A.1 m o h)
  where
    later : x.entry.number ≡ m.entry.number → In m.entry (entries xs) → ⊥
    later e o = A.0 m.entry o e

    here : (m.entry ≡ x.entry) ⊎ In m.entry (view_of xs) → Memᴰ m xs → (In m.entry (view_of xs) → m.viewed ≡ true) → m.viewed ≡ true
    here (inl e) o rec = absurd (later (ap (λ b. b.number) (sym e)) (entry_in m o))
    here (inr h) o rec = rec h

    go : (t : Bool) → x.viewed ≡ t → In m.entry (cond t (x.entry ∷ view_of xs) (view_of xs)) → (m ≡ x) ⊎ Memᴰ m xs
        → (Memᴰ m xs → In m.entry (view_of xs) → m.viewed ≡ true) → m.viewed ≡ true
    go true s h (inl e) rec = ap (λ o. o.viewed) e ∙ s
    go false s h (inl e) rec = absurd (later (ap (λ o. o.entry.number) (sym e)) (view-stored xs m.entry h))
    go true s h (inr o) rec = here (Memᴰ.cases_cons h) o (rec o)
    go false s h (inr o) rec = rec o h

-- as code tests it
pub apart-differ : (ms : List (Marked Block)) → Apart (entries ms) → numbers_differ ms ≡ true
unfolding numbers_differ distinct Apart entries
apart-differ [] A = refl
apart-differ (m ∷ ms) A = rw (not-passes other) (apart-differ ms A.1)
  where
    other : any_pass (λ b. eqb m.entry.number b.entry.number) ms ≡ true → ⊥
    other e =
        let r = any-true (λ b. eqb m.entry.number b.entry.number) ms e in
        A.0 r.0.entry (entry_in r.0 r.1) (eqb-true m.entry.number r.0.entry.number r.2)

abbrev pub numbered : ℕ → Block → Bool
numbered x b = eqb b.number x

-- ---- parents stand before their children

follow-all-apart : (slot : ℕ) (e xs : List Block) → all_follow slot e xs ≡ true → Apart xs
unfolding Apart all_follow
follow-all-apart slot e [] h = tt
follow-all-apart slot e (b ∷ xs) h =
    let t = and_right (block_follows slot e b) _ h in
    (λ d n q. follow-apart slot (e ++ (b ∷ [])) xs t b d (Memᴰ.append_right e (Memᴰ.head refl)) n q, follow-all-apart slot (e ++ (b ∷ [])) xs t)

follow-at : (slot : ℕ) (j : ℕ) (e xs : List Block) → all_follow slot e xs ≡ true → all_follow slot (e ++ take j xs) (drop j xs) ≡ true
unfolding all_follow
follow-at slot zero e xs h = rw (append-nil e) h
follow-at slot (suc j) e [] h = refl
follow-at slot (suc j) e (b ∷ xs) h =
    rw (← append_assoc e (b ∷ []) (take j xs)) (follow-at slot j (e ++ (b ∷ [])) xs (and_right (block_follows slot e b) _ h))

module _ (ms : List (Marked Block)) (O : Ordered ms) where
  table : Table O.0 (view_all ms)
  table = (table-true O.0 (view_all ms) O.1).0

  blocks-are : entries ms ≡ genesis ∷ table.rest
  blocks-are = sym (entries-all ms) ∙ table.is

  pub ordered-sound : Sound (entries ms)
  ordered-sound = rw (entries-all ms) at (table-sound table)

  pub ordered-apart : Apart (entries ms)
  unfolding Apart
  ordered-apart =
      rw blocks-are
      (λ d n q. follow-apart O.0 (genesis ∷ []) table.rest table.follow genesis d (Memᴰ.head refl) n q, follow-all-apart O.0 (genesis ∷ []) table.rest table.follow)

  pub ordered_at : (i : ℕ) → 0 < i → all_follow O.0 (take i (entries ms)) (drop i (entries ms)) ≡ true
  ordered_at zero h = absurd (omega arith)
  ordered_at (suc j) h = rw blocks-are (follow-at O.0 j (genesis ∷ []) table.rest table.follow)

  pub ordered-viewing : (p : Block → Bool) → Ordered (view p ms)
  ordered-viewing p = (O.0, rw (all-viewing p ms) O.1)

pub ordered-first : (m : Marked Block) (ms : List (Marked Block)) → Ordered (m ∷ ms) → m.entry ≡ genesis
unfolding entries
ordered-first m ms O = head-eq_of_cons-eq (blocks-are (m ∷ ms) O)

-- a table whose view is not closed yet is in order
pub table-ordered : (slot : ℕ) (ms : List (Marked Block)) → Table slot ms → Ordered ms
table-ordered slot ms T = (slot, table-holds slot (view_all ms) whole (rw (view-all ms) (λ c n. parent-known (table-sound T) c n)))
  where
    whole : Table slot (view_all ms)
    whole = record { rest = T.rest; is = entries-all ms ∙ T.is; follow = T.follow; viewed = rw (view-all ms) (view-stored ms genesis T.viewed) }
