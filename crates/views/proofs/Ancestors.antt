-- The pass that brings ancestors into view, from the last row to the first: a row in view brings its parent, what is to come into view
-- in the end stays the same, and from row i on every row in view has its parent in view. Assumes nothing.
use Prim.Native.Nat.{ℕ, ◌+◌, ◌<◌}
use mathlib.Core.Bool.{Bool, true, false, ◌||◌, cond}
use mathlib.Core.List.Memᴰ
use mathlib.Core.List.{List, [], ◌∷◌, ◌++◌, Memᴰ}
use mathlib.Core.Logic.{◌⊎◌, inl, inr}
use mathlib.Core.Path.{◌≡◌, refl, ap, sym, ◌∙◌}
use native.Mathlib.Nat.{eq-zero-or-pos}
use native.Mathlib.Omega.{arith}
use lib.ListN.{take, drop, take-append-drop}
use borrow.Author.Tests.{eqb-true, eq-eqb}
use Rattle.protocol.specs.Entry.{Block}
use Rattle.protocol.specs.Lists.{any_pass}
use Rattle.protocol.specs.Chain.{genesis, at_or_above}
use Rattle.protocol.specs.Store.{Marked, entries, view_of, view}
use Rattle.protocol.proofs.Basics.Tests.{either, or_right, same_test, and_left}
use Rattle.protocol.proofs.Chain.Above.{above-true, above_holds, above-cast}
use Rattle.protocol.proofs.Chain.Relations.{In, Known, Sound, Above, here, up}
use Rattle.protocol.proofs.Store.Follow.{Follows, block_follows, all_follow, follows-true, follow-apart}
use Rattle.protocol.proofs.Store.Tables.{Closed}
use Rattle.protocol.proofs.Basics.Members.{any-true, any-holds}
use Rattle.protocol.proofs.Store.Views.{entries-viewing, view-append, view-stored, viewing-keeps, viewing-viewed-at-once, viewing-from}
use Rattle.views.specs.Ancestors.{Ordered, view_ancestors}
use Rattle.views.proofs.Views.{viewing-both, viewing-ext, viewing-idle, drop-viewing, drop-entries}
use Rattle.views.proofs.Order.{numbered, entry_in, viewed-row, ordered-sound, ordered-apart, ordered_at, ordered-first}

module _ (R : List (Marked Block)) (O : Ordered R) where
  S : Sound (entries R)
  S = ordered-sound R O

  abbrev stood_on : List (Marked Block) → Block → Bool
  stood_on ms b = any_pass (λ c. at_or_above (entries R) c.number b.number) (view_of ms)

  -- by the relation
  stood-true : (ms : List (Marked Block)) (b : Block) → stood_on ms b ≡ true → (c : Block) × In c (view_of ms) × Above (entries R) b.number c.number
  stood-true ms b e =
      let r = any-true (λ c. at_or_above (entries R) c.number b.number) (view_of ms) e in
      (r.0, r.1, above-true S r.0.number b.number r.2)

  stood-holds : (ms : List (Marked Block)) (b c : Block) → In c (view_of ms) → In c (entries R) → Above (entries R) b.number c.number → stood_on ms b ≡ true
  stood-holds ms b c n k r = any-holds (λ d. at_or_above (entries R) d.number b.number) c n (above_holds S r)

  -- ---- the parent of a block in view comes into view

  module _ (c : Block) (n : In c (view_of R)) (z : 0 < c.number) where
    abbrev next : List (Marked Block)
    next = view (numbered c.parent) R

    -- what stands under the parent stands under the block
    under : {b : ℕ} → Above (entries R) b c.parent → Above (entries R) b c.number
    under r = up c (view-stored R c n) refl z r

    same : (b : Block) → (numbered c.parent b || stood_on next b) ≡ stood_on R b
    same b = same_test _ _ to from
      where
        old : (d : Block) → In d (view_of R) ⊎ (In d (entries R) × (numbered c.parent d ≡ true)) → Above (entries R) b.number d.number → stood_on R b ≡ true
        old d (inl m) r = stood-holds R b d m (view-stored R d m) r
        old d (inr m) r = stood-holds R b c n (view-stored R c n) (under (above-cast (eqb-true d.number c.parent m.1) r))

        pick : (numbered c.parent b ≡ true) ⊎ (stood_on next b ≡ true) → stood_on R b ≡ true
        pick (inl h) = stood-holds R b c n (view-stored R c n) (under (here (sym (eqb-true b.number c.parent h))))
        pick (inr h) = let r = stood-true next b h in old r.0 (viewing-from (numbered c.parent) R r.0 r.1) r.2

        to : (numbered c.parent b || stood_on next b) ≡ true → stood_on R b ≡ true
        to h = pick (either (numbered c.parent b) (stood_on next b) h)

        from : stood_on R b ≡ true → (numbered c.parent b || stood_on next b) ≡ true
        from h =
            let r = stood-true R b h in
            or_right (numbered c.parent b) (stood_on next b)
            (stood-holds next b r.0 (viewing-keeps (numbered c.parent) R r.0 r.1) (view-stored R r.0 r.1) r.2)

    pub parent-same : view_ancestors next ≡ view_ancestors R
    unfolding view_ancestors
    parent-same =
        ap (λ (bs : List Block). view (λ b. any_pass (λ d. at_or_above bs d.number b.number) (view_of next)) next) (entries-viewing (numbered c.parent) R)
        ∙ viewing-both (numbered c.parent) (stood_on next) R
        ∙ viewing-ext (λ b. numbered c.parent b || stood_on next b) (stood_on R) R (λ b m. same b)

  -- ---- a closed view stays as it is

  -- what a block in view stands on is in view
  pub down : {b x : ℕ} → Closed (view_of R) → Known (view_of R) x → Above (entries R) b x → Known (view_of R) b
  down C k (here q) = (k.0, k.1, k.2 ∙ q)
  down C k (up c m q z r) =
      let e : k.0 ≡ c = S.unique k.0 c (view-stored R k.0 k.1) m (k.2 ∙ sym q) in
      down C (C c (rw e at k.1)) r

  pub closed_same : Closed (view_of R) → view_ancestors R ≡ R
  unfolding view_ancestors
  closed_same C = viewing-idle (stood_on R) R seen
    where
      seen : (m : Marked Block) → Memᴰ m R → stood_on R m.entry ≡ true → m.viewed ≡ true
      seen m n e =
          let r = stood-true R m.entry e in
          let k = down C (r.0, r.1, refl) r.2 in
          let q : k.0 ≡ m.entry = S.unique k.0 m.entry (view-stored R k.0 k.1) (entry_in m n) k.2 in
          viewed-row R (ordered-apart R O) m n (rw q at k.1)

-- ---- closed from row i on

abbrev pub ClosedFrom : ℕ → List (Marked Block) → Type 0
ClosedFrom i ms = (c : Block) → In c (view_of (drop i ms)) → Known (view_of ms) c.parent

-- past the end there is nothing to close
pub closed-end : (ms : List (Marked Block)) (i : ℕ) → drop i ms ≡ [] → ClosedFrom i ms
unfolding view_of
closed-end ms i e c n = absurd (Memᴰ.not-nil (rw e at n))

module _ (R : List (Marked Block)) (i : ℕ) (m : Marked Block) (e : drop i R ≡ m ∷ drop (i + 1) R) (C : ClosedFrom (i + 1) R) where
  -- row i waits
  pub closed-waits : m.viewed ≡ false → ClosedFrom i R
  unfolding view_of
  closed-waits h c n = C c (rw h at (rw e at n))

  -- row i is in view, and its parent comes into view
  module _ (O : Ordered R) (z : 0 < i) (h : m.viewed ≡ true) where
    abbrev after : List (Marked Block)
    after = view (numbered m.entry.parent) R

    link : drop i (entries R) ≡ m.entry ∷ entries (drop (i + 1) R)
    unfolding entries
    link = sym (drop-entries i R) ∙ ap entries e

    follows : Follows O.0 (take i (entries R)) m.entry
    unfolding all_follow
    follows =
        follows-true O.0 (take i (entries R)) m.entry
        (and_left (block_follows O.0 (take i (entries R)) m.entry) _ (rw link at (ordered_at R O i z)))

    parent_in : In follows.on.0 (entries R)
    parent_in = rw (sym (take-append-drop i (entries R))) (Memᴰ.append_left (drop i (entries R)) follows.on.1)

    parent-viewed : Known (view_of after) m.entry.parent
    parent-viewed =
        (follows.on.0, viewing-viewed-at-once (numbered m.entry.parent) R follows.on.0 parent_in (eq-eqb follows.on.0.number m.entry.parent follows.on.2), follows.on.2)

    pub row-viewed : In m.entry (view_of R)
    unfolding view_of
    row-viewed =
        let d : view_of R ≡ view_of (take i R) ++ view_of (m ∷ drop (i + 1) R)
        = ap view_of (sym (take-append-drop i R)) ∙ view-append (take i R) (drop i R) ∙ ap (λ (l : List (Marked Block)). view_of (take i R) ++ view_of l) e in
        rw d (Memᴰ.append_right (view_of (take i R)) (rw h (Memᴰ.head refl)))

    -- only block 0 has number 0, and it stands first
    pub row_number : 0 < m.entry.number
    row_number = go (eq-zero-or-pos m.entry.number)
      where
        go : (m.entry.number ≡ 0) ⊎ (0 < m.entry.number) → 0 < m.entry.number
        go (inl q) =
            let S = ordered-sound R O in
            let g : m.entry ≡ genesis = S.unique m.entry genesis (view-stored R m.entry row-viewed) S.start q in
            absurd (omega (arith, follows.on.3, ap (λ b. b.slot) g))
        go (inr p) = p

    pub closed-viewed-at-once : ClosedFrom i after
    unfolding view_of
    closed-viewed-at-once c n = go (viewing-from (numbered m.entry.parent) (drop i R) c (rw (drop-viewing (numbered m.entry.parent) i R) at n))
      where
        keep : Known (view_of R) c.parent → Known (view_of after) c.parent
        keep k = (k.0, viewing-keeps (numbered m.entry.parent) R k.0 k.1, k.2)

        front : (c ≡ m.entry) ⊎ In c (view_of (drop (i + 1) R)) → Known (view_of after) c.parent
        front (inl q) = rw q parent-viewed
        front (inr k) = keep (C c k)

        first : In c (view_of (drop i R)) → (c ≡ m.entry) ⊎ In c (view_of (drop (i + 1) R))
        first k = Memᴰ.cases_cons (rw h at (rw e at k))

        go : In c (view_of (drop i R)) ⊎ (In c (entries (drop i R)) × (numbered m.entry.parent c ≡ true)) → Known (view_of after) c.parent
        go (inl k) = front (first k)
        go (inr k) =
            absurd (follow-apart O.0 (take i (entries R)) (drop i (entries R)) (ordered_at R O i z) follows.on.0 c follows.on.1 (rw (sym (drop-entries i R)) k.0)
            (follows.on.2 ∙ sym (eqb-true c.number m.entry.parent k.1)))

-- every row but block 0's, and block 0 is its own parent
pub closed_all : (R : List (Marked Block)) → Ordered R → ClosedFrom 1 R → Closed (view_of R)
unfolding view_of
closed_all [] O C c n = absurd (Memᴰ.not-nil n)
closed_all (m ∷ ms) O C c n = go m.viewed n
  where
    first : (c ≡ m.entry) ⊎ In c (view_of ms) → Known (view_of (m ∷ ms)) c.parent
    first (inl q) =
        let g : c ≡ genesis = q ∙ ordered-first m ms O in
        (c, n, ap (λ b. b.number) g ∙ ap (λ b. b.parent) (sym g))
    first (inr k) = C c k

    go : (t : Bool) → In c (cond t (m.entry ∷ view_of ms) (view_of ms)) → Known (view_of (m ∷ ms)) c.parent
    go true k = first (Memᴰ.cases_cons k)
    go false k = C c k
