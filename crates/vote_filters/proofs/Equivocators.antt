-- The equivocators, one vote at a time: a vote is held against the first one of its voter and slot. Assumes nothing.
use Prim.Native.Nat.{ℕ, suc, ◌+◌, ◌<◌}
use mathlib.Core.Bool.{Bool, true, false, ◌||◌, ◌&&◌}
use mathlib.Core.List.{List, [], ◌∷◌, ◌++◌}
use mathlib.Core.Logic.{◌⊎◌, inl, inr}
use mathlib.Core.Path.{◌≡◌, refl, ap, sym, ◌∙◌}
use lib.Dec.{eqb}
use borrow.Author.Tests.{eqb-true, eq-eqb}
use Rattle.protocol.specs.Entry.{Vote}
use Rattle.protocol.specs.Lists.{any_pass}
use Rattle.protocol.specs.Store.{Marked, entries, view_of}
use Rattle.protocol.specs.Lent.{make_vote, rows_of}
use Rattle.protocol.specs.Filters.{equivocates, window}
use Rattle.protocol.proofs.Basics.Members.{Adds, adds-end}
use Rattle.protocol.proofs.Basics.Tests.{and_left, and_right, either, or_left, or_right, same_test, clashing}
use Rattle.protocol.proofs.Filters.Kept.{equivocates-true, equivocates-holds, equivocation-in}
use Rattle.protocol.proofs.Filters.Relations.{Cast, Equivocation}
use Rattle.rows.specs.Rows.{row_at}
use Rattle.search_tree.specs.Tree.{First, Points}
use Rattle.index.specs.Links.{slot_key}
use Rattle.index.proofs.Slots.{slot-voters, slot-slots, slot-selected, slot_same}
use Rattle.protocol.specs.Words.{bit_of}
use Rattle.masks.specs.Masks.{mask_of, added}
use Rattle.masks.proofs.Masks.{mask-ext, mask-none, bit_mask}
use Rattle.vote_filters.specs.Latest.{selected, votes_of, equivocators_of}
use Rattle.vote_filters.proofs.Selected.{selected-in, selected-out, row_of, entry_in}

-- ---- a vote more, in slots that p counts

-- b is another vote of a's voter and slot
pub record Other (vs : List Vote) (a b : Vote) : Type 0 where
  pub cast : Cast b vs
  pub voters : b.voter ≡ a.voter
  pub slots : b.slot ≡ a.slot
  pub differ : b.number ≡ a.number → ⊥

-- v is a's voter, and has another vote of its slot, which counts
abbrev Newly : (ℕ → Bool) → List Vote → Vote → ℕ → Type 0
Newly p vs a v = (a.voter ≡ v) × (p a.slot ≡ true) × ((b : Vote) × Other vs a b)

module _ (p : ℕ → Bool) (vs : List Vote) (a : Vote) where
  A : Adds Vote a vs (vs ++ (a ∷ []))
  A = adds-end Vote a vs

  older : (v : ℕ) → equivocates p vs v ≡ true → equivocates p (vs ++ (a ∷ [])) v ≡ true
  older v h =
      let d = equivocates-true p vs v h in
      equivocates-holds p (vs ++ (a ∷ [])) v (equivocation-in d (A.old d.one d.has_one) (A.old d.other d.has_other) d.counts)

  -- whoever equivocates now did before, or does newly
  newer : (v : ℕ) → equivocates p (vs ++ (a ∷ [])) v ≡ true → (equivocates p vs v ≡ true) ⊎ Newly p vs a v
  newer v h = let d = equivocates-true p (vs ++ (a ∷ [])) v h in go d (A.only d.one d.has_one) (A.only d.other d.has_other)
    where
      go : (d : Equivocation p (vs ++ (a ∷ [])) v) → Cast d.one vs ⊎ (d.one ≡ a) → Cast d.other vs ⊎ (d.other ≡ a)
          → (equivocates p vs v ≡ true) ⊎ Newly p vs a v
      go d (inl m) (inl n) = inl (equivocates-holds p vs v (equivocation-in d m n d.counts))
      go d (inl m) (inr e) =
          let x : a.voter ≡ v = ap (λ o. o.voter) (sym e) ∙ d.by-other in
          let y : d.one.slot ≡ a.slot = d.slots ∙ ap (λ o. o.slot) e in
          inr (x, ap p (sym y) ∙ d.counts, (d.one, record { cast = m; voters = d.by_one ∙ sym x; slots = y; differ = λ q. d.differ (q ∙ ap (λ o. o.number) (sym e)) }))
      go d (inr e) (inl n) =
          let x : a.voter ≡ v = ap (λ o. o.voter) (sym e) ∙ d.by_one in
          let y : d.one.slot ≡ a.slot = ap (λ o. o.slot) e in
          inr (x, ap p (sym y) ∙ d.counts, (d.other, record { cast = n; voters = d.by-other ∙ sym x; slots = sym d.slots ∙ y; differ = λ q. d.differ (ap (λ o. o.number) e ∙ sym q) }))
      go d (inr e) (inr f) = absurd (d.differ (ap (λ o. o.number) (e ∙ sym f)))

  -- a stood there already
  pub doubled : {b : Vote} → p a.slot ≡ true → Other vs a b → Cast a vs → equivocates p vs a.voter ≡ true
  doubled {b} k o m =
      equivocates-holds p vs a.voter (record {
        one = b;
        other = a;
        has_one = o.cast;
        has_other = m;
        by_one = o.voters;
        by-other = refl;
        slots = o.slots;
        counts = ap p o.slots ∙ k;
        differ = o.differ;
      })

  -- if its voter equivocated before, or has no other vote of its slot that counts, nothing changes
  pub equivocates-keep : ((b : Vote) → Other vs a b → p a.slot ≡ true → equivocates p vs a.voter ≡ true) → (v : ℕ)
      → equivocates p vs v ≡ equivocates p (vs ++ (a ∷ [])) v
  equivocates-keep f v = same_test (equivocates p vs v) (equivocates p (vs ++ (a ∷ [])) v) (older v) (λ h. go (newer v h))
    where
      go : (equivocates p vs v ≡ true) ⊎ Newly p vs a v → equivocates p vs v ≡ true
      go (inl h) = h
      go (inr (x, k, o)) = rw x at (f o.0 o.1 k)

  -- another vote of its slot makes its voter an equivocator
  pub equivocates-add : (b : Vote) → Other vs a b → p a.slot ≡ true → (v : ℕ)
      → (equivocates p vs v || eqb v a.voter) ≡ equivocates p (vs ++ (a ∷ [])) v
  equivocates-add b o k v =
      same_test (equivocates p vs v || eqb v a.voter) (equivocates p (vs ++ (a ∷ [])) v) (λ h. to (either (equivocates p vs v) (eqb v a.voter) h))
      (λ h. from (newer v h))
    where
      to : (equivocates p vs v ≡ true) ⊎ (eqb v a.voter ≡ true) → equivocates p (vs ++ (a ∷ [])) v ≡ true
      to (inl h) = older v h
      to (inr h) =
          equivocates-holds p (vs ++ (a ∷ [])) v (record {
            one = a;
            other = b;
            has_one = A.new;
            has_other = A.old b o.cast;
            by_one = sym (eqb-true v a.voter h);
            by-other = o.voters ∙ sym (eqb-true v a.voter h);
            slots = sym o.slots;
            counts = k;
            differ = λ q. o.differ (sym q);
          })

      from : (equivocates p vs v ≡ true) ⊎ Newly p vs a v → (equivocates p vs v || eqb v a.voter) ≡ true
      from (inl h) = or_left (equivocates p vs v) (eqb v a.voter) h
      from (inr h) = or_right (equivocates p vs v) (eqb v a.voter) (eq-eqb v a.voter (sym h.0))

-- ---- one turn: row i was read as m, and the index tells the first row of its voter and slot

module _ (w : Bool) (ws : List ℕ) (i : ℕ) (m : Marked Vote) (read : m ≡ row_at make_vote ws i) (E t : ℕ) {mask : ℕ} (q : mask ≡ equivocators_of (votes_of w ws i) E t) where
  abbrev votes : List Vote
  votes = votes_of w ws i

  -- the row counts for nothing, or for no more than rows before it
  kept-turn : ((w || m.viewed) ≡ true → (b : Vote) → Other votes m.entry b → window E t m.entry.slot ≡ true → equivocates (window E t) votes m.entry.voter ≡ true)
      → mask ≡ equivocators_of (votes_of w ws (i + 1)) E t
  unfolding equivocators_of
  kept-turn f = q ∙ go (w || m.viewed) refl
    where
      go : (b : Bool) → (w || m.viewed) ≡ b → equivocators_of votes E t ≡ equivocators_of (votes_of w ws (i + 1)) E t
      go true s =
          rw (selected-in make_vote w ws i m read s)
          (mask-ext 64 (λ v. equivocates (window E t) votes v) (λ v. equivocates (window E t) (votes ++ (m.entry ∷ [])) v)
          (λ v l. equivocates-keep (window E t) votes m.entry (f s) v))
      go false s = rw (selected-out make_vote w ws i m read s)

  -- it is not in the window, or not in view
  pub out-turn : ((w || m.viewed) && window E t m.entry.slot) ≡ false → mask ≡ equivocators_of (votes_of w ws (i + 1)) E t
  unfolding window
  out-turn e = kept-turn (λ s b o k. absurd (clashing (rw s k) e))

  -- no row before it has its voter and slot
  pub alone-turn : Points (slot_key w ws) i (slot_key w ws i) 0 → mask ≡ equivocators_of (votes_of w ws (i + 1)) E t
  alone-turn P = kept-turn (λ s b o k. absurd (none s b o (row_of make_vote w ws i b o.cast)))
    where
      none : (w || m.viewed) ≡ true → (b : Vote) → Other votes m.entry b
          → (j : ℕ) × (j < i) × ((w || (row_at make_vote ws j).viewed) ≡ true) × (b ≡ (row_at make_vote ws j).entry) → ⊥
      none s b o (j, l, h, e) =
          let x = sym (ap (λ c. c.voter) e) ∙ o.voters ∙ ap (λ c. c.entry.voter) read in
          let y = sym (ap (λ c. c.slot) e) ∙ o.slots ∙ ap (λ c. c.entry.slot) read in
          P.none refl j l (slot_same ws j i w x y h (ap (λ c. w || c.viewed) (sym read) ∙ s))

  -- row p is the first of them
  module _ {p : ℕ} (P : Points (slot_key w ws) i (slot_key w ws i) (suc p)) (f : Marked Vote) (met : f ≡ row_at make_vote ws p) (e : ((w || m.viewed) && window E t m.entry.slot) ≡ true) where
    first : First (slot_key w ws) i (slot_key w ws i) p
    first = P.hit p refl

    voters : f.entry.voter ≡ m.entry.voter
    voters = ap (λ c. c.entry.voter) met ∙ slot-voters ws p i w first.has ∙ sym (ap (λ c. c.entry.voter) read)

    slots : f.entry.slot ≡ m.entry.slot
    slots = ap (λ c. c.entry.slot) met ∙ slot-slots ws p i w first.has ∙ sym (ap (λ c. c.entry.slot) read)

    viewed : (w || m.viewed) ≡ true
    viewed = and_left (w || m.viewed) (window E t m.entry.slot) e

    cast : Cast f.entry votes
    cast =
        rw met (entry_in make_vote w ws i p first.is_row (slot-selected ws p i w first.has ∙ sym (ap (λ c. w || c.viewed) read) ∙ viewed))

    counts : window E t m.entry.slot ≡ true
    counts = unfold window in (and_right (w || m.viewed) (window E t m.entry.slot) e)

    -- it is for the same block
    pub again-turn : f.entry.number ≡ m.entry.number → mask ≡ equivocators_of (votes_of w ws (i + 1)) E t
    again-turn n =
        let same : f.entry ≡ m.entry = λ j. record { voter = voters j; slot = slots j; number = n j } in
        kept-turn (λ s b o k. doubled (window E t) votes m.entry k o (rw same at cast))

    -- for another
    pub double-turn : {r : ℕ} → r ≡ mask_of 64 (added (bit_of mask) m.entry.voter) → (f.entry.number ≡ m.entry.number → ⊥)
        → r ≡ equivocators_of (votes_of w ws (i + 1)) E t
    double-turn {r} x n = x ∙ ap (λ (y : ℕ). mask_of 64 (added (bit_of y) m.entry.voter)) q ∙ rw (selected-in make_vote w ws i m read viewed) grown
      where
        grown : mask_of 64 (added (bit_of (equivocators_of votes E t)) m.entry.voter) ≡ equivocators_of (votes ++ (m.entry ∷ [])) E t
        grown = unfold equivocators_of in (
            mask-ext 64 (added (bit_of (equivocators_of votes E t)) m.entry.voter) (λ v. equivocates (window E t) (votes ++ (m.entry ∷ [])) v)
            (λ v l. rw (bit_mask 64 (λ u. equivocates (window E t) votes u) v l)
            (equivocates-add (window E t) votes m.entry f.entry (record { cast = cast; voters = voters; slots = slots; differ = n }) counts v)))

-- ---- the begin

pub equivocators-none : (w : Bool) (ws : List ℕ) (E t : ℕ) → equivocators_of (votes_of w ws 0) E t ≡ 0
unfolding equivocators_of rows_of selected entries view_of equivocates any_pass
equivocators-none true ws E t = mask-none 64
equivocators-none false ws E t = mask-none 64
