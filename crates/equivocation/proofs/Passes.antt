-- One turn of a pass, by the link that a lookup by voter and slot found; and a pass at its end. Assumes nothing.
use Prim.Native.Nat.{ℕ, zero, suc, ◌+◌, ◌≤◌, ◌<◌}
use mathlib.Core.Bool.{true, false}
use mathlib.Core.List.{List, [], ◌∷◌}
use mathlib.Core.Path.{◌≡◌, refl, ap, sym, ◌∙◌}
use native.Mathlib.Omega.{arith}
use borrow.Author.Tests.{eqb-true, eq-eqb}
use lib.Dec.{eqb}
use lib.ListN.{length, get_or, take, drop, drop_of_length-le}
use lib.Seq.{length-take-le, get_or-take, take-length}
use Rattle.protocol.specs.Entry.{Vote}
use Rattle.protocol.specs.Lists.{passing}
use Rattle.protocol.specs.Packet.{packet_of}
use Rattle.protocol.specs.Equivocation.{FirstEquivocation}
use Rattle.protocol.specs.EquivocationPasses.{same_slot, meet, meet_first, meet_among, among_themselves, against_others}
use Rattle.protocol.proofs.Basics.Tests.{both, and_left, and_right, not-passes}
use Rattle.packets.specs.Header.{no_vote}
use Rattle.packets.proofs.Turns.{rest-entry, front-entry}
use Rattle.search_tree.specs.Tree.{Points}
use Rattle.index.specs.declared.Key.{Key}
use Rattle.index.specs.Keys.{slot_key_of}
use Rattle.index.specs.Links.{packet_slot_keys}
use Rattle.equivocation.specs.First.{met_at}

-- ---- the key by voter and slot tells whether two votes have one voter and slot

slot_same : (a b : Vote) → slot_key_of b ≡ slot_key_of a → same_slot a b ≡ true
unfolding same_slot
slot_same a b e = both (eq-eqb a.voter b.voter (sym (ap (λ (k : Key). k.c) e))) (eq-eqb a.slot b.slot (sym (ap (λ (k : Key). k.b) e)))

slot-other : (a b : Vote) → (slot_key_of b ≡ slot_key_of a → ⊥) → same_slot a b ≡ false
unfolding same_slot
slot-other a b f =
    not-passes (λ e.
    let v = eqb-true a.voter b.voter (and_left (eqb a.voter b.voter) _ e) in
    let s = eqb-true a.slot b.slot (and_right (eqb a.voter b.voter) _ e) in
    f (sym (λ t. record { a = s t; b = s t; c = v t; d = 0 })))

-- ---- a vote among others: it meets none of them, or the first of its voter and slot

module _ (best : FirstEquivocation) (a : Vote) where
  meet-none : (vs : List Vote) → ((m : ℕ) → m < length vs → same_slot a (get_or vs m no_vote) ≡ false) → best ≡ meet_among vs best a
  unfolding meet_among meet_first passing
  meet-none [] f = refl
  meet-none (v ∷ vs) f = rw (f 0 (omega arith)) (meet-none vs (λ m l. f (suc m) (omega arith)))

  meet-first : (vs : List Vote) (j : ℕ) → j < length vs → same_slot a (get_or vs j no_vote) ≡ true → ((m : ℕ) → m < j → same_slot a (get_or vs m no_vote) ≡ false)
      → meet best (get_or vs j no_vote) a ≡ meet_among vs best a
  unfolding meet_among meet_first passing
  meet-first [] j h e f = absurd (omega arith)
  meet-first (v ∷ vs) zero h e f = rw e
  meet-first (v ∷ vs) (suc j) h e f = rw (f 0 (omega arith)) (meet-first vs j (omega arith) e (λ m l. f (suc m) (omega arith)))

module _ (bytes : List ℕ) where
  abbrev vs : List Vote
  vs = (packet_of bytes).votes

  -- by the link to the first of its voter and slot among the packet's first n
  met : (n : ℕ) (best : FirstEquivocation) (a : Vote) (link : ℕ) → Points (packet_slot_keys bytes) n (slot_key_of a) link → n ≤ length vs
      → met_at best vs link a ≡ meet_among (take n vs) best a
  unfolding met_at
  met n best a zero s h =
      meet-none best a (take n vs) (λ m l.
      let k : m < n = omega (arith, length-take-le n vs h) in
      ap (same_slot a) (get_or-take n vs m no_vote k) ∙ slot-other a (get_or vs m no_vote) (s.none refl m k))
  met n best a (suc j) s h =
      let f = s.hit j refl in
      let k : j < n = f.is_row in
      let l : j < length (take n vs) = omega (arith, length-take-le n vs h) in
      let r = get_or-take n vs j no_vote k in
      ap (λ (b : Vote). meet best b a) (sym r)
      ∙ meet-first best a (take n vs) j l (ap (same_slot a) r ∙ slot_same a (get_or vs j no_vote) f.has)
      (λ m q. ap (same_slot a) (get_or-take n vs m no_vote (omega arith)) ∙ slot-other a (get_or vs m no_vote) (f.fresh m q))

  -- vote i, which is a, has met what its link is to
  pub among-turn : (i : ℕ) (best : FirstEquivocation) {next : FirstEquivocation} {a : Vote} {link : ℕ} → a ≡ get_or vs i no_vote
      → Points (packet_slot_keys bytes) i (slot_key_of a) link → next ≡ met_at best vs link a → i < length vs
      → among_themselves (take (i + 1) vs) next (drop (i + 1) vs) ≡ among_themselves (take i vs) best (drop i vs)
  unfolding among_themselves
  among-turn i best {a = a} {link = link} r s e h =
      rw (front-entry vs no_vote i h r, rest-entry vs no_vote i h r, e, met i best a link s (omega arith))

  pub among-end : (i : ℕ) (best : FirstEquivocation) → length vs ≤ i → among_themselves (take i vs) best (drop i vs) ≡ best
  unfolding among_themselves
  among-end i best h = rw (drop_of_length-le vs h)

-- the votes of another packet are held against all of these
module _ (one two : List ℕ) where
  pub against-turn : (i : ℕ) (best : FirstEquivocation) {next : FirstEquivocation} {a : Vote} {link : ℕ} → a ≡ get_or (vs two) i no_vote
      → Points (packet_slot_keys one) (length (vs one)) (slot_key_of a) link → next ≡ met_at best (vs one) link a → i < length (vs two)
      → against_others (vs one) next (drop (i + 1) (vs two)) ≡ against_others (vs one) best (drop i (vs two))
  unfolding against_others
  against-turn i best {a = a} {link = link} r s e h =
      rw (rest-entry (vs two) no_vote i h r, e, met one (length (vs one)) best a link s (omega arith), take-length (vs one))

  pub against-end : (i : ℕ) (best : FirstEquivocation) → length (vs two) ≤ i → against_others (vs one) best (drop i (vs two)) ≡ best
  unfolding against_others
  against-end i best h = rw (drop_of_length-le (vs two) h)
