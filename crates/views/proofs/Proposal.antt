-- A proposal's blocks and the blocks that its votes are for come into view one by one, and then all their ancestors:
-- that is what the definition of Receive brings into view. Assumes nothing.
use Prim.Native.Nat.{ℕ}
use mathlib.Core.Bool.{Bool, true, false, ◌||◌}
use mathlib.Core.List.{List, Memᴰ}
use mathlib.Core.Logic.{◌⊎◌, inl, inr}
use mathlib.Core.Path.{◌≡◌, refl, ap, sym, ◌∙◌}
use lib.Dec.{eqb}
use borrow.Author.Tests.{eqb-true, eq-eqb}
use Rattle.protocol.specs.Entry.{Block, Vote}
use Rattle.protocol.specs.Lists.{any_pass}
use Rattle.protocol.specs.Chain.{at_or_above}
use Rattle.protocol.specs.Store.{Marked, entries, view_of, view}
use Rattle.protocol.specs.Packet.{Packet}
use Rattle.protocol.specs.Calls.Receive.{stood_on}
use Rattle.protocol.proofs.Basics.Tests.{either, or_left, or_right, same_test, clashing}
use Rattle.protocol.proofs.Chain.Above.{above-true, above_holds, above-cast}
use Rattle.protocol.proofs.Chain.Relations.{In, Known, Sound, Above, here}
use Rattle.protocol.proofs.Filters.Relations.{Cast}
use Rattle.protocol.proofs.Store.Tables.{Closed}
use Rattle.protocol.proofs.Basics.Members.{any-true, any-holds}
use Rattle.protocol.proofs.Store.Views.{entries-viewing, view-stored, viewing-viewed-at-once, viewing-from}
use Rattle.index.specs.Firsts.{named}
use Rattle.views.specs.Ancestors.{Ordered, view_ancestors}
use Rattle.views.proofs.Views.{viewing-both, viewing-agree}
use Rattle.views.proofs.Order.{entry_in, viewed-row, ordered-sound, ordered-apart}
use Rattle.views.proofs.Ancestors.{down}

module _ (p : Packet) (R : List (Marked Block)) (O : Ordered R) (C : Closed (view_of R))
    (blocks-known : (c : Block) → In c p.blocks → Known (entries R) c.number)
    (votes-known : (a : Vote) → Cast a p.votes → Known (entries R) a.number) where
  S : Sound (entries R)
  S = ordered-sound R O

  -- x is the number of one of the packet's blocks, or of a block that a vote of it is for
  data Names (x : ℕ) : Type 0 where
    by-block : (c : Block) → In c p.blocks → x ≡ c.number → Names x
    by-vote : (a : Vote) → Cast a p.votes → x ≡ a.number → Names x

  named-true : (b : Block) → named p b ≡ true → Names b.number
  unfolding named
  named-true b e = go (either (any_pass (λ c. eqb b.number c.number) p.blocks) _ e)
    where
      go : (any_pass (λ c. eqb b.number c.number) p.blocks ≡ true) ⊎ (any_pass (λ a. eqb b.number a.number) p.votes ≡ true) → Names b.number
      go (inl h) = let r = any-true (λ c. eqb b.number c.number) p.blocks h in by-block r.0 r.1 (eqb-true b.number r.0.number r.2)
      go (inr h) = let r = any-true (λ a. eqb b.number a.number) p.votes h in by-vote r.0 r.1 (eqb-true b.number r.0.number r.2)

  named-holds : (b : Block) → Names b.number → named p b ≡ true
  unfolding named
  named-holds b (by-block c m q) =
      or_left (any_pass (λ o. eqb b.number o.number) p.blocks) _ (any-holds (λ o. eqb b.number o.number) c m (eq-eqb b.number c.number q))
  named-holds b (by-vote a m q) =
      or_right (any_pass (λ o. eqb b.number o.number) p.blocks) _ (any-holds (λ o. eqb b.number o.number) a m (eq-eqb b.number a.number q))

  names-known : (x : ℕ) → Names x → Known (entries R) x
  names-known x (by-block c m q) = let k = blocks-known c m in (k.0, k.1, k.2 ∙ sym q)
  names-known x (by-vote a m q) = let k = votes-known a m in (k.0, k.1, k.2 ∙ sym q)

  stood-true : (b : Block) → stood_on (entries R) p b ≡ true → (x : ℕ) × Names x × Above (entries R) b.number x
  unfolding stood_on
  stood-true b e = go (either (any_pass (λ c. at_or_above (entries R) c.number b.number) p.blocks) _ e)
    where
      go : (any_pass (λ c. at_or_above (entries R) c.number b.number) p.blocks ≡ true) ⊎ (any_pass (λ a. at_or_above (entries R) a.number b.number) p.votes ≡ true)
          → (x : ℕ) × Names x × Above (entries R) b.number x
      go (inl h) =
          let r = any-true (λ c. at_or_above (entries R) c.number b.number) p.blocks h in
          (r.0.number, by-block r.0 r.1 refl, above-true S r.0.number b.number r.2)
      go (inr h) =
          let r = any-true (λ a. at_or_above (entries R) a.number b.number) p.votes h in
          (r.0.number, by-vote r.0 r.1 refl, above-true S r.0.number b.number r.2)

  stood-holds : (b : Block) (x : ℕ) → Names x → Above (entries R) b.number x → stood_on (entries R) p b ≡ true
  unfolding stood_on
  stood-holds b x (by-block c m q) r =
      or_left (any_pass (λ o. at_or_above (entries R) o.number b.number) p.blocks) _
      (any-holds (λ o. at_or_above (entries R) o.number b.number) c m (above_holds S (above-cast q r)))
  stood-holds b x (by-vote a m q) r =
      or_right (any_pass (λ o. at_or_above (entries R) o.number b.number) p.blocks) _
      (any-holds (λ o. at_or_above (entries R) o.number b.number) a m (above_holds S (above-cast q r)))

  abbrev direct : List (Marked Block)
  direct = view (named p) R

  abbrev under : Block → Bool
  under b = any_pass (λ c. at_or_above (entries R) c.number b.number) (view_of direct)

  -- a row that waits comes into view by the one test if and only if it does by the other
  agree : (m : Marked Block) → Memᴰ m R → m.viewed ≡ false → (named p m.entry || under m.entry) ≡ stood_on (entries R) p m.entry
  agree m n w = same_test _ _ (λ e. to (either (named p b) (under b) e)) from
    where
      b : Block
      b = m.entry

      -- nothing in view stood on it before
      fresh : (d : Block) → In d (view_of R) → Above (entries R) b.number d.number → ⊥
      fresh d k r =
          let o = down R O C (d, k, refl) r in
          let q : o.0 ≡ b = S.unique o.0 b (view-stored R o.0 o.1) (entry_in m n) o.2 in
          clashing (viewed-row R (ordered-apart R O) m n (rw q at o.1)) w

      old : (d : Block) → In d (view_of R) ⊎ (In d (entries R) × (named p d ≡ true)) → Above (entries R) b.number d.number → stood_on (entries R) p b ≡ true
      old d (inl k) r = absurd (fresh d k r)
      old d (inr k) r = stood-holds b d.number (named-true d k.1) r

      to : (named p b ≡ true) ⊎ (under b ≡ true) → stood_on (entries R) p b ≡ true
      to (inl e) = stood-holds b b.number (named-true b e) (here refl)
      to (inr e) =
          let r = any-true (λ c. at_or_above (entries R) c.number b.number) (view_of direct) e in
          old r.0 (viewing-from (named p) R r.0 r.1) (above-true S r.0.number b.number r.2)

      from : stood_on (entries R) p b ≡ true → (named p b || under b) ≡ true
      from e =
          let r = stood-true b e in
          let k = names-known r.0 r.1 in
          or_right (named p b) (under b)
          (any-holds (λ c. at_or_above (entries R) c.number b.number) k.0
          (viewing-viewed-at-once (named p) R k.0 k.1 (named-holds k.0 (rw k.2 r.1))) (above_holds S (above-cast (sym k.2) r.2)))

  pub proposal-viewed : view_ancestors direct ≡ view (λ b. stood_on (entries R) p b) R
  unfolding view_ancestors
  proposal-viewed =
      ap (λ (bs : List Block). view (λ b. any_pass (λ c. at_or_above bs c.number b.number) (view_of direct)) direct) (entries-viewing (named p) R)
      ∙ viewing-both (named p) under R ∙ viewing-agree (λ b. named p b || under b) (λ b. stood_on (entries R) p b) R agree
