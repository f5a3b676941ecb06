-- The gossip and the proposal of a sound node fit their bytes, and are allowed at a sound node of the same n, if no number names two blocks.
-- Assumes nothing.
use Prim.Native.Nat.{ℕ, ◌/◌, ◌^◌, ◌≤◌, ◌<◌}
use mathlib.Core.Path.{◌≡◌, refl, ap}
use mathlib.Core.Logic.{⊎_elim}
use mathlib.Core.Bool.{Bool, true, false, ◌&&◌, ◌||◌}
use mathlib.Core.List.{List, Memᴰ}
use native.Mathlib.Omega.{arith}
use lib.Dec.{eqb}
use borrow.Author.Tests.{eq-eqb, eqb-true, not-false}
use Rattle.protocol.specs.Entry.{Block}
use Rattle.protocol.specs.declared.Settings.{Settings}
use Rattle.protocol.specs.declared.Width.{Width}
use Rattle.protocol.specs.declared.Width.TheVariants.{Narrow, Wide}
use Rattle.protocol.specs.Lists.{any_pass}
use Rattle.protocol.specs.Words.{upper_of, is_wide}
use Rattle.protocol.specs.Limits.{max_slot}
use Rattle.protocol.specs.Chain.{genesis}
use Rattle.protocol.specs.Store.{entries, view_of, Places, Node}
use Rattle.protocol.specs.Packet.{Packet, header_formed}
use Rattle.protocol.specs.Calls.Receive.{header_allowed}
use Rattle.protocol.specs.Calls.Write.{after_genesis, last_block, bytes_in, kind_of, gossip_of, proposal_of, sent_of, has_wide, too_wide, proposed_now}
use Rattle.protocol.specs.RoundTrip.{NumbersBelow}
use Rattle.protocol.proofs.Basics.Members.{any-holds}
use Rattle.protocol.proofs.Basics.Tests.{both, neither, clashing, not-passes}
use Rattle.protocol.proofs.Chain.Relations.{In}
use Rattle.protocol.proofs.Store.Sound.{IsSound, ranges, places-few, store-sound, slot_seen}
use Rattle.protocol.proofs.Store.Views.{length-entries, view-length, view-stored}
use Rattle.protocol.proofs.Packet.Ranges.{FieldsFit, InRange}
use Rattle.protocol.proofs.Calls.Write.{IsProposer, proposer-true, last-in}
use Rattle.protocol.proofs.Exchange.Acceptance.{Agree, Welcome, welcome}
use Rattle.protocol.proofs.Exchange.Sendable.{store-sendable, view-sendable, sendable-fits, sent-cases}

-- ---- numbers that are not wide

not_wide : (n : ℕ) → is_wide n ≡ false → n < 2 ^ 64
unfolding is_wide upper_of
not_wide n e = let z : n / 2 ^ 64 ≡ 0 = eqb-true (n / 2 ^ 64) 0 (not-false _ e) in omega arith

none_passes : {A : Type 0} (p : A → Bool) {xs : List A} → any_pass p xs ≡ false → (a : A) → Memᴰ a xs → p a ≡ false
none_passes p h a m = not-passes (λ e. clashing (any-holds p a m e) h)

narrow_below : (p : Packet) → has_wide p ≡ false → (b : Block) → In b p.blocks → b.number < 2 ^ 64
unfolding has_wide
narrow_below p h b m =
    let t = neither (any_pass (λ c. is_wide c.number || is_wide c.parent) p.blocks) _ (neither (is_wide p.number) _ h).1 in
    not_wide b.number (neither (is_wide b.number) _ (none_passes (λ c. is_wide c.number || is_wide c.parent) t.0 b m)).0

-- ---- what fits

kind-byte : (proposal : Bool) (width : Width) → kind_of proposal width < 256
kind-byte true Narrow = omega arith
kind-byte false Narrow = omega arith
kind-byte true Wide = omega arith
kind-byte false Wide = omega arith

-- the numbers of these blocks
abbrev pub Below : ℕ → List Block → Type 0
Below m bs = (b : Block) → In b bs → b.number < m

module _ {s : Settings} {pl : Places} {x : Node} (G : IsSound s pl x) where
  -- ---- gossip

  gossip-fits : (w : ℕ) (width : Width) → Below (256 ^ w) (entries x.blocks) → FieldsFit w (gossip_of width x)
  unfolding gossip_of
  gossip-fits w width N =
      let r = places-few s.profile pl G.places in
      sendable-fits (store-sendable G) w (ranges s G.settings).few G.time.limited N (kind_of false width) 0 0 (kind-byte false width) (omega arith)
      (N genesis (store-sound G).start) (omega (arith, length-entries x.blocks, G.fit-blocks)) (omega (arith, length-entries x.votes, G.fit-votes))

  pub gossip-in-range : (width : Width) → Below (256 ^ bytes_in width) (entries x.blocks) → InRange (gossip_of width x)
  unfolding gossip_of header_formed
  gossip-in-range Narrow N = record { fits = gossip-fits 8 Narrow N; header_formed = refl }
  gossip-in-range Wide N = record { fits = gossip-fits 16 Wide N; header_formed = refl }

  -- ---- the proposal

  abbrev tip : Block
  tip = last_block (view_of x.blocks)

  tip-fits : (w : ℕ) → Below (256 ^ w) (view_of x.blocks) → (tip.slot < 2 ^ 32) × (tip.number < 256 ^ w)
  tip-fits w N =
      let root : In genesis (view_of x.blocks) = rw (view-sendable G).root (Memᴰ.head refl) in
      ⊎_elim (λ e. rw e (slotted genesis (store-sound G).start, N genesis root)) (λ m. (slotted tip (view-stored x.blocks tip m), N tip m))
      (last-in (view_of x.blocks))
    where
      slotted : (b : Block) → In b (entries x.blocks) → b.slot < 2 ^ 32
      slotted b m = omega (arith, slot_seen G b m, G.time.limited)

  proposal-fits : (w : ℕ) (width : Width) → Below (256 ^ w) (view_of x.blocks) → FieldsFit w (proposal_of width x)
  unfolding proposal_of
  proposal-fits w width N =
      let r = places-few s.profile pl G.places in
      let f = tip-fits w N in
      sendable-fits (view-sendable G) w (ranges s G.settings).few G.time.limited N (kind_of true width) tip.slot tip.number (kind-byte true width) f.0 f.1
      (omega (arith, view-length x.blocks, G.fit-blocks)) (omega (arith, view-length x.votes, G.fit-votes))

  pub proposal-in-range : (width : Width) → Below (256 ^ bytes_in width) (view_of x.blocks) → InRange (proposal_of width x)
  unfolding proposal_of header_formed
  proposal-in-range Narrow N = record { fits = proposal-fits 8 Narrow N; header_formed = refl }
  proposal-in-range Wide N = record { fits = proposal-fits 16 Wide N; header_formed = refl }

  -- ---- what is not too wide to be written fits

  store_below : (width : Width) → NumbersBelow (2 ^ 128) x → too_wide width (gossip_of width x) ≡ false → Below (256 ^ bytes_in width) (entries x.blocks)
  unfolding NumbersBelow too_wide gossip_of
  store_below Wide N h = N
  store_below Narrow N h = λ b m. ⊎_elim (λ e. rw e (omega arith)) (λ n. narrow_below (gossip_of Narrow x) h b n) (sent-cases (store-sendable G) b m)

  view-below : (width : Width) → NumbersBelow (2 ^ 128) x → too_wide width (proposal_of width x) ≡ false → Below (256 ^ bytes_in width) (view_of x.blocks)
  unfolding NumbersBelow too_wide proposal_of
  view-below Wide N h = λ b m. N b (view-stored x.blocks b m)
  view-below Narrow N h = λ b m. ⊎_elim (λ e. rw e (omega arith)) (λ n. narrow_below (proposal_of Narrow x) h b n) (sent-cases (view-sendable G) b m)

  -- so what is written fits its bytes
  pub sent-in-range : (proposal : Bool) (width : Width) → NumbersBelow (2 ^ 128) x → too_wide width (sent_of proposal width x) ≡ false → InRange (sent_of proposal width x)
  unfolding sent_of
  sent-in-range false width N h = gossip-in-range width (store_below width N h)
  sent-in-range true width N h = proposal-in-range width (view-below width N h)

  module _ (now : proposed_now s x ≡ true) where
    tip-in : In tip (after_genesis (view_of x.blocks))
    tip-in = ⊎_elim (λ e. absurd (late e)) (λ m. ⊎_elim (λ e. absurd (late e)) (λ n. n) (sent-cases (view-sendable G) tip m)) (last-in (view_of x.blocks))
      where
        r : IsProposer s x
        r = proposer-true s x now

        late : tip ≡ genesis → ⊥
        late e = omega (arith, ap (λ o. o.slot) e, r.last, r.now, r.phase, G.time.merged-done)

    in-header : any_pass (λ b. eqb b.number tip.number && eqb b.slot tip.slot) (after_genesis (view_of x.blocks)) ≡ true
    in-header =
        any-holds (λ b. eqb b.number tip.number && eqb b.slot tip.slot) tip tip-in
        (both (eq-eqb tip.number tip.number refl) (eq-eqb tip.slot tip.slot refl))

    pub proposal-header : (width : Width) → header_allowed (proposal_of width x) ≡ true
    unfolding header_allowed proposal_of
    proposal-header Narrow = in-header
    proposal-header Wide = in-header

-- ---- given to another node

module _ {s : Settings} {pl : Places} {x : Node} (G : IsSound s pl x) {s' : Settings} {pl' : Places} {y : Node} (R : IsSound s' pl' y) (same : s'.nodes ≡ s.nodes)
    (beat : ℕ) (after-x : x.clock.seen ≤ beat) (after-y : y.clock.seen ≤ beat) (last : beat / 3 ≤ max_slot)
    (A : Agree (entries y.blocks) (entries x.blocks)) where
  pub gossip-welcome : (width : Width) → Welcome s.nodes (beat / 3) y (entries x.blocks) (gossip_of width x)
  unfolding gossip_of header_allowed
  gossip-welcome Narrow = welcome (store-sendable G) (beat / 3) (omega arith) y (store-sound R) A 0 0 0 refl
  gossip-welcome Wide = welcome (store-sendable G) (beat / 3) (omega arith) y (store-sound R) A 2 0 0 refl

  module _ (now : proposed_now s x ≡ true) where
    pub proposal-welcome : (width : Width) → Welcome s.nodes (beat / 3) y (view_of x.blocks) (proposal_of width x)
    unfolding proposal_of
    proposal-welcome width =
        welcome (view-sendable G) (beat / 3) (omega arith) y (store-sound R) (λ c d m n. A c d m (view-stored x.blocks d n))
        (kind_of true width) (last_block (view_of x.blocks)).slot (last_block (view_of x.blocks)).number (proposal-header G now width)
