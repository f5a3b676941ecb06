-- A fresh node that receives the gossip of a sound node has its store, entry for entry. Assumes nothing.
use Prim.Native.Nat.{ℕ, ◌-◌, ◌/◌}
use mathlib.Core.Path.{◌≡◌, refl, sym, ap, ◌∙◌}
use mathlib.Core.Logic.{◌⊎◌, inl, inr}
use mathlib.Core.Bool.{true, false, not}
use mathlib.Core.List.Memᴰ
use mathlib.Core.List.{List, [], ◌∷◌, ◌++◌}
use native.Mathlib.Nat.{le_refl, zero-sub}
use native.Mathlib.Omega.{arith}
use lib.ListN.{length, take, drop}
use borrow.Author.Tests.{not-true}
use Rattle.protocol.specs.Entry.{Block, Vote}
use Rattle.protocol.specs.declared.Settings.{Settings}
use Rattle.protocol.specs.declared.Width.{Width}
use Rattle.protocol.specs.declared.Width.TheVariants.{Narrow, Wide}
use Rattle.protocol.specs.Lists.{any_pass}
use Rattle.protocol.specs.Chain.{genesis, find, found_with}
use Rattle.protocol.specs.Store.{entries, all_waiting, in_view, same_vote, kept_from, Places, Node, fresh}
use Rattle.protocol.specs.Refusal.{done}
use Rattle.protocol.specs.Calls.Receive.{blocks_after, votes_after, viewed_at_once, receive_answer, receive_into, receive}
use Rattle.protocol.specs.Calls.Write.{after_genesis, gossip_of, sent_of, write}
use Rattle.protocol.specs.RoundTrip.{copy_of, RoundTrip}
use Rattle.protocol.proofs.Basics.Tests.{facts, and_left, and_right, clashing, not-passes}
use Rattle.protocol.proofs.Chain.Relations.{Sound}
use Rattle.protocol.proofs.Filters.Relations.{Cast}
use Rattle.protocol.proofs.Store.Growth.{distinct}
use Rattle.protocol.proofs.Store.New.{new_of, new_blocks_of, new_votes_of, apart}
use Rattle.protocol.proofs.Store.Since.{since-zero}
use Rattle.protocol.proofs.Store.Sound.{IsSound, fresh-sound, store-sound}
use Rattle.protocol.proofs.Store.Follow.{block_follows, all_follow}
use Rattle.protocol.proofs.Basics.Members.{any-true, any-holds}
use Rattle.protocol.proofs.Store.Views.{vote-same, same-vote, viewing-none, length-entries, entries-waiting}
use Rattle.protocol.proofs.Calls.Open.{opened, open-settings, open-places}
use Rattle.protocol.proofs.Calls.Received.{blocks-after, votes-after}
use Rattle.protocol.proofs.Calls.Write.{wrote}
use Rattle.protocol.proofs.Exchange.Acceptance.{Agree}
use Rattle.protocol.proofs.Exchange.Accepted.{Meet, sent-accepted}
use Rattle.protocol.proofs.Exchange.Sendable.{store-sendable}

-- ---- blocks that follow and votes that differ are all new

follow-new : (slot : ℕ) (old bs : List Block) → all_follow slot old bs ≡ true → new_blocks_of old bs ≡ bs
unfolding new_of all_follow
follow-new slot old [] h = refl
follow-new slot old (b ∷ bs) h =
    rw (new (and_left (block_follows slot old b) _ h)) (ap (λ l. b ∷ l) (follow-new slot (old ++ (b ∷ [])) bs (and_right (block_follows slot old b) _ h)))
  where
    new : block_follows slot old b ≡ true → found_with (λ c. true) (find old b.number) ≡ false
    new e = not-true (found_with (λ c. true) (find old b.number)) (unfold block_follows in (search facts))

distinct-new : (old vs : List Vote) → ((a : Vote) → Cast a vs → any_pass (same_vote a) old ≡ false) → distinct vs ≡ true → new_votes_of old vs ≡ vs
unfolding new_of apart
distinct-new old [] h d = refl
distinct-new old (a ∷ vs) h d =
    rw (h a (Memᴰ.head refl))
    (ap (λ l. a ∷ l) (distinct-new (old ++ (a ∷ [])) vs (λ c m. not-passes (λ e. let r = any-true (same_vote c) (old ++ (a ∷ [])) e in apart c m r.0 (Memᴰ.append_cases old r.1) r.2))
    (and_right (not (any_pass (same_vote a) vs)) _ d)))
  where
    apart : (c : Vote) → Cast c vs → (b : Vote) → Cast b old ⊎ Cast b (a ∷ []) → same_vote c b ≡ true → ⊥
    apart c m b (inl k) e = clashing (any-holds (same_vote c) b k e) (h c (Memᴰ.tail m))
    apart c m b (inr k) e =
        clashing (any-holds (same_vote a) c m (same-vote a c (sym (vote-same c b e ∙ Memᴰ.eq_of_singleton k))))
        (not-true (any_pass (same_vote a) vs) (and_left (not (any_pass (same_vote a) vs)) _ d))

-- a fresh node knows block 0 only
fresh-agrees : (bs : List Block) → Sound bs → Agree (entries fresh.blocks) bs
unfolding entries
fresh-agrees bs S c d m k q =
    let e : c ≡ genesis = Memᴰ.eq_of_singleton m in
    e ∙ S.unique genesis d S.start k (ap (λ o. o.number) (sym e) ∙ q)

-- ---- the gossip of a sound node, at any beat from the one seen on

viewed-at-once-none : (beat : ℕ) (width : Width) (x : Node) → viewed_at_once fresh beat (gossip_of width x) ≡ false
unfolding viewed_at_once gossip_of
viewed-at-once-none beat Narrow x = refl
viewed-at-once-none beat Wide x = refl

-- a fresh node has merged nothing, so to it no vote is old
module _ {s : Settings} {pl : Places} {x : Node} (G : IsSound s pl x) (width : Width) (from : ℕ) (z : from ≡ 0) where
  all_blocks : blocks_after fresh (gossip_of width x) ≡ entries x.blocks
  unfolding gossip_of entries
  all_blocks =
      let D = store-sendable G in
      blocks-after fresh (gossip_of width x) ∙ ap (λ l. genesis ∷ l) (follow-new (x.clock.seen / 3) (genesis ∷ []) (after_genesis (entries x.blocks)) D.follow) ∙ sym D.root

  all-votes : votes_after from fresh (gossip_of width x) ≡ entries x.votes
  unfolding gossip_of entries any_pass
  all-votes =
      votes-after fresh (gossip_of width x) from ∙ ap (new_votes_of []) (since-zero from z (entries x.votes))
      ∙ distinct-new [] (entries x.votes) (λ a m. refl) G.apart

  into : receive_into from false x.clock.seen fresh (gossip_of width x) ≡ copy_of x
  unfolding receive_into gossip_of
  into =
      let b = viewing-none (λ a. false) (λ a. refl) (in_view genesis ∷ all_waiting (drop 1 (blocks_after fresh (gossip_of width x)))) in
      let c = ap (λ bs. in_view genesis ∷ all_waiting (drop 1 bs)) (all_blocks ∙ (store-sendable G).root) in
      let v = viewing-none (λ a. false) (λ a. refl) (all_waiting (votes_after from fresh (gossip_of width x))) in
      let w = ap all_waiting all-votes in
      λ i. record { blocks = (b ∙ c) i; votes = (v ∙ w) i; clock = (copy_of x).clock }

  gossip-into : receive_into from (viewed_at_once fresh x.clock.seen (gossip_of width x)) x.clock.seen fresh (gossip_of width x) ≡ copy_of x
  gossip-into = ap (λ b. receive_into from b x.clock.seen fresh (gossip_of width x)) (viewed-at-once-none x.clock.seen width x) ∙ into

-- the receiver may have another index, another period and depth, and other places
pub gossip-carries-the-store : RoundTrip
unfolding RoundTrip entries receive_answer sent_of
gossip-carries-the-store s p x N width buffer n e s' p' old o same rb rv short =
    let G = (wrote s p x false width buffer n e).good in
    let beat = x.clock.seen in
    let from = kept_from s' 0 in
    let z : from ≡ 0 = zero-sub s'.expiry in
    let a : length (blocks_after fresh (gossip_of width x)) ≡ length x.blocks = ap length (all_blocks G width from z) ∙ length-entries x.blocks in
    let c : length (votes_after from fresh (gossip_of width x)) ≡ length x.votes = ap length (all-votes G width from z) ∙ length-entries x.votes in
    let d : length (votes_after from fresh (gossip_of width x)) - 0 ≡ length x.votes = omega arith in
    let M : Meet s x s' p' fresh beat = record {
      numbers = N;
      good = fresh-sound s' p' (open-settings s' p' old o) (open-places s' p' old o);
      nodes = same;
      sender = le_refl beat;
      receiver = omega (arith, G.time.done-seen, G.time.merged-done);
      within = G.time.limited;
      agree = fresh-agrees (entries x.blocks) (store-sound G);
    } in (
      (λ i. receive s' p' (opened s' p' old o i) beat (take n (write s p x false width buffer).buffer))
          ∙ sent-accepted s p x false width buffer n e s' p' fresh beat M short (omega (arith, a, rb)) (omega (arith, c, rv))
          ∙ λ i. record {
            answer = done (record { new_blocks = a i - 1; new_votes = d i; viewed = viewed-at-once-none beat width x i });
            node = gossip-into G width from z i;
          },
      ap {B = List Block} (λ l. genesis ∷ l) (entries-waiting (after_genesis (entries x.blocks))) ∙ sym (store-sendable G).root,
      entries-waiting (entries x.votes),
    )
