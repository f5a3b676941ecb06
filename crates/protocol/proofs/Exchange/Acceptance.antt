-- A packet in the order of a table is allowed at a sound node, where a number names one block, and is refused only for want of places.
-- Assumes nothing.
use Prim.Native.Nat.{ℕ, ◌/◌, ◌≤◌}
use mathlib.Core.Path.{◌≡◌, refl, sym, ap}
use mathlib.Core.Logic.{◌⊎◌, inl, inr, ⊎_elim, ⊎_map}
use mathlib.Core.Bool.{Bool, true, false, ◌||◌, cond}
use mathlib.Core.List.Memᴰ
use mathlib.Core.List.{List, [], ◌∷◌, ◌++◌}
use native.Mathlib.Omega.{arith}
use lib.Dec.{ltb}
use lib.ListN.{length}
use borrow.Author.Tests.{lt-ltb, le-leb, le-ltb}
use Rattle.protocol.specs.Entry.{Block, Vote}
use Rattle.protocol.specs.declared.Settings.{Settings}
use Rattle.protocol.specs.Limits.{max_slot, limits_of}
use Rattle.protocol.specs.Chain.{genesis, Lookup, found, missing, find, found_with}
use Rattle.protocol.specs.Store.{entries, kept_from, Places, Node}
use Rattle.protocol.specs.Sound.{in_range, sound}
use Rattle.protocol.specs.Packet.{Packet, packet_of, well_formed}
use Rattle.protocol.specs.Refusal.{by, first, done, pass, refuse, unless}
use Rattle.protocol.specs.Calls.Receive.{known_as, add_block, add_blocks, block_allowed, first_bad_block, blocks_after, votes_after, header_allowed, viewed_at_once, receive_answer, receive_into, receive_tests, receive}
use Rattle.protocol.specs.Calls.Fit.{packet_tests}
use Rattle.protocol.specs.Calls.Write.{after_genesis}
use Rattle.protocol.proofs.Basics.Tests.{both, and_left, and_right}
use Rattle.protocol.proofs.Chain.Find.{find-in}
use Rattle.protocol.proofs.Chain.Relations.{In, Sound}
use Rattle.protocol.proofs.Filters.Relations.{Cast}
use Rattle.protocol.proofs.Store.FirstBad.{cons-all, allowed-votes, Allowed}
use Rattle.protocol.proofs.Store.Growth.{Added, added-blocks}
use Rattle.protocol.proofs.Store.New.{blocks-keep, blocks-cases}
use Rattle.protocol.proofs.Store.Sound.{VoteSound, vote-holds, vote-later}
use Rattle.protocol.proofs.Store.Follow.{block_follows, all_follow, Follows, follows-true, found-holds}
use Rattle.protocol.proofs.Store.Views.{same_block_lem}
use Rattle.protocol.proofs.Exchange.Sendable.{Sendable, sending, sendable-sound, sent-in, sent-cases}

-- F: blocks among which a number names one block
module _ (F : Block → Type 0) (one : (c d : Block) → F c → F d → c.number ≡ d.number → c ≡ d) (slot later : ℕ) (l : slot ≤ later) where
  block-allowed : (e known : List Block) → ((c : Block) → In c e → In c known) → ((c : Block) → In c known → F c) → (b : Block) → F b → Follows slot e b → block_allowed later known b ≡ true
  unfolding block_allowed in_range known_as
  block-allowed e known f g b h w =
      let p = w.on in
      let k : found_with (λ q. ltb q.slot b.slot) (find known b.parent) ≡ true =
      rw (sym p.2) (found-holds (λ q. ltb q.slot b.slot) known p.0 (f p.0 p.1)
      (λ d m q. lt-ltb d.slot b.slot (rw (ap (λ o. o.slot) (one d p.0 (g d m) (g p.0 (f p.0 p.1)) q)) p.3))) in
      both (both (le-leb 1 b.slot (omega (arith, p.3))) (le-leb b.slot later (omega (arith, w.early))))
      (both k (same (find known b.number) refl))
    where
      same : (o : Lookup) → find known b.number ≡ o → known_as b o ≡ true
      same missing q = refl
      same (found c) q = let i = find-in known b.number c q in same_block_lem c b (one c b (g c i.0) h i.1)

  -- b is known afterwards, and nothing else is new
  add-has : (known : List Block) (b : Block) → ((c : Block) → In c known → F c) → F b → In b (add_block known b)
  unfolding add_block found_with
  add-has known b g h = go (find known b.number) refl
    where
      go : (o : Lookup) → find known b.number ≡ o → In b (cond (found_with (λ c. true) o) known (known ++ (b ∷ [])))
      go missing q = Memᴰ.append_right known (Memᴰ.head refl)
      go (found c) q = let i = find-in known b.number c q in rw (sym (one c b (g c i.0) h i.1)) i.0

  add-keeps : (known : List Block) (b : Block) (t : Bool) (c : Block) → In c known → In c (cond t known (known ++ (b ∷ [])))
  add-keeps known b true c m = m
  add-keeps known b false c m = Memᴰ.append_left (b ∷ []) m

  add-from : (known : List Block) (b : Block) (t : Bool) → ((c : Block) → In c known → F c) → F b → (c : Block) → In c (cond t known (known ++ (b ∷ []))) → F c
  add-from known b true g h c m = g c m
  add-from known b false g h c m = ⊎_elim (g c) (λ n. let q : c ≡ b = Memᴰ.eq_of_singleton n in rw q h) (Memᴰ.append_cases known m)

  blocks-allowed : (e known bs : List Block) → ((c : Block) → In c e → In c known) → ((c : Block) → In c known → F c) → ((c : Block) → In c bs → F c)
      → all_follow slot e bs ≡ true → first_bad_block later known bs ≡ length bs
  unfolding all_follow first_bad_block add_block
  blocks-allowed e known [] f g h w = refl
  blocks-allowed e known (b ∷ bs) f g h w =
      cons-all (block-allowed e known f g b (h b (Memᴰ.head refl)) (follows-true slot e b (and_left (block_follows slot e b) _ w)))
      (blocks-allowed (e ++ (b ∷ [])) (add_block known b) bs (λ c m. go c (Memᴰ.append_cases e m))
      (λ c m. add-from known b (found_with (λ o. true) (find known b.number)) g (h b (Memᴰ.head refl)) c m)
      (λ c m. h c (Memᴰ.tail m)) (and_right (block_follows slot e b) _ w))
    where
      go : (c : Block) → In c e ⊎ In c (b ∷ []) → In c (add_block known b)
      go c (inl m) = add-keeps known b (found_with (λ o. true) (find known b.number)) c (f c m)
      go c (inr m) = rw (Memᴰ.eq_of_singleton m) (add-has known b g (h b (Memᴰ.head refl)))

  -- the whole packet: its blocks follow block 0, its votes are for these, and its header is right
  pub packet-allowed : (n : ℕ) (x : Node) (p : Packet) → Sound (entries x.blocks) → ((c : Block) → In c (entries x.blocks) → F c)
      → ((c : Block) → In c p.blocks → F c) → all_follow slot (genesis ∷ []) p.blocks ≡ true
      → ((a : Vote) → Cast a p.votes → VoteSound n slot (genesis ∷ p.blocks) a) → header_allowed p ≡ true → Allowed n later x p
  unfolding blocks_after
  packet-allowed n x p S g h w v hd =
      record {
        blocks = ok;
        votes =
            allowed-votes n later (add_blocks (entries x.blocks) p.blocks) p.votes
            (λ a m. vote-holds n later (add_blocks (entries x.blocks) p.blocks) a (λ c d k o q. one c d (all c k) (all d o) q) (vote-later l has (v a m)));
        header = hd;
      }
    where
      ok : first_bad_block later (entries x.blocks) p.blocks ≡ length p.blocks
      ok = blocks-allowed (genesis ∷ []) (entries x.blocks) p.blocks (λ c m. rw (Memᴰ.eq_of_singleton m) S.start) g h w

      A : Added later (entries x.blocks) p.blocks
      A = added-blocks later (entries x.blocks) p.blocks S ok

      all : (c : Block) → In c (add_blocks (entries x.blocks) p.blocks) → F c
      all c m = ⊎_elim (g c) (h c) (blocks-cases (entries x.blocks) p.blocks c m)

      has : (c : Block) → In c (genesis ∷ p.blocks) → In c (add_blocks (entries x.blocks) p.blocks)
      has c m = ⊎_elim (λ q. rw q (blocks-keep (entries x.blocks) p.blocks genesis S.start)) (A.has c) (Memᴰ.cases_cons m)

-- ---- a packet that meets all the rules is refused only if it is too long, or for want of places

abbrev pub lacking : Settings → Places → Node → Packet → Bool
lacking s pl y p = ltb pl.blocks (length (blocks_after y p)) || ltb pl.votes (length (votes_after (kept_from s y.clock.merged) y p))

module _ (s : Settings) (pl : Places) (y : Node) (beat : ℕ) (bytes : List ℕ) (p : Packet)
    (e : packet_of bytes ≡ p) (S : sound s pl y ≡ true) (l : y.clock.seen ≤ beat) (m : beat / 3 ≤ max_slot) (W : well_formed bytes ≡ true)
    (A : Allowed s.nodes (beat / 3) y p) where
  pub verdict : first (receive_tests s pl y beat bytes)
      ≡ cond ((limits_of s.profile).too_long (length bytes)) (refuse (by 24)) (cond (lacking s pl y p) (refuse (by 10)) pass)
  unfolding receive_tests packet_tests first
  verdict = rw (e, S, le-ltb beat y.clock.seen l, le-ltb max_slot (beat / 3) m, W, A.blocks, A.votes, A.header, le-ltb (length p.blocks) (length p.blocks) (omega arith), le-ltb (length p.votes) (length p.votes) (omega arith))

  pub accepted : (limits_of s.profile).too_long (length bytes) ≡ false → length (blocks_after y p) ≤ pl.blocks → length (votes_after (kept_from s y.clock.merged) y p) ≤ pl.votes
      → receive s pl y beat bytes ≡ record {
        answer = done (receive_answer (kept_from s y.clock.merged) y beat p);
        node = receive_into (kept_from s y.clock.merged) (viewed_at_once y beat p) beat y p;
      }
  unfolding receive unless
  accepted short b v = rw (verdict, short, le-ltb pl.blocks (length (blocks_after y p)) b, le-ltb pl.votes (length (votes_after (kept_from s y.clock.merged) y p)) v, e)

-- ---- what can be sent, at a node that knows no other block by one of its numbers

-- no number names two blocks
abbrev pub Agree : List Block → List Block → Type 0
Agree xs ys = (c d : Block) → In c xs → In d ys → c.number ≡ d.number → c ≡ d

-- the packet is allowed, and afterwards the store has the blocks of both
pub record Welcome (n slot : ℕ) (y : Node) (bs : List Block) (p : Packet) : Type 0 where
  pub allowed : Allowed n slot y p
  pub old : (c : Block) → In c (entries y.blocks) → In c (blocks_after y p)
  pub new : (c : Block) → In c bs → In c (blocks_after y p)
  pub only : (c : Block) → In c (blocks_after y p) → In c (entries y.blocks) ⊎ In c bs

module _ {n slot : ℕ} {bs : List Block} {vs : List Vote} (D : Sendable n slot bs vs) (later : ℕ) (l : slot ≤ later)
    (y : Node) (S : Sound (entries y.blocks)) (A : Agree (entries y.blocks) bs) where
  one-block : (c d : Block) → In c (entries y.blocks) ⊎ In c bs → In d (entries y.blocks) ⊎ In d bs → c.number ≡ d.number → c ≡ d
  one-block c d (inl m) (inl k) q = S.unique c d m k q
  one-block c d (inl m) (inr k) q = A c d m k q
  one-block c d (inr m) (inl k) q = sym (A d c k m (sym q))
  one-block c d (inr m) (inr k) q = (sendable-sound D).unique c d m k q

  pub welcome : (kind t number : ℕ) → header_allowed (sending kind t number bs vs) ≡ true → Welcome n later y bs (sending kind t number bs vs)
  unfolding blocks_after
  welcome kind t number h =
      let p = sending kind t number bs vs in
      let ok = packet-allowed (λ c. In c (entries y.blocks) ⊎ In c bs) one-block slot later l n y p S (λ c m. inl m) (λ c m. inr (sent-in D c m)) D.follow
      (λ a m. rw D.root at (D.votes a m)) h in
      let N = added-blocks later (entries y.blocks) (after_genesis bs) S ok.blocks in
      record {
        allowed = ok;
        old = blocks-keep (entries y.blocks) (after_genesis bs);
        new = λ c m. ⊎_elim (λ q. rw q (blocks-keep (entries y.blocks) (after_genesis bs) genesis S.start)) (N.has c) (sent-cases D c m);
        only = λ c m. ⊎_map (λ k. k) (sent-in D c) (blocks-cases (entries y.blocks) (after_genesis bs) c m);
      }
