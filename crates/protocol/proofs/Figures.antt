-- The figures of Fit are what Receive and then a wide Write find: the tests are Receive's but for the places, and the gossip of the store after
-- it has the bytes that were added up. Assumes nothing.
use Prim.Native.Nat.{ℕ, ◌+◌, ◌-◌, ◌≤◌}
use mathlib.Core.Path.{◌≡◌, refl, sym, ap, ◌∙◌}
use mathlib.Core.Bool.{Bool, true, false, not, ◌||◌, false≢true}
use mathlib.Core.List.{List, [], ◌∷◌, ◌++◌}
use native.Mathlib.Omega.{arith}
use lib.Dec.{eqb, ltb}
use lib.ListN.{length, length-append}
use borrow.Author.Tests.{le-ltb, not-true}
use Rattle.protocol.specs.declared.Settings.{Settings}
use Rattle.protocol.specs.declared.Profile.{Profile}
use Rattle.protocol.specs.declared.Width.TheVariants.{Wide}
use Rattle.protocol.specs.Entry.{Block}
use Rattle.protocol.specs.Lists.{all_pass, passing}
use Rattle.protocol.specs.Limits.{limits_of, keeping_to}
use Rattle.protocol.specs.Store.{entries, kept_from, Places, Node}
use Rattle.protocol.specs.Sound.{settings_sound, places_sound}
use Rattle.protocol.specs.Packet.{Packet, packet_of}
use Rattle.protocol.specs.Refusal.{Refusal, refusal_number, test, Verdict, pass, refuse, first, refused, done, unless, answer_unless}
use Rattle.protocol.specs.Calls.Receive.{blocks_after, votes_after, viewed_at_once, receive_tests, receive_answer, receive_into, receive}
use Rattle.protocol.specs.Calls.Write.{after_genesis, gossip_of, sent_of, packet_out, too_wide, write_unless, write}
use Rattle.protocol.specs.Calls.Fit.{packet_tests, Figures, figures_of, fit_query}
use Rattle.protocol.specs.Removal.{others}
use Rattle.protocol.specs.Figures.{in_place_of_ten, figures_in, receive_then_write, FiguresFound}
use Rattle.protocol.proofs.Packet.Bytes.{packet-length}
use Rattle.protocol.proofs.Store.Sound.{IsSound, sound-true, sound-holds, sound-keeping-to}
use Rattle.protocol.proofs.Store.Views.{length-entries}
use Rattle.protocol.proofs.Calls.Passed.{receives}
use Rattle.protocol.proofs.Calls.Received.{blocks-stored, votes-stored, blocks_new, votes_new, counts-blocks, counts-votes}
use Rattle.protocol.proofs.Calls.Receive.{receive-sound}
use Rattle.protocol.proofs.Calls.Refusal.{first-pass, first-refuse, refuse-true, refused-has}
use Rattle.protocol.proofs.Calls.Write.{write-verdict}

-- block 0 is left out
after-genesis : (bs : List Block) → length (after_genesis bs) ≡ length bs - 1
unfolding after_genesis
after-genesis [] = refl
after-genesis (b ∷ bs) = omega arith

module _ (s : Settings) (pl : Places) (x : Node) (beat : ℕ) (bytes : List ℕ) where
  abbrev p : Packet
  p = packet_of bytes

  abbrev from : ℕ
  from = kept_from s x.clock.merged

  abbrev f : Figures
  f = figures_of from x p

  -- the last test of Receive is that of the places
  places-last : (s' : Settings) (pl' : Places) → let last = kept_from s' x.clock.merged in receive_tests s' pl' x beat bytes
      ≡ packet_tests s' pl' x beat bytes ++ (test 10 (ltb pl'.blocks (length (blocks_after x p)) || ltb pl'.votes (length (votes_after last x p))) ∷ [])
  unfolding receive_tests packet_tests
  places-last s' pl' = refl

  -- ---- on its own tables

  -- no test but that of the places refuses by 10
  not-ten : (v : Verdict) → first (packet_tests s pl x beat bytes) ≡ v → answer_unless v f ≡ in_place_of_ten f (receive s pl x beat bytes).answer
  unfolding answer_unless in_place_of_ten receive unless first
  not-ten (refuse k) e =
      let other : eqb (refusal_number k) 10 ≡ false
      = not-true _ (refused-has (λ r. not (eqb (refusal_number r) 10)) (packet_tests s pl x beat bytes) k (unfold packet_tests all_pass in refl) (refuse-true (packet_tests s pl x beat bytes) k e)) in
      rw (places-last s pl, first-refuse (packet_tests s pl x beat bytes) _ k e, other)
  not-ten pass e = rw (places-last s pl, first-pass (packet_tests s pl x beat bytes) _ e) (go (ltb pl.blocks (length (blocks_after x p)) || ltb pl.votes (length (votes_after from x p))))
    where
      go : (b : Bool) → answer_unless pass f ≡ in_place_of_ten f (unless (first (test 10 b ∷ [])) x (receive_answer from x beat p) (receive_into from (viewed_at_once x beat p) beat x p)).answer
      go true = refl
      go false = refl

  on-own : fit_query s pl x beat bytes ≡ in_place_of_ten f (receive s pl x beat bytes).answer
  unfolding fit_query
  on-own = not-ten (first (packet_tests s pl x beat bytes)) refl

  -- ---- the gossip afterwards

  module _ (some : 1 ≤ length x.blocks) (viewed : Bool) where
    abbrev grown : Node
    grown = receive_into from viewed beat x p

    blocks-counted : length (after_genesis (entries grown.blocks)) ≡ length x.blocks - 1 + f.new_blocks
    unfolding figures_of receive_answer
    blocks-counted =
        omega (
          arith,
          after-genesis (entries grown.blocks),
          ap length (blocks-stored x p viewed beat from),
          length-append (entries x.blocks) (blocks_new x p),
          length-entries x.blocks,
          counts-blocks x p from beat,
        )

    votes-counted : length (entries grown.votes) ≡ length x.votes + f.new_votes
    unfolding figures_of receive_answer
    votes-counted =
        omega (arith, ap length (votes-stored x p viewed beat from), length-append (entries x.votes) (votes_new x p from), length-entries x.votes, counts-votes x p from beat)

    gossip-bytes : length (packet_out false Wide grown) ≡ f.bytes
    unfolding packet_out sent_of gossip_of figures_of
    gossip-bytes = packet-length (gossip_of Wide grown) ∙ rw (blocks-counted, votes-counted)

  -- ---- on other tables, and on none

  module _ (G : IsSound s pl x) where
    some-blocks : 1 ≤ length x.blocks
    some-blocks = omega (arith, ap length G.blocks.is, length-entries x.blocks)

    module _ (profile : Profile) (pl' : Places) (buffer : List ℕ) (settings : settings_sound (keeping_to profile s) ≡ true) (places : places_sound (limits_of profile) pl' ≡ true)
        (alike : (limits_of profile).too_long (length bytes) ≡ (limits_of s.profile).too_long (length bytes))
        (b : length x.blocks + f.new_blocks ≤ pl'.blocks) (v : length x.votes + f.new_votes ≤ pl'.votes) (room : f.bytes ≤ length buffer) where
      abbrev s' : Settings
      s' = keeping_to profile s

      abbrev viewed : Bool
      viewed = viewed_at_once x beat p

      abbrev after : Node
      after = receive_into from viewed beat x p

      good : IsSound s' pl' x
      good = sound-keeping-to G profile pl' settings places (omega arith) (omega arith)

      tests-alike : first (packet_tests s pl x beat bytes) ≡ first (packet_tests s' pl' x beat bytes)
      unfolding packet_tests first
      tests-alike = rw (sound-holds G, sound-holds good, alike)

      enough : first (packet_tests s' pl' x beat bytes) ≡ pass → first (receive_tests s' pl' x beat bytes) ≡ pass
      unfolding first figures_of
      enough e =
          ap first (places-last s' pl') ∙ first-pass (packet_tests s' pl' x beat bytes) _ e
          ∙ rw (le-ltb pl'.blocks (length (blocks_after x p)) (omega (arith, b)), le-ltb pl'.votes (length (votes_after from x p)) (omega (arith, v)))

      turned-away : (k : Refusal) → first (packet_tests s' pl' x beat bytes) ≡ refuse k → (receive s' pl' x beat bytes).answer ≡ refused k
      unfolding receive unless
      turned-away k e = rw (places-last s' pl', first-refuse (packet_tests s' pl' x beat bytes) _ k e)

      -- then Receive is carried out, and Write after it
      received : first (packet_tests s' pl' x beat bytes) ≡ pass → receive s' pl' x beat bytes ≡ record { answer = done (receive_answer from x beat p); node = after }
      unfolding receive unless
      received e = rw (enough e)

      written : first (packet_tests s' pl' x beat bytes) ≡ pass → (write s' pl' after false Wide buffer).answer ≡ done f.bytes
      unfolding write write_unless too_wide
      written e =
          let R = receives s' pl' x beat bytes (enough e) in
          let size = gossip-bytes some-blocks viewed in
          let passes = write-verdict s' pl' after false Wide buffer (sound-holds (receive-sound s' pl' x beat bytes R)) (λ q. absurd (false≢true q)) refl in
          rw (passes, size, le-ltb (length buffer) f.bytes room, size)

      on-other : fit_query s pl x beat bytes ≡ receive_then_write s' pl' x beat bytes buffer
      unfolding fit_query answer_unless receive_then_write figures_in receive_answer figures_of
      on-other = rw tests-alike (go (first (packet_tests s' pl' x beat bytes)) refl)
        where
          go : (t : Verdict) → first (packet_tests s' pl' x beat bytes) ≡ t → answer_unless t f ≡ receive_then_write s' pl' x beat bytes buffer
          go (refuse k) e = ap (λ o. figures_in o (write s' pl' (receive s' pl' x beat bytes).node false Wide buffer).answer) (sym (turned-away k e))
          go pass e = rw (received e, written e)

    by-sums : fit_query s pl x beat bytes
        ≡ answer_unless (first (others (receive_tests s pl x beat bytes)))
        (record {
          new_blocks = (receive_answer from x beat p).new_blocks;
          new_votes = (receive_answer from x beat p).new_votes;
          bytes = length (packet_out false Wide (receive_into from (viewed_at_once x beat p) beat x p));
        })
    unfolding fit_query receive_tests packet_tests others passing first receive_answer figures_of
    by-sums = rw (sound-holds G, gossip-bytes some-blocks (viewed_at_once x beat p))

pub figures-found : FiguresFound
unfolding FiguresFound
figures-found s pl x beat bytes = (on-own s pl x beat bytes, λ S. let G = sound-true s pl x S in (on-other s pl x beat bytes G, by-sums s pl x beat bytes G))
