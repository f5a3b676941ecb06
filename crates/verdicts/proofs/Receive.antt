-- A packet's tests by what code computes: the first bad entries; and then the places counted. Assumes nothing.
use Prim.Native.Nat.{ℕ, ◌+◌, ◌-◌, ◌/◌, ◌<◌, ◌≤◌}
use mathlib.Core.Path.{◌≡◌, sym, ap, ◌∙◌}
use mathlib.Core.Bool.{Bool, true, false, not, ◌||◌}
use mathlib.Core.List.{List, [], ◌∷◌}
use native.Mathlib.Omega.{arith}
use lib.Dec.{ltb}
use lib.ListN.{length}
use Rattle.std.specs.Prelude.{Result, Ok, Err, IfErr}
use Rattle.std.proofs.lemmas.Result.{IfErr-at_err}
use Rattle.admission.specs.Lookup.{bad_of}
use borrow.Author.Tests.{lt-ltb, le-ltb}
use Rattle.protocol.specs.declared.Settings.{Settings}
use Rattle.protocol.specs.Entry.{Block}
use Rattle.protocol.specs.Limits.{limits_of}
use Rattle.protocol.specs.Store.{entries, kept_from}
use Rattle.protocol.specs.Packet.{packet_of, well_formed}
use Rattle.protocol.specs.Refusal as rules
use Rattle.protocol.specs.Refusal.{by, by_entry, test, test_section, pass, refuse, first}
use Rattle.protocol.specs.Calls.Receive.{add_blocks, add_since, header_allowed, first_bad_block, first_bad_vote, blocks_after, votes_after, receive_tests}
use Rattle.protocol.specs.Calls.Fit.{packet_tests}
use Rattle.protocol.specs.Lent.{block_words, vote_words, Lent, rows_of, make_block, make_vote, places_in, places_of, node_of}
use Rattle.verdicts.specs.declared.NewCounts.{NewCounts}
use Rattle.verdicts.specs.declared.Refusal.{Refusal}
use Rattle.verdicts.specs.declared.Refusal.TheVariants.{BadBlock, BadVote}
use Rattle.verdicts.specs.Verdict.{refusal_of, verdict_of}
use Rattle.verdicts.specs.Counted.{CountsNew}
use Rattle.verdicts.specs.Lent.{lent_verdict, beat_tests}
use Rattle.verdicts.proofs.Passed.{Ready, passed-ready}
use Rattle.verdicts.proofs.Sequence.{passed-before, packet-front, receive-front}

module _ (s : Settings) (m : Lent) (beat : ℕ) (bytes : List ℕ) where
  abbrev blocks : List Block
  blocks = entries (rows_of make_block m.blocks m.blocks_used)

  abbrev bad_block : ℕ
  bad_block = first_bad_block (beat / 3) blocks (packet_of bytes).blocks

  abbrev bad_vote : ℕ
  bad_vote = first_bad_vote s.nodes (beat / 3) (add_blocks blocks (packet_of bytes).blocks) (packet_of bytes).votes

  -- how many entries the packet has
  abbrev blocks-in : ℕ
  blocks-in = length (packet_of bytes).blocks

  abbrev votes-in : ℕ
  votes-in = length (packet_of bytes).votes

  -- how many entries there will be
  abbrev block_count : ℕ
  block_count = length (add_blocks blocks (packet_of bytes).blocks)

  -- votes, of slot `from` and later
  abbrev votes_since : ℕ → ℕ
  votes_since from = length (add_since from (entries (rows_of make_vote m.votes m.votes_used)) (packet_of bytes).votes)

  abbrev decided : rules.Verdict
  decided = lent_verdict s (λ p x. packet_tests s p x beat bytes) m

  -- the test of the header, which was found u, is left
  abbrev pub Left : Bool → Type 0
  Left u = decided ≡ first (test 21 (not u) ∷ [])

  -- what code knows: the tests of every call with a beat passed; then its answers l, t, i, j
  module _ {A : Type 0} {v : Result A Refusal} {o : A} (told : verdict_of v ≡ lent_verdict s (beat_tests s beat) m) (is : v ≡ Ok o) {l : Bool} (long : l ≡ (limits_of s.profile).too_long (length bytes)) where
    rest : decided
        ≡ first (
        test 24 l
        ∷ test 8 (not (well_formed bytes))
        ∷ test_section 9 bad_block (packet_of bytes).blocks
        ∷ test_section 20 bad_vote (packet_of bytes).votes
        ∷ test 21 (not (header_allowed (packet_of bytes)))
        ∷ []
        )
    unfolding packet_tests blocks_after node_of
    rest = passed-before s (beat_tests s beat) (λ p x. packet_tests s p x beat bytes) m 2 (packet-front s beat bytes) told is ∙ rw (sym long)

    pub too_long_lem : l ≡ true → refuse (by 24) ≡ decided
    too_long_lem e = sym (rest ∙ unfold first in (rw e))

    module _ (short : l ≡ false) {t : Bool} (t-formed : t ≡ well_formed bytes) where
      pub misformed : t ≡ false → refuse (by 8) ≡ decided
      misformed e = sym (rest ∙ unfold first in (rw (short, sym t-formed ∙ e)))

      module _ (formed : t ≡ true) where
        block-stops : {i : ℕ} → bad_block ≡ i → i < blocks-in → refuse (by_entry 9 i) ≡ decided
        block-stops {i} e h = sym (rest ∙ unfold first in (rw (short, sym t-formed ∙ formed, e, lt-ltb i blocks-in h)))

        module _ (good : bad_block ≡ blocks-in) where
          vote-stops : {i : ℕ} → bad_vote ≡ i → i < votes-in → refuse (by_entry 20 i) ≡ decided
          vote-stops {i} e h =
              sym (rest ∙ unfold first in (rw (short, sym t-formed ∙ formed, good, le-ltb blocks-in blocks-in (omega arith), e, lt-ltb i votes-in h)))

          votes-pass : bad_vote ≡ votes-in → {u : Bool} → u ≡ header_allowed (packet_of bytes) → Left u
          votes-pass e g =
              rest ∙ unfold first in (rw (short, sym t-formed ∙ formed, good, le-ltb blocks-in blocks-in (omega arith), e, le-ltb votes-in votes-in (omega arith), sym g))

        -- r tells of the blocks, then q of the votes
        module _ {N : Type 0} (r : Result N ℕ) (bad : bad_of blocks-in r ≡ bad_block) where
          pub block_refused : IfErr r (λ i. i < blocks-in) → {k : Refusal} → (i : ℕ) × (r ≡ Err i) × (k ≡ BadBlock i) → refuse (refusal_of k) ≡ decided
          block_refused within x = rw x.2 (block-stops (sym bad ∙ ap (bad_of blocks-in) x.1) (IfErr-at_err (λ i. i < blocks-in) x.1 within))

          module _ {n : N} (good : r ≡ Ok n) {V : Type 0} (q : Result V ℕ) (bad-vote : bad_of votes-in q ≡ bad_vote) where
            pub vote-refused : IfErr q (λ i. i < votes-in) → {k : Refusal} → (i : ℕ) × (q ≡ Err i) × (k ≡ BadVote i) → refuse (refusal_of k) ≡ decided
            vote-refused within x =
                rw x.2 (vote-stops (sym bad ∙ ap (bad_of blocks-in) good) (sym bad-vote ∙ ap (bad_of votes-in) x.1) (IfErr-at_err (λ i. i < votes-in) x.1 within))

            pub entries-passed : {w : V} → q ≡ Ok w → {u : Bool} → u ≡ header_allowed (packet_of bytes) → Left u
            entries-passed e g = votes-pass (sym bad ∙ ap (bad_of blocks-in) good) (sym bad-vote ∙ ap (bad_of votes-in) e) g

  module _ (u : Bool) (left : Left u) where
    pub header_refused : u ≡ false → refuse (by 21) ≡ decided
    header_refused e = sym (left ∙ unfold first in (rw e))

    pub all-passed : u ≡ true → pass ≡ decided
    all-passed e = sym (left ∙ unfold first in (rw e))

  -- ---- the new entries, counted as code counts them

  pub counts-new : {from : ℕ} → from ≡ kept_from s m.clock.merged → {n : NewCounts} → m.blocks_used + n.blocks ≡ block_count → m.votes_used + n.votes ≡ votes_since from
      → CountsNew s m bytes n
  unfolding blocks_after votes_after node_of
  counts-new kept new new-votes = record { blocks = new; votes = new-votes ∙ ap votes_since kept }

  -- ---- Receive: the places

  abbrev received : rules.Verdict
  received = lent_verdict s (λ p x. receive_tests s p x beat bytes) m

  module _ {v : Result NewCounts Refusal} (told : verdict_of v ≡ decided) {n : NewCounts} (is : v ≡ Ok n) where
    pub packet-ready : Ready s m
    packet-ready = passed-ready s (λ p x. packet_tests s p x beat bytes) m told is

    module _ (C : CountsNew s m bytes n) {p : ℕ} (places : p ≡ places_in block_words m.blocks) where
      places-left : received ≡ first (test 10 (ltb p (m.blocks_used + n.blocks) || ltb (places_in vote_words m.votes) (m.votes_used + n.votes)) ∷ [])
      unfolding receive_tests packet_tests places_of node_of
      places-left =
          passed-before s (λ p x. packet_tests s p x beat bytes) (λ p x. receive_tests s p x beat bytes) m 7 (receive-front s beat bytes) told is
          ∙ rw (places, C.blocks, C.votes)

      pub blocks-full : p - m.blocks_used < n.blocks → refuse (by 10) ≡ received
      blocks-full h = sym (places-left ∙ unfold first in (rw (lt-ltb p (m.blocks_used + n.blocks) (omega arith))))

      module _ (fit : n.blocks ≤ p - m.blocks_used) {q : ℕ} (vote-places : q ≡ places_in vote_words m.votes) where
        blocks-fit : ltb p (m.blocks_used + n.blocks) ≡ false
        blocks-fit = le-ltb p (m.blocks_used + n.blocks) (omega (arith, packet-ready.fit-blocks))

        pub votes-full : q - m.votes_used < n.votes → refuse (by 10) ≡ received
        votes-full h = sym (places-left ∙ unfold first in (rw (blocks-fit, sym vote-places, lt-ltb q (m.votes_used + n.votes) (omega arith))))

        pub room : n.votes ≤ q - m.votes_used → pass ≡ received
        room h = sym (places-left ∙ unfold first in (rw (blocks-fit, sym vote-places, le-ltb q (m.votes_used + n.votes) (omega (arith, packet-ready.fit-votes)))))
