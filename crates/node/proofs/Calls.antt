-- Each call that changes the memory, from the verdict that code found and the changes that it made. Assumes nothing.
use Prim.Native.Nat.{ℕ, ◌+◌, ◌-◌, ◌*◌, ◌/◌, ◌≤◌}
use mathlib.Core.Bool.{Bool, true, false, ◌&&◌, cond}
use mathlib.Core.List.{List, [], ◌∷◌, ◌++◌}
use mathlib.Core.Path.{◌≡◌, refl, ap, sym, ◌∙◌, subst}
use native.Mathlib.Nat.{le_of_eq}
use native.Mathlib.Omega.{arith}
use lib.Dec.{leb}
use lib.ListN.{length}
use denote.Ref.{Bor}
use borrow.Author.Tests.{leb-true, eqb-true}
use Rattle.std.specs.Prelude.{Result, Ok, Err}
use Rattle.std.specs.Result.{IsOkAnd, IsErrAnd, MatchResult, result_and}
use Rattle.std.proofs.lemmas.Result.{err_from_is_err_and}
use Rattle.protocol.specs.declared.Number.{Number}
use Rattle.protocol.specs.Words.{value}
use Rattle.protocol.specs.declared.Settings.{Settings}
use Rattle.protocol.specs.Entry.{Block, Vote}
use Rattle.protocol.specs.Lists.{any_pass}
use Rattle.protocol.specs.Walk as walk
use Rattle.protocol.specs.Limits.{loom, limits_of}
use Rattle.protocol.specs.Store.{Marked, entries, view_of, waiting, in_view, view_all, same_vote, kept_from, rows_since, Node}
use Rattle.protocol.specs.Sound.{in_range, places_sound}
use Rattle.protocol.specs.Packet.{Packet, packet_of, is_proposal}
use Rattle.protocol.specs.Refusal as rules
use Rattle.protocol.specs.Refusal.{first, refused, done}
use Rattle.protocol.specs.Calls.Open.{open_tests}
use Rattle.protocol.specs.Calls.Receive.{receive_tests, add_blocks, add_since, blocks_after, votes_after, viewed_at_once, stood_on, receive_answer, receive_into}
use Rattle.protocol.specs.Calls.Propose.{propose_tests, base_of}
use Rattle.protocol.specs.Calls.Vote.{vote_tests, head_of}
use Rattle.protocol.specs.Calls.Merge.{merge_tests}
use Rattle.protocol.specs.Lent.{block_words, vote_words, BlocksFit, VotesFit, Lent, rows_of, stored, make_block, make_vote, block_row, vote_row, places_in, places_of, node_of, lent_sound, emptied, store_node, cleared, LentOutcome}
use Rattle.protocol.proofs.Basics.Tests.{and_left, and_right}
use Rattle.protocol.proofs.Calls.Passed as passed
use Rattle.protocol.proofs.Calls.Passed.{opens}
use Rattle.protocol.proofs.Store.Views.{length-viewing}
use Rattle.protocol.proofs.Lent.Rows.{blocks-fit, block-codec, vote-codec, stored_same, length-rows_of}
use Rattle.storing.specs.Grown.{Holds}
use Rattle.receiving.specs.Accepted.{Accepted, only_blocks, only_votes, only_clock}
use Rattle.receiving.proofs.Node.{receives-accepted}
use Rattle.verdicts.specs.declared.Refusal.{Refusal}
use Rattle.lent.specs.declared.Lent as code
use Rattle.lent.specs.Memory.{memory}
use Rattle.verdicts.specs.Verdict.{refusal_of, verdict_of}
use Rattle.verdicts.specs.Firsts.{FirstsNoted}
use Rattle.verdicts.specs.Lent.{lent, lent_verdict}
use Rattle.verdicts.proofs.Passed.{Ready, passes, said, passed-sound, passed-ready}
use Rattle.verdicts.proofs.Lent.{open-refused, open_done}
use Rattle.verdicts.proofs.Room as places
use Rattle.verdicts.proofs.Room.{receive-room-blocks, receive-few-blocks, receive-room-votes}
use Rattle.verdicts.proofs.Calls.{receive-refused, receive-done, propose-refused, propose-done, vote-refused, vote-done, merge-refused, merge-done}
use Rattle.answers.specs.declared.Call.{Call}
use Rattle.answers.specs.declared.Call.TheVariants as call
use Rattle.answers.specs.declared.Answer.{Answer}
use Rattle.answers.specs.declared.Answer.TheVariants as answer
use Rattle.answers.specs.declared.Received.{Received}
use Rattle.answers.specs.Answers.{Value, nothing_more, received, block, value_of, map_answer}
use Rattle.answers.specs.Promises.{Leaves, seen, Opens, Receives, Proposes, Votes, Merges, Carries}
use Rattle.answers.proofs.Tables.{on-tables}
use Rattle.answers.proofs.Leaves.{left-refused, left-done}
use Rattle.node.proofs.Tables.{store_is, store-grown, length_more, length-received, length-viewed, append-viewed, length-append-viewed}

-- the exit of a `?` returns the refusal e
leaves : {A B : Type 0} {of : A → B} {y : LentOutcome B} {m : Lent} (e : Refusal) (r : Result A Refusal) → IsErrAnd r (λ d. d ≡ e)
    → y ≡ record { answer = refused (refusal_of e); lent = m } → Leaves of y m r
leaves e r x f = let p = err_from_is_err_and r x in rw (p.1, p.2) (left-refused f)

-- ---- what was found on what was lent to be read, L: these settings, and this memory

module _ (L : code.Lent) {s : Settings} {m : Lent} (S : L.settings ≡ s) (M : memory L ≡ m) where
  pub open-told : {v : rules.Verdict} → v ≡ first (open_tests L.settings (places_of (memory L))) → v ≡ first (open_tests s (places_of m))
  open-told h = h ∙ (λ i. first (open_tests (S i) (places_of (M i))))

  pub receive-told : (beat : ℕ) (bytes : List ℕ) {v : rules.Verdict} → v ≡ lent_verdict L.settings (λ p x. receive_tests L.settings p x beat bytes) (memory L)
      → v ≡ lent_verdict s (λ p x. receive_tests s p x beat bytes) m
  receive-told beat bytes h = h ∙ (λ i. lent_verdict (S i) (λ p x. receive_tests (S i) p x beat bytes) (M i))

  pub propose-told : (beat number : ℕ) {v : rules.Verdict} → v ≡ lent_verdict L.settings (λ p x. propose_tests L.settings p x beat number) (memory L)
      → v ≡ lent_verdict s (λ p x. propose_tests s p x beat number) m
  propose-told beat number h = h ∙ (λ i. lent_verdict (S i) (λ p x. propose_tests (S i) p x beat number) (M i))

  pub vote-told : (beat : ℕ) {v : rules.Verdict} → v ≡ lent_verdict L.settings (λ p x. vote_tests L.settings p x beat) (memory L)
      → v ≡ lent_verdict s (λ p x. vote_tests s p x beat) m
  vote-told beat h = h ∙ (λ i. lent_verdict (S i) (λ p x. vote_tests (S i) p x beat) (M i))

  pub merge-told : (beat : ℕ) {v : rules.Verdict} → v ≡ lent_verdict L.settings (λ p x. merge_tests L.settings p x beat) (memory L)
      → v ≡ lent_verdict s (λ p x. merge_tests s p x beat) m
  merge-told beat h = h ∙ (λ i. lent_verdict (S i) (λ p x. merge_tests (S i) p x beat) (M i))

  pub firsts-told : {bytes bf vf : List ℕ} → FirstsNoted L.blocks.now L.blocks_used L.votes.now L.votes_used bytes bf vf
      → FirstsNoted m.blocks m.blocks_used m.votes m.votes_used bytes bf vf
  firsts-told {bytes} {bf} {vf} = subst (λ (x : Lent). FirstsNoted x.blocks x.blocks_used x.votes x.votes_used bytes bf vf) M

  pub sound-told : lent_sound s m ≡ true → lent_sound L.settings (memory L) ≡ true
  sound-told h = (λ i. lent_sound (S i) (M i)) ∙ h

  -- the head and the base were found on tables with these parts, which are L's
  module _ {settings : Settings} {b v : Bor (List ℕ)} {n k : ℕ} (es : settings ≡ L.settings) (eb : b ≡ L.blocks) (en : n ≡ L.blocks_used) (ev : v ≡ L.votes) (ek : k ≡ L.votes_used)
      (t : ℕ) {x : ℕ} where
    pub head-told : x ≡ walk.head_block (view_of (rows_of make_block b.now n)) (view_of (rows_of make_vote v.now k)) settings.nodes settings.expiry t → x ≡ head_of s (node_of m) t
    unfolding head_of node_of
    head-told h =
        on-tables L es eb en ev ek (λ s b n v k. walk.head_block (view_of (rows_of make_block b n)) (view_of (rows_of make_vote v k)) s.nodes s.expiry t) h
        ∙ (λ i. head_of (S i) (node_of (M i)) t)

    pub base-told : x ≡ walk.base_block (entries (rows_of make_block b.now n)) (entries (rows_of make_vote v.now k)) settings.nodes settings.expiry t → x ≡ base_of s (node_of m) t
    unfolding base_of node_of
    base-told h =
        on-tables L es eb en ev ek (λ s b n v k. walk.base_block (entries (rows_of make_block b n)) (entries (rows_of make_vote v k)) s.nodes s.expiry t) h
        ∙ (λ i. base_of (S i) (node_of (M i)) t)

-- ---- Open

module _ (s : Settings) (m : Lent) {v : Result Unit Refusal} (h : verdict_of v ≡ first (open_tests s (places_of m))) where
  pub open-leaves : {e : Refusal} (r : Result Unit Refusal) → v ≡ Err e → IsErrAnd r (λ d. d ≡ e) → Opens s m m r
  open-leaves r e f = leaves _ r f (open-refused s m _ (said (Err _) h e))

  pub open-clears : {x : Lent} → v ≡ Ok tt → x ≡ cleared m → Opens s m x (Ok tt)
  open-clears e k = left-done (open_done s m (said (Ok tt) h e)) k refl

  -- block 0 has a place
  pub open-room : v ≡ Ok tt → BlocksFit 1 m.blocks
  unfolding places_sound in_range places_of
  open-room e =
      let o = (opens s _ (said (Ok tt) h e)).places in
      blocks-fit m.blocks 1 (leb-true 1 (places_in block_words m.blocks) (and_left (leb 1 (places_in block_words m.blocks)) _ (and_left _ (in_range 1 (limits_of s.profile).votes (places_in vote_words m.votes)) o)))

-- ---- Receive

-- a packet that comes into view is of the beat's slot
viewed-slot : (x : Node) (beat : ℕ) (p : Packet) {b : Bool} → b ≡ viewed_at_once x beat p → cond b (beat / 3) x.clock.proposed ≡ cond b p.slot x.clock.proposed
unfolding viewed_at_once
viewed-slot x beat p {b = true} e =
    let q : p.slot * 3 ≡ beat = eqb-true _ _ (and_left _ _ (and_right (is_proposal p.kind) _ (sym e))) in omega arith
viewed-slot x beat p {b = false} e = refl

-- no row is lost
pub blocks-grow : (ws : List ℕ) (n : ℕ) (p : Packet) (viewed : Bool) {ws' : List ℕ} {n' : ℕ}
    → Holds (Marked Block) block_row (receive_into 0 viewed 0 (only_blocks (rows_of make_block ws n)) p).blocks ws ws' n' → n ≤ n'
unfolding receive_into
blocks-grow ws n p viewed h =
    let R = rows_of make_block ws n in
    omega (arith, h.used, length-received (λ b. viewed && stood_on (blocks_after (only_blocks R) p) p b) R (blocks_after (only_blocks R) p), length-rows_of make_block ws n)

pub votes-grow : (from : ℕ) (ws : List ℕ) (n : ℕ) (p : Packet) (viewed : Bool) {ws' : List ℕ} {n' : ℕ}
    → Holds (Marked Vote) vote_row (receive_into from viewed 0 (only_votes (rows_of make_vote ws n)) p).votes ws ws' n' → n ≤ n'
unfolding receive_into
votes-grow from ws n p viewed h =
    let R = rows_of make_vote ws n in
    omega (arith, h.used, length-received (λ a. viewed && any_pass (same_vote a) p.votes) R (votes_after from (only_votes R) p), length-rows_of make_vote ws n)

module _ (s : Settings) (m : Lent) (beat : ℕ) (bytes : List ℕ) {v : Result Unit Refusal} (h : verdict_of v ≡ lent_verdict s (λ p x. receive_tests s p x beat bytes) m) where
  pub receive-ready : v ≡ Ok tt → Ready s m
  receive-ready e = passed-ready s _ m h e

  pub receive-leaves : {e : Refusal} (r : Result Received Refusal) → v ≡ Err e → IsErrAnd r (λ d. d ≡ e) → Receives s m beat bytes m r
  receive-leaves r e f = leaves _ r f (receive-refused s m beat bytes _ (said (Err _) h e))

  tests-passed : v ≡ Ok tt → passed.Receives s (places_of m) (node_of m) beat bytes
  tests-passed e = passed.receives s (places_of m) (node_of m) beat bytes (passes s _ m (said (Ok tt) h e)).1

  pub receive-accepts : v ≡ Ok tt → Accepted (rows_of make_block m.blocks m.blocks_used) (packet_of bytes)
  unfolding node_of
  receive-accepts e = receives-accepted s (places_of m) (node_of m) beat bytes (tests-passed e)

  pub receive-block-room : v ≡ Ok tt → BlocksFit (length (add_blocks (entries (rows_of make_block m.blocks m.blocks_used)) (packet_of bytes).blocks)) m.blocks
  receive-block-room e = receive-room-blocks s m beat bytes (said (Ok tt) h e)

  pub receive-few : v ≡ Ok tt → length (add_blocks (entries (rows_of make_block m.blocks m.blocks_used)) (packet_of bytes).blocks) ≤ loom.blocks
  receive-few e = receive-few-blocks s m beat bytes (said (Ok tt) h e)

  pub receive-vote-room : {from : ℕ} → v ≡ Ok tt → from ≡ kept_from s m.clock.merged → VotesFit (length (add_since from (entries (rows_of make_vote m.votes m.votes_used)) (packet_of bytes).votes)) m.votes
  receive-vote-room e f = rw f (receive-room-votes s m beat bytes (said (Ok tt) h e))

  pub receive-stores : {viewed : Bool} {from proposed : ℕ} {bw vw : List ℕ} {bu vu : ℕ} → v ≡ Ok tt
      → viewed ≡ viewed_at_once (only_clock m.clock) beat (packet_of bytes)
      → from ≡ kept_from s m.clock.merged
      → Holds (Marked Block) block_row (receive_into 0 viewed 0 (only_blocks (rows_of make_block m.blocks m.blocks_used)) (packet_of bytes)).blocks m.blocks bw bu
      → Holds (Marked Vote) vote_row (receive_into from viewed 0 (only_votes (rows_of make_vote m.votes m.votes_used)) (packet_of bytes)).votes m.votes vw vu
      → proposed ≡ cond viewed (beat / 3) m.clock.proposed
      → Receives s m beat bytes (lent bw vw bu vu (record { seen = beat; done = m.clock.done; merged = m.clock.merged; proposed = proposed }))
      (Ok (record { new_blocks = bu - m.blocks_used; new_votes = vu - m.votes_used; viewed = viewed }))
  unfolding receive_answer receive_into viewed_at_once node_of blocks_after votes_after
  receive-stores {viewed} {from} {proposed} {bw} {vw} {bu} {vu} e f g b w c =
      let p = packet_of bytes in
      let R = rows_of make_block m.blocks m.blocks_used in
      let U = rows_of make_vote m.votes m.votes_used in
      let x : Node = receive_into from viewed beat (node_of m) p in
      let store : lent bw vw bu vu (record { seen = beat; done = m.clock.done; merged = m.clock.merged; proposed = proposed }) ≡ store_node x m
      = rw (c, viewed-slot (node_of m) beat p f) (store-grown x m b.words w.words b.used w.used (omega (arith, w.used, votes-grow from m.votes m.votes_used p viewed w))) in
      let nb : bu - m.blocks_used ≡ length (add_blocks (entries R) p.blocks) - length R
      = omega (arith, b.used, length-received (λ o. viewed && stood_on (add_blocks (entries R) p.blocks) p o) R (add_blocks (entries R) p.blocks), length-rows_of make_block m.blocks m.blocks_used) in
      let nv : vu - m.votes_used ≡ length (add_since from (entries U) p.votes) - length U
      = omega (arith, w.used, length-received (λ a. viewed && any_pass (same_vote a) p.votes) U (add_since from (entries U) p.votes), length-rows_of make_vote m.votes m.votes_used) in
      left-done (receive-done s m beat bytes (said (Ok tt) h e)) (store ∙ (λ i. store_node (receive_into (g i) (f i) beat (node_of m) p) m))
      (λ i. record { new_blocks = nb i; new_votes = (nv ∙ ap (λ (o : ℕ). length (add_since o (entries U) p.votes) - length U) g) i; viewed = f i })

-- ---- Propose

module _ (s : Settings) (m : Lent) (beat number : ℕ) {v : Result Unit Refusal} (h : verdict_of v ≡ lent_verdict s (λ p x. propose_tests s p x beat number) m) where
  pub propose-ready : v ≡ Ok tt → Ready s m
  propose-ready e = passed-ready s _ m h e

  pub propose-sound : v ≡ Ok tt → lent_sound s m ≡ true
  propose-sound e = passed-sound s _ m h e

  pub propose-leaves : {e : Refusal} (r : Result Number Refusal) → v ≡ Err e → IsErrAnd r (λ d. d ≡ e) → Proposes s m beat number m r
  propose-leaves r e f = leaves _ r f (propose-refused s m beat number _ (said (Err _) h e))

  pub propose-room : v ≡ Ok tt → BlocksFit (m.blocks_used + 1) m.blocks
  propose-room e = places.propose-room s m beat number (said (Ok tt) h e)

  pub propose-stores : {base : Number} {bu : ℕ} {viewed bw vw : List ℕ} → v ≡ Ok tt
      → value base ≡ base_of s (node_of m) (beat / 3)
      → viewed ≡ stored block_row (view_all (rows_of make_block m.blocks m.blocks_used)) m.blocks
      → bw ≡ stored block_row (rows_of make_block viewed m.blocks_used ++ (in_view (record { number = number; parent = value base; slot = beat / 3 }) ∷ [])) viewed
      → bu ≡ m.blocks_used + 1
      → vw ≡ stored vote_row (view_all (rows_of make_vote m.votes m.votes_used)) m.votes
      → Proposes s m beat number (lent bw vw bu m.votes_used (record { seen = beat; done = beat; merged = m.clock.merged; proposed = beat / 3 })) (Ok base)
  unfolding node_of base_of
  propose-stores {base} e f g b n w =
      let new : Marked Block = in_view (record { number = number; parent = value base; slot = beat / 3 }) in
      left-done (propose-done s m beat number (said (Ok tt) h e))
      (rw (← f) (store-grown _ m (append-viewed block-codec m.blocks m.blocks_used g new b) w
      (n ∙ length-append-viewed block-codec m.blocks m.blocks_used new) (length-viewed vote-codec m.votes m.votes_used) (le_of_eq (length-viewed vote-codec m.votes m.votes_used))))
      f

-- ---- Vote

module _ (s : Settings) (m : Lent) (beat : ℕ) {v : Result Unit Refusal} (h : verdict_of v ≡ lent_verdict s (λ p x. vote_tests s p x beat) m) where
  pub vote-ready : v ≡ Ok tt → Ready s m
  vote-ready e = passed-ready s _ m h e

  pub vote-sound : v ≡ Ok tt → lent_sound s m ≡ true
  vote-sound e = passed-sound s _ m h e

  pub vote-leaves : {e : Refusal} (r : Result Number Refusal) → v ≡ Err e → IsErrAnd r (λ d. d ≡ e) → Votes s m beat m r
  vote-leaves r e f = leaves _ r f (vote-refused s m beat _ (said (Err _) h e))

  pub vote-room : v ≡ Ok tt → VotesFit (m.votes_used + 1) m.votes
  vote-room e = places.vote-room s m beat (said (Ok tt) h e)

  pub vote-stores : {head : Number} {vu : ℕ} {vw : List ℕ} → v ≡ Ok tt
      → value head ≡ head_of s (node_of m) (beat / 3)
      → vw ≡ stored vote_row (rows_of make_vote m.votes m.votes_used ++ (waiting (record { voter = s.own; slot = beat / 3; number = value head }) ∷ [])) m.votes
      → vu ≡ m.votes_used + 1
      → Votes s m beat (lent m.blocks vw m.blocks_used vu (record { seen = beat; done = beat; merged = m.clock.merged; proposed = m.clock.proposed })) (Ok head)
  unfolding node_of head_of
  vote-stores {head} e f w n =
      let R = (vote-ready e).memory in
      let new : Marked Vote = waiting (record { voter = s.own; slot = beat / 3; number = value head }) in
      left-done (vote-done s m beat (said (Ok tt) h e))
      (rw (← f) (store-grown _ m (sym (stored_same block-codec m.blocks m.blocks_used R.block-marks R.block_words)) w
      (sym (length-rows_of make_block m.blocks m.blocks_used)) (n ∙ length_more make_vote m.votes m.votes_used _) (omega (arith, length_more make_vote m.votes m.votes_used new))))
      f

-- ---- Merge

module _ (s : Settings) (m : Lent) (beat : ℕ) {v : Result Unit Refusal} (h : verdict_of v ≡ lent_verdict s (λ p x. merge_tests s p x beat) m) where
  pub merge-ready : v ≡ Ok tt → Ready s m
  merge-ready e = passed-ready s _ m h e

  pub merge-leaves : {e : Refusal} (r : Result Unit Refusal) → v ≡ Err e → IsErrAnd r (λ d. d ≡ e) → Merges s m beat m r
  merge-leaves r e f = leaves _ r f (merge-refused s m beat _ (said (Err _) h e))

  pub merge-stores : {from vu : ℕ} {bw vw : List ℕ} → v ≡ Ok tt → from ≡ kept_from s (beat / 3)
      → bw ≡ stored block_row (view_all (rows_of make_block m.blocks m.blocks_used)) m.blocks
      → vw ≡ stored vote_row (view_all (rows_since from (rows_of make_vote m.votes m.votes_used))) (emptied m.votes_used m.votes)
      → vu ≡ length (rows_since from (rows_of make_vote m.votes m.votes_used))
      → Merges s m beat (lent bw vw m.blocks_used vu (record { seen = beat; done = beat; merged = beat / 3; proposed = m.clock.proposed })) (Ok tt)
  unfolding node_of view_all
  merge-stores {from} e f b w n =
      left-done (merge-done s m beat (said (Ok tt) h e))
      (rw (← f) (store_is _ m b w (length-viewed block-codec m.blocks m.blocks_used)
      (n ∙ sym (length-viewing (λ a. true) (rows_since from (rows_of make_vote m.votes m.votes_used)))))) refl

-- ---- the call that is asked for

-- the outcome of one of the calls, with its value seen as one that all calls have
module _ {A B : Type 0} {of : A → B} {y : LentOutcome B} {m : Lent} (value : A → Answer) (f : B → Value) (same : (a : A) → value_of (value a) ≡ f (of a)) where
  pub sees : (r : Result A Refusal) (r' : Result Answer Refusal) → MatchResult r (λ a. IsOkAnd r' (λ x. x ≡ value a)) (λ e. r' ≡ Err e) → Leaves of y m r
      → Leaves value_of (seen f y) m r'
  unfolding map_answer
  sees (Ok a) (Ok x) k P = record { memory = P.memory; answer = ap (λ x. done (value_of x)) k ∙ ap done (same a) ∙ ap (map_answer f) P.answer }
  sees (Ok a) (Err x) k P = elim k [ ]
  sees (Err e) r' k P = rw k (record { memory = P.memory; answer = ap (map_answer f) P.answer })

module _ (s : Settings) (m : Lent) (beat : ℕ) (bytes : List ℕ) {after : Lent} {c : Call} (r' : Result Answer Refusal) where
  pub carries-receive : (r : Result Received Refusal) → c ≡ call.Receive → MatchResult r (λ a. IsOkAnd r' (λ x. x ≡ answer.Received a)) (λ e. r' ≡ Err e)
      → Receives s m beat bytes after r → Carries s m c beat bytes after r'
  unfolding Carries
  carries-receive r e k P = rw e (sees answer.Received received (λ a. refl) r r' k P)

  pub carries-propose : {number : Number} (r : Result Number Refusal) → c ≡ call.Propose number → MatchResult r (λ a. IsOkAnd r' (λ x. x ≡ answer.Block a)) (λ e. r' ≡ Err e)
      → Proposes s m beat (value number) after r → Carries s m c beat bytes after r'
  unfolding Carries
  carries-propose r e k P = rw e (sees answer.Block block (λ a. refl) r r' k P)

  pub carries-vote : (r : Result Number Refusal) → c ≡ call.Vote → MatchResult r (λ a. IsOkAnd r' (λ x. x ≡ answer.Block a)) (λ e. r' ≡ Err e)
      → Votes s m beat after r → Carries s m c beat bytes after r'
  unfolding Carries
  carries-vote r e k P = rw e (sees answer.Block block (λ a. refl) r r' k P)

  pub carries-merge : (r : Result Unit Refusal) → c ≡ call.Merge → r' ≡ result_and r (Ok answer.Done)
      → Merges s m beat after r → Carries s m c beat bytes after r'
  unfolding Carries
  carries-merge (Ok a) e k P = rw (e, k) (sees (λ a. answer.Done) (λ a. nothing_more) (λ a. refl) (Ok a) (Ok answer.Done) refl P)
  carries-merge (Err x) e k P = rw e (sees (λ a. answer.Done) (λ a. nothing_more) (λ a. refl) (Err x) r' k P)
