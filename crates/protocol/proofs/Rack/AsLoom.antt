-- A rack behaves as a loom: the loom's tests are the rack's, but for those of places and length, which are milder. Assumes nothing.
use Prim.Native.Nat.{ℕ, ◌≤◌}
use mathlib.Core.Path.{◌≡◌, refl, sym, ap, ◌∙◌}
use mathlib.Core.Bool.{Bool, true, false, not, ◌||◌, true≢false}
use mathlib.Core.List.{List, [], ◌∷◌}
use native.Mathlib.Omega.{arith}
use lib.Dec.{leb, ltb}
use lib.ListN.{length}
use borrow.Author.Tests.{leb-false, lt-leb, ltb-false, le-ltb, not-true}
use Rattle.protocol.specs.declared.Settings.{Settings}
use Rattle.protocol.specs.declared.Profile.TheVariants.{Loom}
use Rattle.protocol.specs.declared.Width.{Width}
use Rattle.protocol.specs.Limits.{limits_of}
use Rattle.protocol.specs.Store.{kept_from, fresh, Places, Node}
use Rattle.protocol.specs.Sound.{sound}
use Rattle.protocol.specs.Packet.{packet_of}
use Rattle.protocol.specs.Refusal.{Refusal, refusal_number, Test, test, Verdict, pass, refuse, first, done, answer_unless}
use Rattle.protocol.specs.Calls.Open.{open_node}
use Rattle.protocol.specs.Calls.Receive.{blocks_after, votes_after, receive_tests, receive}
use Rattle.protocol.specs.Calls.Propose.{base_of, propose_tests, propose}
use Rattle.protocol.specs.Calls.Vote.{head_of, vote_tests, vote}
use Rattle.protocol.specs.Calls.Merge.{merge_tests, merge}
use Rattle.protocol.specs.Calls.Query.{query_tests, deep_of, fast_of, settled_tests, settled_of, head_query, deep_query, fast_query, settled_query}
use Rattle.protocol.specs.Calls.Fit.{packet_tests, fit_query}
use Rattle.protocol.specs.Calls.Compare.{fresh_verdict, refused_or, comparison, compare_query}
use Rattle.protocol.specs.Calls.Write.{proposed_now, write_tests, write}
use Rattle.protocol.specs.CallList.{Call, Receive, Propose, Vote, Merge, after_call, call_answer, received, named, merged, refused_by, meets, after_calls, meets_none}
use Rattle.protocol.specs.Rack.{as_loom, by_room, RackAsLoom}
use Rattle.protocol.specs.RackPackets.{compared_by, RackPacketsAsLoom}
use Rattle.protocol.proofs.Basics.Tests.{and_left, and_right, neither}
use Rattle.protocol.proofs.Store.Sound.{sound-true, sound-holds, sound-keeping-to, fresh-sound}
use Rattle.protocol.proofs.Calls.Open.{opened, open-settings, open-places, open-sound}
use Rattle.protocol.proofs.CallList.{NotBy, made-sound, not-by}
use Rattle.protocol.proofs.Rack.Milder.{Milder, end, same, less, milder}

pass-not-refuse : {k : Refusal} → pass ≡ refuse k → ⊥
pass-not-refuse e = let z : ◌≡◌ {A = ℕ} 0 1 = cc in absurd (omega arith)

one-refusal : {k : Refusal} → by_room (refusal_number k) ≡ false → NotBy by_room (refuse k)
one-refusal {k} n j q = let z : k ≡ j = cc in ap (λ (r : Refusal). by_room (refusal_number r)) (sym z) ∙ n

-- a loom that was opened, and a node that is sound with other limits and no more places
pub record Roomier (s : Settings) (pl pl' : Places) : Type 0 where
  pub old : Node
  pub opened : (open_node (as_loom s) pl' old).answer ≡ done tt
  pub blocks : pl.blocks ≤ pl'.blocks
  pub votes : pl.votes ≤ pl'.votes

module _ {s : Settings} {pl pl' : Places} (R : Roomier s pl pl') (x : Node) (S : sound s pl x ≡ true) where
  loom-sound : sound (as_loom s) pl' x ≡ true
  loom-sound =
      let G = sound-true s pl x S in
      sound-holds (sound-keeping-to G Loom pl' (open-settings (as_loom s) pl' R.old R.opened) (open-places (as_loom s) pl' R.old R.opened)
      (omega (arith, G.fit-blocks, R.blocks)) (omega (arith, G.fit-votes, R.votes)))

  -- ---- the tests of each call

  abbrev Less : List Test → List Test → Type 0
  Less = Milder by_room

  -- neither is refused by 6
  sound-first : {ts us : List Test} → Less ts us → Less (test 6 (not (sound s pl x)) ∷ ts) (test 6 (not (sound (as_loom s) pl' x)) ∷ us)
  sound-first m = less 6 _ _ (λ e. ap not loom-sound) (λ e. absurd (true≢false (sym e ∙ ap not S))) m

  fewer : (a b n : ℕ) → a ≤ b → leb a n ≡ false → leb b n ≡ false
  fewer a b n l e = lt-leb b n (omega (arith, leb-false a n e))

  fit : (n m : ℕ) → (ltb pl.blocks n || ltb pl.votes m) ≡ false → (ltb pl'.blocks n || ltb pl'.votes m) ≡ false
  fit n m e =
      let h = neither (ltb pl.blocks n) (ltb pl.votes m) e in
      rw (le-ltb pl'.blocks n (omega (arith, R.blocks, ltb-false pl.blocks n h.0)), le-ltb pl'.votes m (omega (arith, R.votes, ltb-false pl.votes m h.1)))

  receive-less : (beat : ℕ) (bytes : List ℕ) → Less (receive_tests s pl x beat bytes) (receive_tests (as_loom s) pl' x beat bytes)
  unfolding receive_tests packet_tests limits_of
  receive-less beat bytes =
      sound-first (same _ (less 24 _ _ (λ e. refl) (λ e. refl) (same _ (same _ (same _ (same _
      (less 10 _ _ (fit (length (blocks_after x (packet_of bytes))) (length (votes_after (kept_from s x.clock.merged) x (packet_of bytes)))) (λ e. refl) end)))))))

  propose-less : (beat number : ℕ) → Less (propose_tests s pl x beat number) (propose_tests (as_loom s) pl' x beat number)
  unfolding propose_tests
  propose-less beat number =
      sound-first (same _ (same _ (same _ (same _ (same _ (same _ (less 10 _ _ (fewer _ _ (length x.blocks) R.blocks) (λ e. refl) end)))))))

  vote-less : (beat : ℕ) → Less (vote_tests s pl x beat) (vote_tests (as_loom s) pl' x beat)
  unfolding vote_tests
  vote-less beat = sound-first (same _ (same _ (same _ (same _ (same _ (less 10 _ _ (fewer _ _ (length x.votes) R.votes) (λ e. refl) end))))))

  merge_less : (beat : ℕ) → Less (merge_tests s pl x beat) (merge_tests (as_loom s) pl' x beat)
  unfolding merge_tests
  merge_less beat = sound-first (same _ (same _ (same _ end)))

  -- ---- each call on both

  pub receive-same : (beat : ℕ) (bytes : List ℕ) → refused_by by_room (receive s pl x beat bytes).answer ≡ false → receive s pl x beat bytes ≡ receive (as_loom s) pl' x beat bytes
  unfolding receive
  receive-same beat bytes w = rw (milder by_room (receive-less beat bytes) (not-by by_room _ x _ _ w))

  pub propose-same : (beat number : ℕ) → refused_by by_room (propose s pl x beat number).answer ≡ false → propose s pl x beat number ≡ propose (as_loom s) pl' x beat number
  unfolding propose base_of
  propose-same beat number w = rw (milder by_room (propose-less beat number) (not-by by_room _ x _ _ w))

  pub vote-same : (beat : ℕ) → refused_by by_room (vote s pl x beat).answer ≡ false → vote s pl x beat ≡ vote (as_loom s) pl' x beat
  unfolding vote head_of
  vote-same beat w = rw (milder by_room (vote-less beat) (not-by by_room _ x _ _ w))

  pub merge-same : (beat : ℕ) → refused_by by_room (merge s pl x beat).answer ≡ false → merge s pl x beat ≡ merge (as_loom s) pl' x beat
  unfolding merge
  merge-same beat w = rw (milder by_room (merge_less beat) (not-by by_room _ x _ _ w))

  pub made-same : (c : Call) → meets by_room s pl x c ≡ false → after_call s pl x c ≡ after_call (as_loom s) pl' x c
  unfolding after_call meets
  made-same (Receive beat bytes) w = ap (λ o. o.node) (receive-same beat bytes w)
  made-same (Propose beat number) w = ap (λ o. o.node) (propose-same beat number w)
  made-same (Vote beat) w = ap (λ o. o.node) (vote-same beat w)
  made-same (Merge beat) w = ap (λ o. o.node) (merge-same beat w)

  pub call-answer-same : (c : Call) → meets by_room s pl x c ≡ false → call_answer s pl x c ≡ call_answer (as_loom s) pl' x c
  unfolding call_answer meets
  call-answer-same (Receive beat bytes) w = ap (λ o. received o.answer) (receive-same beat bytes w)
  call-answer-same (Propose beat number) w = ap (λ o. named o.answer) (propose-same beat number w)
  call-answer-same (Vote beat) w = ap (λ o. named o.answer) (vote-same beat w)
  call-answer-same (Merge beat) w = ap (λ o. merged o.answer) (merge-same beat w)

  -- ---- Fit, which may meet a packet too long, but never lacks places

  fit-less : (beat : ℕ) (bytes : List ℕ) → Less (packet_tests s pl x beat bytes) (packet_tests (as_loom s) pl' x beat bytes)
  unfolding packet_tests limits_of
  fit-less beat bytes = sound-first (same _ (less 24 _ _ (λ e. refl) (λ e. refl) (same _ (same _ (same _ (same _ end))))))

  pub fit_same : (beat : ℕ) (bytes : List ℕ) → refused_by by_room (fit_query s pl x beat bytes) ≡ false → fit_query s pl x beat bytes ≡ fit_query (as_loom s) pl' x beat bytes
  unfolding fit_query refused_by answer_unless
  fit_same beat bytes w = rw (milder by_room (fit-less beat bytes) (λ k q. rw q at w))

  -- ---- questions about a slot and Write, which never want for room

  query-first : (t : ℕ) → first (query_tests s pl x t) ≡ first (query_tests (as_loom s) pl' x t)
  unfolding query_tests first
  query-first t = rw (S, loom-sound)

  pub head-same : (t : ℕ) → head_query s pl x t ≡ head_query (as_loom s) pl' x t
  unfolding head_query head_of
  head-same t = rw (query-first t)

  pub deep-same : (t : ℕ) → deep_query s pl x t ≡ deep_query (as_loom s) pl' x t
  unfolding deep_query deep_of
  deep-same t = rw (query-first t)

  pub fast-same : (t : ℕ) → fast_query s pl x t ≡ fast_query (as_loom s) pl' x t
  unfolding fast_query fast_of
  fast-same t = rw (query-first t)

  pub settled_same : (t set : ℕ) → settled_query s pl x t set ≡ settled_query (as_loom s) pl' x t set
  unfolding settled_query settled_tests settled_of query_tests first
  settled_same t set = rw (S, loom-sound)

  pub write_same : (proposal : Bool) (width : Width) (buffer : List ℕ) → write s pl x proposal width buffer ≡ write (as_loom s) pl' x proposal width buffer
  unfolding write write_tests first proposed_now
  write_same proposal width buffer = rw (S, loom-sound)

-- ---- Compare, whose packets are judged on fresh tables

module _ {s : Settings} {pl pl' : Places} (R : Roomier s pl pl') (x : Node) (S : sound s pl x ≡ true) where
  fresh-good : sound s pl fresh ≡ true
  fresh-good = let G = sound-true s pl x S in sound-holds (fresh-sound s pl G.settings G.places)

  -- one packet: its verdict is v, by none of these numbers
  verdict-same : (beat : ℕ) (bytes : List ℕ) (v : Verdict) → fresh_verdict s pl beat bytes ≡ v → NotBy by_room v → fresh_verdict (as_loom s) pl' beat bytes ≡ v
  unfolding fresh_verdict
  verdict-same beat bytes v e n = sym (milder by_room (receive-less R fresh fresh-good beat bytes) (λ k q. n k (sym e ∙ q))) ∙ e

  module _ (beat : ℕ) (one two : List ℕ) where
    judged : (v w : Verdict) → fresh_verdict s pl beat one ≡ v → fresh_verdict s pl beat two ≡ w
        → compared_by by_room (done (comparison s pl beat one two)) ≡ false → comparison s pl beat one two ≡ comparison (as_loom s) pl' beat one two
    unfolding comparison refused_or compared_by
    judged (refuse k) w e f n =
        let z : by_room (refusal_number k) ≡ false = rw e at n in
        rw (e, verdict-same beat one (refuse k) e (one-refusal z))
    judged pass (refuse k) e f n =
        let z : by_room (refusal_number k) ≡ false = rw (e, f) at n in
        rw (e, f, verdict-same beat one pass e (λ j q. absurd (pass-not-refuse q)), verdict-same beat two (refuse k) f (one-refusal z))
    judged pass pass e f n =
        rw (e, f, verdict-same beat one pass e (λ j q. absurd (pass-not-refuse q)), verdict-same beat two pass f (λ j q. absurd (pass-not-refuse q)))

    pub compare_same : compared_by by_room (compare_query s pl x beat one two) ≡ false → compare_query s pl x beat one two ≡ compare_query (as_loom s) pl' x beat one two
    unfolding compare_query first answer_unless
    compare_same n = rw (S, loom-sound R x S, judged (fresh_verdict s pl beat one) (fresh_verdict s pl beat two) refl refl (rw S at n))

-- ---- over every list of calls

after_same : {s : Settings} {pl pl' : Places} (R : Roomier s pl pl') (x : Node) → sound s pl x ≡ true → (cs : List Call) → meets_none by_room s pl x cs ≡ true
    → (after_calls s pl x cs ≡ after_calls (as_loom s) pl' x cs) × (sound s pl (after_calls s pl x cs) ≡ true)
unfolding after_calls meets_none
after_same R x S [] n = (refl, S)
after_same {s} {pl} {pl'} R x S (c ∷ cs) n =
    let w = not-true (meets by_room s pl x c) (and_left (not (meets by_room s pl x c)) _ n) in
    let r = after_same R (after_call s pl x c) (made-sound s pl x S c) cs (and_right (not (meets by_room s pl x c)) _ n) in
    (r.0 ∙ ap (λ (z : Node). after_calls (as_loom s) pl' z cs) (made-same R x S c w), r.1)

pub rack-as-loom : RackAsLoom
unfolding RackAsLoom
rack-as-loom s pl pl' old old' d d' hb hv cs n =
    let e = opened s pl old d in
    let e' = opened (as_loom s) pl' old' d' in
    let R : Roomier s pl pl' = record { old = old'; opened = d'; blocks = hb; votes = hv } in
    let r = after_same R fresh (rw e at (open-sound s pl old d)) cs (rw e at n) in
    let x = after_calls s pl fresh cs in
    rw (e, e', ← r.0) (refl, call-answer-same R x r.1, head-same R x r.1, deep-same R x r.1, fast-same R x r.1, settled_same R x r.1, write_same R x r.1)

pub rack-packets-as-loom : RackPacketsAsLoom
unfolding RackPacketsAsLoom
rack-packets-as-loom s pl pl' old old' d d' hb hv cs n =
    let e = opened s pl old d in
    let e' = opened (as_loom s) pl' old' d' in
    let R : Roomier s pl pl' = record { old = old'; opened = d'; blocks = hb; votes = hv } in
    let r = after_same R fresh (rw e at (open-sound s pl old d)) cs (rw e at n) in
    let x = after_calls s pl fresh cs in
    rw (e, e', ← r.0) (fit_same R x r.1, compare_same R x r.1)
