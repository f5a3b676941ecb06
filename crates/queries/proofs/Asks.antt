-- Head, Deep, Fast and Settled, from the verdict that code found and the block that it found; Fit and
-- Compare. Assumes nothing.
use Prim.Native.Nat.{ℕ, ◌+◌, ◌-◌, ◌/◌, ◌^◌, ◌≤◌, ◌<◌}
use mathlib.Core.Bool.{false, ◌||◌}
use mathlib.Core.Path.{◌≡◌, refl, ap, sym, ◌∙◌}
use mathlib.Core.List.{List, [], ◌∷◌, ◌++◌}
use native.Mathlib.Omega.{arith}
use lib.ListN.{length}
use lib.Dec.{eqb, ltb}
use borrow.Author.Tests.{ltb-false, leb-false}
use denote.Ref.{Bor}
use Rattle.std.specs.Prelude.{Option, Some, None, Result, Ok, Err}
use Rattle.std.specs.Result.{IsErrAnd, MatchResult}
use Rattle.std.proofs.lemmas.Result.{err_from_is_err_and}
use Rattle.protocol.specs.declared.Number.{Number}
use Rattle.protocol.specs.Words.{value, bit_of}
use Rattle.protocol.specs.declared.Settings.{Settings}
use Rattle.protocol.specs.Filters.{Choice}
use Rattle.protocol.specs.Walk as walk
use Rattle.protocol.specs.Confirm as confirm
use Rattle.protocol.specs.Settled.{settled_block}
use Rattle.protocol.specs.Equivocation.{first_equivocation}
use Rattle.protocol.specs.Store.{view_of, kept_from}
use Rattle.protocol.specs.Packet.{size_of, packet_of}
use Rattle.protocol.specs.Refusal as rules
use Rattle.protocol.specs.Refusal.{done, unsound}
use Rattle.protocol.specs.Calls.Vote.{head_of}
use Rattle.protocol.specs.Calls.Query.{query_tests, deep_of, fast_of, settled_tests, settled_of}
use Rattle.protocol.specs.Calls.Fit.{packet_tests, new_block_count, new_vote_count, figures_of}
use Rattle.protocol.specs.Calls.Compare.{compared, fresh_verdict, refused_or, comparison}
use Rattle.protocol.specs.Lent.{Lent, rows_of, make_block, make_vote, places_of, node_of}
use Rattle.protocol.proofs.Basics.Tests.{neither}
use Rattle.protocol.proofs.Lent.Rows.{length-rows_of}
use Rattle.protocol.proofs.Lent.Fresh.{alone-fresh, alone-sound}
use Rattle.protocol.proofs.Calls.Received.{blocks-few, votes-few}
use Rattle.protocol.proofs.Calls.Refusal.{passed}
use Rattle.lent.specs.declared.Lent as code
use Rattle.lent.specs.Memory.{memory}
use Rattle.confirm.specs.Top.{choice_in}
use Rattle.verdicts.specs.declared.Refusal.{Refusal}
use Rattle.verdicts.specs.declared.NewCounts.{NewCounts}
use Rattle.verdicts.specs.Verdict.{refusal_of, verdict_of}
use Rattle.verdicts.specs.Counted.{CountsNew}
use Rattle.verdicts.specs.Firsts.{FirstsNoted}
use Rattle.verdicts.specs.Lent.{lent_verdict}
use Rattle.verdicts.proofs.Passed.{Ready, passes, said, passed-sound, passed-ready}
use Rattle.verdicts.proofs.Calls.{head-refused, head_done, deep-refused, deep-done, fast-refused, fast-done, settled-refused, settled-done, fit_refused, fit-done, compare-refused, compare-done}
use Rattle.equivocation.specs.declared.Equivocation as code_equivocation
use Rattle.equivocation.specs.First.{first_of}
use Rattle.answers.specs.declared.Figures.{Figures}
use Rattle.answers.specs.declared.NotCompared.{NotCompared}
use Rattle.answers.specs.declared.NotCompared.TheVariants as not_compared
use Rattle.answers.specs.Answers.{answered, choice_of, figures_of as figures_told, compared_of}
use Rattle.answers.specs.Promises.{IsHead, IsDeep, IsFast, IsSettled, IsFit, IsCompared}
use Rattle.answers.proofs.Tables.{on-tables}
use Rattle.queries.specs.Comparison.{first_row_verdict, comparison_by}

-- a slot that passes 17 was seen, so it is far below the width of a word
seen-bound : (s : Settings) (slot : ℕ) (m : Lent) → Ready s m → (eqb slot 0 || (ltb (m.clock.seen / 3) slot || ltb slot m.clock.merged)) ≡ false → slot + 1 < 2 ^ 64
seen-bound s slot m R b =
    let seen = ltb-false (m.clock.seen / 3) slot (neither (ltb (m.clock.seen / 3) slot) _ (neither (eqb slot 0) _ b).1).0 in
    omega (arith, seen, R.clock)

-- what a walk found on the tables of what is lent, L
module _ (L : code.Lent) {settings : Settings} {b v : Bor (List ℕ)} {n k : ℕ} (es : settings ≡ L.settings) (eb : b ≡ L.blocks) (en : n ≡ L.blocks_used) (ev : v ≡ L.votes)
    (ek : k ≡ L.votes_used) (t : ℕ) where
  pub head-told : {x : ℕ} → x ≡ walk.head_block (view_of (rows_of make_block b.now n)) (view_of (rows_of make_vote v.now k)) settings.nodes settings.expiry t → x ≡ head_of L.settings (node_of (memory L)) t
  unfolding head_of node_of
  head-told = on-tables L es eb en ev ek (λ s b n v k. walk.head_block (view_of (rows_of make_block b n)) (view_of (rows_of make_vote v k)) s.nodes s.expiry t)

  pub deep-told : {x : ℕ} → x ≡ confirm.deep_block (view_of (rows_of make_block b.now n)) (view_of (rows_of make_vote v.now k)) settings.nodes settings.expiry settings.depth t → x ≡ deep_of L.settings (node_of (memory L)) t
  unfolding deep_of node_of
  deep-told = on-tables L es eb en ev ek (λ s b n v k. confirm.deep_block (view_of (rows_of make_block b n)) (view_of (rows_of make_vote v k)) s.nodes s.expiry s.depth t)

  pub fast-told : {x : Choice} → x ≡ confirm.fast_block (view_of (rows_of make_block b.now n)) (view_of (rows_of make_vote v.now k)) settings.nodes t → x ≡ fast_of L.settings (node_of (memory L)) t
  unfolding fast_of node_of
  fast-told = on-tables L es eb en ev ek (λ s b n v k. confirm.fast_block (view_of (rows_of make_block b n)) (view_of (rows_of make_vote v k)) s.nodes t)

  pub settled-told : (silent : ℕ) {x : ℕ} → x ≡ settled_block (view_of (rows_of make_block b.now n)) (view_of (rows_of make_vote v.now k)) settings.nodes settings.expiry t (bit_of silent) → x ≡ settled_of L.settings (node_of (memory L)) t silent
  unfolding settled_of node_of
  settled-told silent = on-tables L es eb en ev ek (λ s b n v k. settled_block (view_of (rows_of make_block b n)) (view_of (rows_of make_vote v k)) s.nodes s.expiry t (bit_of silent))

-- the exit of a `?` returns the refusal e
leaves : {A B : Type 0} (of : A → B) {y : rules.Answer B} (e : Refusal) (r : Result A Refusal) → IsErrAnd r (λ d. d ≡ e) → y ≡ rules.refused (refusal_of e) → answered of r ≡ y
leaves of e r x f = let p = err_from_is_err_and r x in rw (p.1, p.2) (sym f)

module _ (s : Settings) (slot : ℕ) (m : Lent) {v : Result Unit Refusal} (h : verdict_of v ≡ lent_verdict s (λ p x. query_tests s p x slot) m) where
  pub slot-bound : v ≡ Ok tt → slot + 1 < 2 ^ 64
  unfolding query_tests node_of
  slot-bound e =
      let a = passed _ _ (passes s _ m (said (Ok tt) h e)).1 in
      seen-bound s slot m (passed-ready s _ m h e) (passed _ _ a.1).0

  pub head-leaves : {e : Refusal} (r : Result Number Refusal) → v ≡ Err e → IsErrAnd r (λ d. d ≡ e) → IsHead s m slot r
  head-leaves r e x = leaves value _ r x (head-refused s m slot _ (said (Err _) h e))

  pub deep-leaves : {e : Refusal} (r : Result Number Refusal) → v ≡ Err e → IsErrAnd r (λ d. d ≡ e) → IsDeep s m slot r
  deep-leaves r e x = leaves value _ r x (deep-refused s m slot _ (said (Err _) h e))

  pub fast-leaves : {e : Refusal} (r : Result (Option Number) Refusal) → v ≡ Err e → IsErrAnd r (λ d. d ≡ e) → IsFast s m slot r
  fast-leaves r e x = leaves choice_of _ r x (fast-refused s m slot _ (said (Err _) h e))

  pub head-answers : (b : Number) → v ≡ Ok tt → value b ≡ head_of s (node_of m) slot → IsHead s m slot (Ok b)
  head-answers b e f = ap done f ∙ sym (head_done s m slot (said (Ok tt) h e))

  pub deep-answers : (b : Number) → v ≡ Ok tt → value b ≡ deep_of s (node_of m) slot → IsDeep s m slot (Ok b)
  deep-answers b e f = ap done f ∙ sym (deep-done s m slot (said (Ok tt) h e))

  -- a block, or none
  pub fast-answers : (b : Option Number) → v ≡ Ok tt → choice_in b ≡ fast_of s (node_of m) slot → IsFast s m slot (Ok b)
  fast-answers (Some b) e f = ap done f ∙ sym (fast-done s m slot (said (Ok tt) h e))
  fast-answers None e f = ap done f ∙ sym (fast-done s m slot (said (Ok tt) h e))

module _ (s : Settings) (slot silent : ℕ) (m : Lent) {v : Result Unit Refusal} (h : verdict_of v ≡ lent_verdict s (λ p x. settled_tests s p x slot silent) m) where
  -- so is this slot, and the set names nodes below n alone
  pub settled-bounds : v ≡ Ok tt → (slot + 1 < 2 ^ 64) × (silent < 2 ^ s.nodes)
  unfolding settled_tests query_tests node_of
  settled-bounds e =
      let a = passed _ _ (passes s _ m (said (Ok tt) h e)).1 in
      let b = passed _ _ a.1 in
      let c = passed _ _ b.1 in
      (seen-bound s slot m (passed-ready s _ m h e) b.0, leb-false (2 ^ s.nodes) silent c.0)

  pub settled-leaves : {e : Refusal} (r : Result Number Refusal) → v ≡ Err e → IsErrAnd r (λ d. d ≡ e) → IsSettled s m slot silent r
  settled-leaves r e x = leaves value _ r x (settled-refused s m slot silent _ (said (Err _) h e))

  pub settled-answers : (b : Number) → v ≡ Ok tt → value b ≡ settled_of s (node_of m) slot silent → IsSettled s m slot silent (Ok b)
  settled-answers b e f = ap done f ∙ sym (settled-done s m slot silent (said (Ok tt) h e))

-- ---- Fit, from what code counted

module _ (s : Settings) (beat : ℕ) (bytes : List ℕ) (m : Lent) {c : Result NewCounts Refusal} (h : verdict_of c ≡ lent_verdict s (λ p x. packet_tests s p x beat bytes) m) where
  pub fit-leaves : {e : Refusal} (r : Result Figures Refusal) → c ≡ Err e → IsErrAnd r (λ d. d ≡ e) → IsFit s m beat bytes r
  fit-leaves r e x = leaves figures_told _ r x (fit_refused s m beat bytes _ (said (Err _) h e))

  module _ {n : NewCounts} (is : c ≡ Ok n) (C : CountsNew s m bytes n) where
    -- block 0 is there
    pub some-used : 1 ≤ m.blocks_used
    some-used = (passed-ready s _ m h is).some-blocks

    -- no more than a table and a packet hold
    pub few-entries : {bf vf : List ℕ} → FirstsNoted m.blocks m.blocks_used m.votes m.votes_used bytes bf vf → length bf ≡ 1056 → length vf ≡ 1152
        → (m.blocks_used + n.blocks ≤ 67584) × (m.votes_used + n.votes ≤ 73728)
    unfolding node_of
    few-entries F b v = (
      omega (arith, C.blocks, F.blocks-fit, blocks-few (node_of m) (packet_of bytes), length-rows_of make_block m.blocks m.blocks_used),
      omega (arith, C.votes, F.votes-fit, votes-few (node_of m) (packet_of bytes) (kept_from s m.clock.merged), length-rows_of make_vote m.votes m.votes_used),
    )

    pub fit-answers : {size : ℕ} → size ≡ size_of 16 (m.blocks_used - 1 + n.blocks) (m.votes_used + n.votes)
        → IsFit s m beat bytes (Ok (record { new_blocks = n.blocks; new_votes = n.votes; bytes = size }))
    unfolding figures_of node_of
    fit-answers {size} f =
        let p = packet_of bytes in
        let from = kept_from s m.clock.merged in
        let b : m.blocks_used ≡ length (rows_of make_block m.blocks m.blocks_used) = sym (length-rows_of make_block m.blocks m.blocks_used) in
        let v : m.votes_used ≡ length (rows_of make_vote m.votes m.votes_used) = sym (length-rows_of make_vote m.votes m.votes_used) in
        let nb : n.blocks ≡ new_block_count (node_of m) p = omega (arith, C.blocks, b) in
        let nv : n.votes ≡ new_vote_count from (node_of m) p = omega (arith, C.votes, v) in
        (λ i. done (record { new_blocks = nb i; new_votes = nv i; bytes = (f ∙ (λ j. size_of 16 (b j - 1 + nb j) (v j + nv j))) i }))
        ∙ sym (fit-done s m beat bytes (said (Ok n) h is))

-- ---- Compare, from the verdicts on both packets, and from the equivocation that code found

abbrev Comparing : Type 0
Comparing = Result (Option code_equivocation.Equivocation) NotCompared

-- after `map_err`, of which this is the contract
module _ (f : Refusal → NotCompared) (u : Result Unit Refusal) (x : Result Unit NotCompared) where
  abbrev Maps : Type 0
  Maps = MatchResult u (λ a. x ≡ Ok a) (λ e. IsErrAnd x (λ d. d ≡ f e))

mapped-ok : (f : Refusal → NotCompared) (u : Result Unit Refusal) (x : Result Unit NotCompared) → Maps f u x → x ≡ Ok tt → u ≡ Ok tt
mapped-ok f (Ok a) x k q = refl
mapped-ok f (Err e) (Ok a) k q = elim k [ ]
mapped-ok f (Err e) (Err d) k q = let z : ◌≡◌ {A = ℕ} 0 1 = cc in absurd (omega arith)

mapped-err : (f : Refusal → NotCompared) (u : Result Unit Refusal) (x : Result Unit NotCompared) {d : NotCompared} → Maps f u x → x ≡ Err d → (e : Refusal) × (u ≡ Err e) × (d ≡ f e)
mapped-err f (Ok a) x k q = let z : ◌≡◌ {A = ℕ} 0 1 = cc in absurd (omega arith)
mapped-err f (Err e) (Ok a) k q = elim k [ ]
mapped-err f (Err e) (Err b) {d} k q = let z : b ≡ d = cc in (e, refl, sym z ∙ k)

-- the exit of a `?`
exit : {d : NotCompared} (r : Comparing) → IsErrAnd r (λ b. b ≡ d) → r ≡ Err d
exit r k = let p = err_from_is_err_and r k in p.1 ∙ ap (λ (b : NotCompared). Err b) p.2

compared-is : (f : Option code_equivocation.Equivocation) → compared_of (Ok f) ≡ done (compared (first_of f))
compared-is (Some e) = refl
compared-is None = refl

-- u is the verdict on the first packet, and x with its refusal seen as the answer of Compare
module _ (one two : List ℕ) (v w : rules.Verdict) (u : Result Unit Refusal) (t : verdict_of u ≡ v) (x : Result Unit NotCompared) (k : Maps not_compared.First u x) where
  pub first-leaves : {d : NotCompared} → x ≡ Err d → (r : Comparing) → IsErrAnd r (λ b. b ≡ d) → compared_of r ≡ comparison_by v w one two
  unfolding comparison_by refused_or
  first-leaves q r l = let a = mapped-err not_compared.First u x k q in rw (exit r l, a.2) (rw (said (Err a.0) t a.1))

  module _ (passed-one : x ≡ Ok tt) (u' : Result Unit Refusal) (t' : verdict_of u' ≡ w) (x' : Result Unit NotCompared) (k' : Maps not_compared.Second u' x') where
    pub second-leaves : {d : NotCompared} → x' ≡ Err d → (r : Comparing) → IsErrAnd r (λ b. b ≡ d) → compared_of r ≡ comparison_by v w one two
    unfolding comparison_by refused_or
    second-leaves q r l =
        let a = mapped-err not_compared.Second u' x' k' q in
        rw (exit r l, a.2) (rw (said (Ok tt) t (mapped-ok not_compared.First u x k passed-one), said (Err a.0) t' a.1))

    -- an equivocation, or nobody's
    pub compare-finds : (f : Option code_equivocation.Equivocation) → x' ≡ Ok tt → first_of f ≡ first_equivocation ((packet_of one).votes ++ (packet_of two).votes)
        → compared_of (Ok f) ≡ comparison_by v w one two
    unfolding comparison_by refused_or
    compare-finds f q e =
        compared-is f ∙ rw (said (Ok tt) t (mapped-ok not_compared.First u x k passed-one), said (Ok tt) t' (mapped-ok not_compared.Second u' x' k' q), e)

module _ (s : Settings) (beat : ℕ) (one two : List ℕ) (m : Lent) (u : Result Unit Refusal) (h : verdict_of u ≡ lent_verdict s (λ p x. unsound s p x ∷ []) m)
    (x : Result Unit NotCompared) (k : Maps not_compared.Memory u x) where
  pub compare-leaves : {d : NotCompared} → x ≡ Err d → (r : Comparing) → IsErrAnd r (λ b. b ≡ d) → IsCompared s m beat one two r
  compare-leaves q r l =
      let a = mapped-err not_compared.Memory u x k q in
      rw (exit r l, a.2) (sym (compare-refused s m beat one two _ (said (Err a.0) h a.1)))

  sound-passed : x ≡ Ok tt → u ≡ Ok tt
  sound-passed q = mapped-ok not_compared.Memory u x k q

  -- the verdict on the first rows alone is that on fresh tables
  on-fresh : x ≡ Ok tt → (bytes : List ℕ) → first_row_verdict s m beat bytes ≡ fresh_verdict s (places_of m) beat bytes
  unfolding lent_verdict fresh_verdict places_of
  on-fresh q bytes = let S = passed-sound s (λ p x. unsound s p x ∷ []) m h (sound-passed q) in rw (alone-sound s m S, alone-fresh s m S)

  pub compare-answers : (r : Comparing) → x ≡ Ok tt → compared_of r ≡ comparison_by (first_row_verdict s m beat one) (first_row_verdict s m beat two) one two
      → IsCompared s m beat one two r
  unfolding comparison_by comparison
  compare-answers r q e = e ∙ rw (on-fresh q one, on-fresh q two) (sym (compare-done s m beat one two (said (Ok tt) h (sound-passed q))))
