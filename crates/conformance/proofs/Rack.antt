-- The code's rack behaves as its loom: along every list of calls the two memories hold the same node. Assumes nothing.
use Prim.Native.Nat.{ℕ}
use mathlib.Core.Path.{◌≡◌, refl, sym, ap, ◌∙◌, subst}
use mathlib.Core.Bool.{Bool, true, false}
use mathlib.Core.List.{List}
use Rattle.std.specs.Prelude.{Result}
use Rattle.protocol.specs.declared.Settings.{Settings}
use Rattle.protocol.specs.declared.Width.{Width}
use Rattle.protocol.specs.Store.{Places, Node}
use Rattle.protocol.specs.Sound.{sound}
use Rattle.protocol.specs.Refusal.{Answer, Outcome}
use Rattle.protocol.specs.Calls.Receive as receiving
use Rattle.protocol.specs.Calls.Propose as proposing
use Rattle.protocol.specs.Calls.Vote as voting
use Rattle.protocol.specs.Calls.Merge as merging
use Rattle.protocol.specs.Calls.Query.{head_query, deep_query, fast_query, settled_query}
use Rattle.protocol.specs.Calls.Fit.{fit_query}
use Rattle.protocol.specs.Calls.Compare.{compare_query}
use Rattle.protocol.specs.Lent.{Lent, places_of, node_of, lent_sound, call_lent, ask_lent}
use Rattle.protocol.specs.CallList.{Call, Receive, Propose, Vote, Merge, refused_by}
use Rattle.protocol.specs.Rack.{as_loom, by_room}
use Rattle.protocol.specs.RackPackets.{compared_by}
use Rattle.protocol.proofs.Calls.Open.{opened as opened-fresh}
use Rattle.protocol.proofs.Lent.Memory.{lent-true}
use Rattle.protocol.proofs.Lent.Calls.{Lawful, receive-lawful, propose-lawful, vote-lawful, merge-lawful, ask-lent}
use Rattle.protocol.proofs.Rack.AsLoom.{Roomier, receive-same, propose-same, vote-same, merge-same, head-same, deep-same, fast-same, settled_same, fit_same, compare_same, write_same}
use Rattle.verdicts.specs.declared.Refusal.{Refusal}
use Rattle.answers.specs.Answers.{answered}
use Rattle.answers.specs.Promises.{Leaves, Writes}
use Rattle.conformance.specs.CodeCallList.{Found, Meant, meant_by, answer_of, Promised}
use Rattle.conformance.specs.CodeRack.{SameCalls, opened, then_call, CodeRackAsLoom}
use Rattle.conformance.specs.CodeRackPackets.{CodeRackPacketsAsLoom}
use Rattle.conformance.proofs.Memory.{Healthy, opened-done, opened-node, opened-healthy, called, wrote}

module _ (s : Settings) where
  -- sound memory of a rack and of a loom with no fewer places, with the same node
  record Beside (m m' : Lent) : Type 0 where
    rack : lent_sound s m ≡ true
    loom : lent_sound (as_loom s) m' ≡ true
    roomier : Roomier s (places_of m) (places_of m')
    same : node_of m ≡ node_of m'

  module _ (m m' : Lent) (B : Beside m m') where
    abbrev x : Node
    x = node_of m

    on-rack : Healthy s (places_of m) m
    on-rack = record { places = refl; sound = B.rack }

    on-loom : Healthy (as_loom s) (places_of m') m'
    on-loom = record { places = refl; sound = B.loom }

    node-sound : sound s (places_of m) x ≡ true
    node-sound = (lent-true s m B.rack).node

    -- ---- one call

    record Alike (c : Call) (next next' : Lent) (r r' : Result (Found c) Refusal) : Type 0 where
      beside : Beside next next'
      answers : answer_of c r ≡ answer_of c r'

    alike : (c : Call) (call call' : Places → Node → Outcome (Meant c)) → Lawful s call → Lawful (as_loom s) call'
        → (refused_by by_room (call (places_of m) x).answer ≡ false → call (places_of m) x ≡ call' (places_of m') x)
        → (next next' : Lent) (r r' : Result (Found c) Refusal)
        → Leaves (meant_by c) (call_lent s call m) next r → Leaves (meant_by c) (call_lent (as_loom s) call' m') next' r'
        → refused_by by_room (answer_of c r) ≡ false → Alike c next next' r r'
    alike c call call' L L' f next next' r r' P P' n =
        let C = called s (places_of m) x m on-rack refl (meant_by c) call L next r P in
        let C' = called (as_loom s) (places_of m') x m' on-loom B.same (meant_by c) call' L' next' r' P' in
        let e = f (sym (ap (refused_by by_room) C.answer) ∙ n) in
        record {
          beside = record {
            rack = C.healthy.sound;
            loom = C'.healthy.sound;
            roomier =
                subst (λ (p : Places). Roomier s p (places_of next')) (sym C.healthy.places)
                (subst (λ (p : Places). Roomier s (places_of m) p) (sym C'.healthy.places) B.roomier);
            same = C.node ∙ ap (λ q. q.node) e ∙ sym C'.node;
          };
          answers = C.answer ∙ ap (λ q. q.answer) e ∙ sym C'.answer;
        }

    next-alike : (c : Call) (next next' : Lent) (r r' : Result (Found c) Refusal) → Promised s m c next r → Promised (as_loom s) m' c next' r'
        → refused_by by_room (answer_of c r) ≡ false → Alike c next next' r r'
    next-alike (Receive beat bytes) =
        alike (Receive beat bytes) (λ p y. receiving.receive s p y beat bytes) (λ p y. receiving.receive (as_loom s) p y beat bytes)
        (receive-lawful s beat bytes) (receive-lawful (as_loom s) beat bytes) (receive-same B.roomier x node-sound beat bytes)
    next-alike (Propose beat number) =
        alike (Propose beat number) (λ p y. proposing.propose s p y beat number) (λ p y. proposing.propose (as_loom s) p y beat number)
        (propose-lawful s beat number) (propose-lawful (as_loom s) beat number) (propose-same B.roomier x node-sound beat number)
    next-alike (Vote beat) =
        alike (Vote beat) (λ p y. voting.vote s p y beat) (λ p y. voting.vote (as_loom s) p y beat)
        (vote-lawful s beat) (vote-lawful (as_loom s) beat) (vote-same B.roomier x node-sound beat)
    next-alike (Merge beat) =
        alike (Merge beat) (λ p y. merging.merge s p y beat) (λ p y. merging.merge (as_loom s) p y beat)
        (merge-lawful s beat) (merge-lawful (as_loom s) beat) (merge-same B.roomier x node-sound beat)

    -- ---- a question, and Write

    asked-alike : {A : Type 0} (ask ask' : Places → Node → Answer A) → ask (places_of m) x ≡ ask' (places_of m') x → ask_lent s ask m ≡ ask_lent (as_loom s) ask' m'
    asked-alike ask ask' e = ask-lent s ask m B.rack ∙ e ∙ ap (ask' (places_of m')) B.same ∙ sym (ask-lent (as_loom s) ask' m' B.loom)

    written-alike : (proposal : Bool) (width : Width) (old new new' : List ℕ) (r r' : Result ℕ Refusal)
        → Writes s m proposal width old new r → Writes (as_loom s) m' proposal width old new' r' → (answered (λ n. n) r ≡ answered (λ n. n) r') × (new ≡ new')
    written-alike proposal width old new new' r r' W W' =
        let e =
        wrote s (places_of m) x m on-rack refl proposal width old ∙ write_same B.roomier x node-sound proposal width old
        ∙ sym (wrote (as_loom s) (places_of m') x m' on-loom B.same proposal width old) in
        (W.answer ∙ ap (λ q. q.answer) e ∙ sym W'.answer, W.buffer ∙ ap (λ q. q.buffer) e ∙ sym W'.buffer)

  -- ---- all calls

  along : (m m' : Lent) → SameCalls s m m' → Beside m m'
  along m m' (opened old now old' now' O O' hb hv) =
      let H = opened-healthy s old now O in
      let H' = opened-healthy (as_loom s) old' now' O' in
      record {
        rack = H.sound;
        loom = H'.sound;
        roomier =
            subst (λ (p : Places). Roomier s p (places_of now')) (sym H.places)
            (subst (λ (p : Places). Roomier s (places_of old) p) (sym H'.places)
            (record { old = node_of old'; opened = opened-done (as_loom s) old' now' O'; blocks = hb; votes = hv }));
        same =
            opened-node s old now O ∙ opened-fresh s (places_of old) (node_of old) (opened-done s old now O)
            ∙ sym (opened-node (as_loom s) old' now' O' ∙ opened-fresh (as_loom s) (places_of old') (node_of old') (opened-done (as_loom s) old' now' O'));
      }
  along m m' (then_call {m = before} {m' = before'} R c next next' r r' P P' n) =
      (next-alike before before' (along before before' R) c next next' r r' P P' n).beside

pub code-rack-as-loom : CodeRackAsLoom
unfolding CodeRackAsLoom
code-rack-as-loom s m m' R =
    let B = along s m m' R in
    let S = node-sound s m m' B in (
      B.same,
      λ c next next' r r' P P' n. (next-alike s m m' B c next next' r r' P P' n).answers,
      λ t a a' P P'. P ∙ asked-alike s m m' B (λ p y. head_query s p y t) (λ p y. head_query (as_loom s) p y t) (head-same B.roomier (node_of m) S t) ∙ sym P',
      λ t a a' P P'. P ∙ asked-alike s m m' B (λ p y. deep_query s p y t) (λ p y. deep_query (as_loom s) p y t) (deep-same B.roomier (node_of m) S t) ∙ sym P',
      λ t a a' P P'. P ∙ asked-alike s m m' B (λ p y. fast_query s p y t) (λ p y. fast_query (as_loom s) p y t) (fast-same B.roomier (node_of m) S t) ∙ sym P',
      λ t silent a a' P P'. P ∙ asked-alike s m m' B (λ p y. settled_query s p y t silent) (λ p y. settled_query (as_loom s) p y t silent)
          (settled_same B.roomier (node_of m) S t silent) ∙ sym P',
      written-alike s m m' B,
    )

pub code-rack-packets-as-loom : CodeRackPacketsAsLoom
unfolding CodeRackPacketsAsLoom
code-rack-packets-as-loom s m m' R =
    let B = along s m m' R in
    let S = node-sound s m m' B in (
      λ beat bytes a a' P P' n. P
          ∙ asked-alike s m m' B (λ p y. fit_query s p y beat bytes) (λ p y. fit_query (as_loom s) p y beat bytes)
          (fit_same B.roomier (node_of m) S beat bytes (sym (ap (refused_by by_room) (P ∙ ask-lent s (λ p y. fit_query s p y beat bytes) m B.rack)) ∙ n))
          ∙ sym P',
      λ beat one two a a' P P' n. P
          ∙ asked-alike s m m' B (λ p y. compare_query s p y beat one two) (λ p y. compare_query (as_loom s) p y beat one two)
          (compare_same B.roomier (node_of m) S beat one two (sym (ap (compared_by by_room) (P ∙ ask-lent s (λ p y. compare_query s p y beat one two) m B.rack)) ∙ n))
          ∙ sym P',
    )
