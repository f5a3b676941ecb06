-- What the code answers equals what a node that never removes a vote finds: along every list of its calls the code's memory holds that
-- node without its old votes. Assumes nothing.
use Prim.Native.Nat.{ℕ}
use mathlib.Core.Path.{◌≡◌, refl, sym, ap, ◌∙◌}
use mathlib.Core.Bool.{true, false}
use Rattle.std.specs.Prelude.{Result}
use Rattle.protocol.specs.declared.Settings.{Settings}
use Rattle.protocol.specs.Lists.{passing}
use Rattle.protocol.specs.Filters.{Choice}
use Rattle.protocol.specs.Store.{rows_since, Places, Node}
use Rattle.protocol.specs.Sound.{sound}
use Rattle.protocol.specs.Refusal.{Answer, done, Outcome}
use Rattle.protocol.specs.Calls.Receive as receiving
use Rattle.protocol.specs.Calls.Propose as proposing
use Rattle.protocol.specs.Calls.Vote as voting
use Rattle.protocol.specs.Calls.Merge as merging
use Rattle.protocol.specs.Calls.Vote.{head_of}
use Rattle.protocol.specs.Calls.Query.{deep_of, fast_of, settled_of, head_query, deep_query, fast_query, settled_query}
use Rattle.protocol.specs.Lent.{Lent, places_of, node_of, lent_sound, call_lent, ask_lent}
use Rattle.protocol.specs.CallList.{Call, Receive, Propose, Vote, Merge, after_call, refused_by, meets}
use Rattle.protocol.specs.Removal.{by_ten, after_call_keeping}
use Rattle.protocol.proofs.Calls.Open.{opened as opened-fresh}
use Rattle.protocol.proofs.Lent.Memory.{lent-true}
use Rattle.protocol.proofs.Lent.Calls.{Lawful, receive-lawful, propose-lawful, vote-lawful, merge-lawful, ask-lent}
use Rattle.protocol.proofs.Removal.Calls.{made-pruned}
use Rattle.protocol.proofs.Removal.Pruned.{pruned, head-pruned, deep-pruned, fast-pruned, settled-pruned}
use Rattle.protocol.proofs.Removal.Unseen.{answered, answered-settled}
use Rattle.verdicts.specs.declared.Refusal.{Refusal}
use Rattle.answers.specs.Promises.{Leaves}
use Rattle.conformance.specs.CodeCallList.{Found, Meant, meant_by, answer_of, Promised}
use Rattle.conformance.specs.CodeRemoval.{CallsKeeping, opened, then_call, CodeRemovalUnseen}
use Rattle.conformance.proofs.Memory.{opened-done, opened-node, opened-healthy, Called, called}

module _ (s : Settings) where
  -- sound memory that holds y without its old votes
  record Beside (m : Lent) (y : Node) : Type 0 where
    sound : lent_sound s m ≡ true
    holds : pruned s y ≡ node_of m

  -- ---- one call

  module _ (m : Lent) (y : Node) (B : Beside m y) where
    abbrev pl : Places
    pl = places_of m

    node-sound : sound s pl (pruned s y) ≡ true
    node-sound = ap (sound s pl) B.holds ∙ (lent-true s m B.sound).node

    -- after the call c on the node that the memory holds
    beside : (c : Call) (o : Outcome (Meant c)) (next : Lent) (r : Result (Found c) Refusal) → Called s pl (meant_by c) o next r
        → o.node ≡ after_call s pl (pruned s y) c → refused_by by_ten o.answer ≡ meets by_ten s pl (pruned s y) c → refused_by by_ten (answer_of c r) ≡ false
        → Beside next (after_call_keeping s pl y c)
    beside c o next r C n t ten = record {
      sound = C.healthy.sound;
      holds = sym (C.node ∙ n ∙ made-pruned s pl y node-sound c (sym t ∙ sym (ap (refused_by by_ten) C.answer) ∙ ten));
    }

    told : (c : Call) (call : Places → Node → Outcome (Meant c)) → Lawful s call → (next : Lent) (r : Result (Found c) Refusal)
        → Leaves (meant_by c) (call_lent s call m) next r → Called s pl (meant_by c) (call pl (pruned s y)) next r
    told c call L next r P = called s pl (pruned s y) m (record { places = refl; sound = B.sound }) B.holds (meant_by c) call L next r P

    next-beside : (c : Call) (next : Lent) (r : Result (Found c) Refusal) → Promised s m c next r → refused_by by_ten (answer_of c r) ≡ false
        → Beside next (after_call_keeping s pl y c)
    unfolding after_call meets
    next-beside (Receive beat bytes) next r P =
        let c = Receive beat bytes in beside c _ next r (told c (λ p x. receiving.receive s p x beat bytes) (receive-lawful s beat bytes) next r P) refl refl
    next-beside (Propose beat number) next r P =
        let c = Propose beat number in beside c _ next r (told c (λ p x. proposing.propose s p x beat number) (propose-lawful s beat number) next r P) refl refl
    next-beside (Vote beat) next r P =
        beside (Vote beat) _ next r (told (Vote beat) (λ p x. voting.vote s p x beat) (vote-lawful s beat) next r P) refl refl
    next-beside (Merge beat) next r P =
        beside (Merge beat) _ next r (told (Merge beat) (λ p x. merging.merge s p x beat) (merge-lawful s beat) next r P) refl refl

  -- ---- all calls

  along : (m : Lent) (y : Node) → CallsKeeping s m y → Beside m y
  unfolding rows_since passing
  along m y (opened old now O) = record {
    sound = (opened-healthy s old now O).sound;
    holds = sym (opened-node s old now O ∙ opened-fresh s (places_of old) (node_of old) (opened-done s old now O));
  }
  along m y (then_call {m = before} {y = x} R c next r P ten) = next-beside before x (along before x R) c next r P ten

  -- ---- an answer

  module _ (m : Lent) (y : Node) (B : Beside m y) where
    -- on this node, of which `same` is known
    asked : {A : Type 0} (ask : Places → Node → Answer A) (kept : A) → ((a : A) → ask (places_of m) (pruned s y) ≡ done a → a ≡ kept)
        → (a : A) → ask_lent s ask m ≡ done a → a ≡ kept
    asked ask kept same a e = same a (ap (ask (places_of m)) B.holds ∙ sym (ask-lent s ask m B.sound) ∙ e)

    head-found : (t h : ℕ) → ask_lent s (λ p x. head_query s p x t) m ≡ done h → h ≡ head_of s y t
    unfolding head_query
    head-found t =
        asked (λ p x. head_query s p x t) (head_of s y t)
        (λ h q. let r = answered s (places_of m) (pruned s y) t (head_of s (pruned s y) t) h q in r.1 ∙ head-pruned s y t r.0)

    deep-found : (t d : ℕ) → ask_lent s (λ p x. deep_query s p x t) m ≡ done d → d ≡ deep_of s y t
    unfolding deep_query
    deep-found t =
        asked (λ p x. deep_query s p x t) (deep_of s y t)
        (λ d q. let r = answered s (places_of m) (pruned s y) t (deep_of s (pruned s y) t) d q in r.1 ∙ deep-pruned s y t r.0)

    fast-found : (t : ℕ) (f : Choice) → ask_lent s (λ p x. fast_query s p x t) m ≡ done f → f ≡ fast_of s y t
    unfolding fast_query
    fast-found t =
        asked (λ p x. fast_query s p x t) (fast_of s y t)
        (λ f q. let r = answered s (places_of m) (pruned s y) t (fast_of s (pruned s y) t) f q in r.1 ∙ fast-pruned s y t r.0)

    settled-found : (t silent r : ℕ) → ask_lent s (λ p x. settled_query s p x t silent) m ≡ done r → r ≡ settled_of s y t silent
    settled-found t silent =
        asked (λ p x. settled_query s p x t silent) (settled_of s y t silent)
        (λ b q. let r = answered-settled s (places_of m) (pruned s y) t silent b q in r.1 ∙ settled-pruned s y t r.0 silent)

pub code-removal-unseen : CodeRemovalUnseen
unfolding CodeRemovalUnseen
code-removal-unseen s m y R t =
    let B = along s m y R in (
      λ a b e. (
        λ P. head-found s m y B t b (sym P ∙ e),
        λ P. deep-found s m y B t b (sym P ∙ e),
        λ silent P. settled-found s m y B t silent b (sym P ∙ e),
      ),
      λ a o e P. fast-found s m y B t o (sym P ∙ e),
    )
