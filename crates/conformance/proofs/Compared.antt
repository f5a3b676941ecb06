-- What Compare of the code answers is what Receive would refuse, packet by packet, or the first equivocation of the votes of both. Assumes nothing.
use Prim.Native.Nat.{ℕ}
use mathlib.Core.Path.{◌≡◌, refl, sym, ap, ◌∙◌}
use mathlib.Core.Bool.{Bool, true, false}
use mathlib.Core.List.{List, ◌++◌}
use native.Mathlib.Omega.{arith}
use Rattle.protocol.specs.declared.Settings.{Settings}
use Rattle.protocol.specs.Store.{fresh}
use Rattle.protocol.specs.Packet.{packet_of}
use Rattle.protocol.specs.Refusal.{Refusal, Verdict, pass, refuse, first, Answer, refused, done, answer_unless}
use Rattle.protocol.specs.Equivocation.{FirstEquivocation, first_equivocation, EquivocationFound}
use Rattle.protocol.specs.Calls.Receive.{Received, receive}
use Rattle.protocol.specs.Calls.Compare.{Comparison, first_refused, second_refused, compared, fresh_verdict, refused_or, comparison, compare_query}
use Rattle.protocol.specs.Lent.{Lent, places_of, lent_sound, ask_lent}
use Rattle.protocol.proofs.Calls.Refusal.{unless-done, unless-refused}
use Rattle.protocol.proofs.Equivocation.Found.{equivocation-found}
use Rattle.protocol.proofs.Lent.Memory.{lent-true}
use Rattle.protocol.proofs.Lent.Calls.{receive-lawful, ask-lent}
use Rattle.answers.specs.Answers.{received_of}
use Rattle.conformance.specs.CodeCompared.{ReceivesFresh, CodeCompared}
use Rattle.conformance.proofs.Memory.{Healthy, called}

-- ---- what Receive answers on fresh tables is the verdict there

module _ (s : Settings) (m : Lent) (beat : ℕ) (bytes : List ℕ) where
  on-fresh : Answer Received
  on-fresh = (receive s (places_of m) fresh beat bytes).answer

  is-fresh : {r : Answer Received} → ReceivesFresh s m beat bytes r → on-fresh ≡ r
  unfolding on-fresh
  is-fresh F =
      let H : Healthy s (places_of m) F.tables = record { places = F.places; sound = F.sound } in
      sym (called s (places_of m) fresh F.tables H (sym F.is_fresh) received_of _ (receive-lawful s beat bytes) F.left F.answer F.receives).answer ∙ F.is

  refused-fresh : (k : Refusal) → ReceivesFresh s m beat bytes (refused k) → fresh_verdict s (places_of m) beat bytes ≡ refuse k
  unfolding on-fresh receive fresh_verdict
  refused-fresh k F = (unless-refused (fresh_verdict s (places_of m) beat bytes) fresh _ _ k (is-fresh F)).0

  done-fresh : (a : Received) → ReceivesFresh s m beat bytes (done a) → fresh_verdict s (places_of m) beat bytes ≡ pass
  unfolding on-fresh receive fresh_verdict
  done-fresh a F = (unless-done (fresh_verdict s (places_of m) beat bytes) fresh _ _ a (is-fresh F)).0

-- ---- Compare on lent memory

module _ (s : Settings) (m : Lent) (beat : ℕ) (one two : List ℕ) where
  answered : lent_sound s m ≡ true → ask_lent s (λ p x. compare_query s p x beat one two) m ≡ done (comparison s (places_of m) beat one two)
  unfolding compare_query first answer_unless
  answered S = ask-lent s (λ p x. compare_query s p x beat one two) m S ∙ rw (lent-true s m S).node

  -- what is compared are the votes of both packets
  found : (f : FirstEquivocation) → ask_lent s (λ p x. compare_query s p x beat one two) m ≡ done (compared f) → f ≡ first_equivocation ((packet_of one).votes ++ (packet_of two).votes)
  found f e = on (lent_sound s m) refl
    where
      in_both : (u v : Verdict) (g : FirstEquivocation) → refused_or first_refused u (refused_or second_refused v (compared g)) ≡ compared f → f ≡ g
      in_both pass pass g h = unfold refused_or in cc
      in_both pass (refuse k) g h = unfold refused_or in (let z : ◌≡◌ {A = ℕ} 0 1 = cc in absurd (omega arith))
      in_both (refuse k) v g h = unfold refused_or in (let z : ◌≡◌ {A = ℕ} 0 1 = cc in absurd (omega arith))

      inside : {c : Comparison} → ◌≡◌ {A = Answer Comparison} (done c) (done (compared f)) → c ≡ compared f
      inside h = cc

      on : (b : Bool) → lent_sound s m ≡ b → f ≡ first_equivocation ((packet_of one).votes ++ (packet_of two).votes)
      on true S = unfold comparison in (in_both _ _ _ (inside (sym (answered S) ∙ e)))
      on false S = unfold ask_lent in (let z : ◌≡◌ {A = ℕ} 0 1 = cc in absurd (omega arith))

pub code-compared : CodeCompared
unfolding CodeCompared EquivocationFound comparison refused_or ask_lent
code-compared s m beat one two r P = (
  λ U. P ∙ rw U refl,
  λ S.
      let c = P ∙ answered s m beat one two S in (
        λ k F. c ∙ rw (refused-fresh s m beat one k F) refl,
        λ k a F G. c ∙ rw (done-fresh s m beat one a F, refused-fresh s m beat two k G) refl,
        λ a b F G. c ∙ rw (done-fresh s m beat one a F, done-fresh s m beat two b G) refl,
        λ m' r' S' places P'. P' ∙ answered s m' beat one two S' ∙ ap (λ p. done (comparison s p beat one two)) places ∙ sym c,
      ),
  λ f e. rw (found s m beat one two f (sym P ∙ e)) (equivocation-found ((packet_of one).votes ++ (packet_of two).votes)),
)
