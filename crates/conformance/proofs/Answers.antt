-- What an answer of the code puts in the log is what the call's own answer puts there in `resilience`; and answers with their values seen as
-- others. Assumes nothing.
use Prim.Native.Nat.{ℕ}
use mathlib.Core.Path.{◌≡◌, refl, ap, ◌∙◌}
use mathlib.Core.Bool.{Bool}
use mathlib.Core.List.{List}
use native.Mathlib.Omega.{arith}
use Rattle.std.specs.Prelude.{Result, Ok, Err}
use Rattle.std.specs.Result.{is_ok}
use Rattle.protocol.specs.Refusal as rules
use Rattle.protocol.specs.Calls.Write as writing
use Rattle.protocol.specs.CallList.{refused_by}
use Rattle.verdicts.specs.declared.Refusal.{Refusal}
use Rattle.answers.specs.Answers.{answered, map_answer}
use Rattle.resilience.specs.Run.{Event, carried, logged, sends}
use Rattle.conformance.specs.CodeRun.{code_logged, packet_sent}

-- an answer that is done, with its value seen as another
pub done-mapped : {A B : Type 0} (value : A → B) (o : rules.Answer A) (b : B) → map_answer value o ≡ rules.done b → (a : A) × (o ≡ rules.done a) × (b ≡ value a)
unfolding map_answer
done-mapped value (rules.refused k) b e = let z : ◌≡◌ {A = ℕ} 0 1 = cc in absurd (omega arith)
done-mapped value (rules.done a) b e = (a, refl, cc)

-- it is refused by the same numbers
pub refused-mapped : {A B : Type 0} (value : A → B) (these : ℕ → Bool) (o : rules.Answer A) → refused_by these (map_answer value o) ≡ refused_by these o
unfolding refused_by map_answer
refused-mapped value these (rules.refused k) = refl
refused-mapped value these (rules.done a) = refl

-- the code answers r where the call answers o, and `of` tells what the values of code are
module _ {A B : Type 0} (of : A → B) where
  logged-said : (want : Event) (g : B → List Event) (r : Result A Refusal) → code_logged want (λ a. g (of a)) r ≡ logged want g (answered of r)
  logged-said want g (Ok a) = refl
  logged-said want g (Err e) = refl

  carried_same : (r : Result A Refusal) → is_ok r ≡ carried (answered of r)
  carried_same (Ok a) = refl
  carried_same (Err e) = refl

  module _ (r : Result A Refusal) (o : rules.Answer B) (e : answered of r ≡ o) where
    pub same-events : (want : Event) (g : B → List Event) → code_logged want (λ a. g (of a)) r ≡ logged want g o
    same-events want g = logged-said want g r ∙ ap (logged want g) e

    pub same-carried : is_ok r ≡ carried o
    same-carried = carried_same r ∙ ap carried e

packet-said : (beat i : ℕ) (buffer : List ℕ) (r : Result ℕ Refusal) → packet_sent beat i buffer r ≡ sends beat i (record { answer = answered (λ n. n) r; buffer = buffer })
packet-said beat i buffer (Ok n) = refl
packet-said beat i buffer (Err e) = refl

-- the code answers r and leaves this buffer, where Write's own are o
pub same-packet : (beat i : ℕ) (buffer : List ℕ) (r : Result ℕ Refusal) (o : writing.Written) → buffer ≡ o.buffer → answered (λ n. n) r ≡ o.answer
    → packet_sent beat i buffer r ≡ sends beat i o
same-packet beat i buffer r o p q = packet-said beat i buffer r ∙ (λ k. sends beat i (record { answer = q k; buffer = p k }))
