-- The promise of a call that changes the memory, from what the call's definition comes to. Assumes nothing.
use mathlib.Core.Path.{◌≡◌, ap, refl}
use Rattle.std.specs.Prelude.{Ok, Err}
use Rattle.protocol.specs.Refusal.{refused, done}
use Rattle.protocol.specs.Lent.{Lent, LentOutcome}
use Rattle.verdicts.specs.declared.Refusal.{Refusal}
use Rattle.verdicts.specs.Verdict.{refusal_of}
use Rattle.answers.specs.Promises.{Leaves}

module _ {A B : Type 0} {of : A → B} {y : LentOutcome B} {m : Lent} where
  -- refused, everything is as it was
  pub left-refused : {e : Refusal} → y ≡ record { answer = refused (refusal_of e); lent = m } → Leaves of y m (Err e)
  left-refused f = rw f (record { memory = refl; answer = refl })

  pub left-done : {a : A} {b : B} {after : Lent} → y ≡ record { answer = done b; lent = after } → m ≡ after → of a ≡ b → Leaves of y m (Ok a)
  left-done f h v = rw f (record { memory = h; answer = ap (λ b. done b) v })
