-- The answers of Head, Deep and Fast together are what `gather` makes of them, and an answer is that of a call with its value seen as another. Assumes nothing.
use Rattle.std.proofs.Common.{ℕ, ◌≡◌, refl, ap, sym, ◌∙◌, Option, Result, Ok, Err, IsErrAnd}
use Rattle.std.proofs.lemmas.Result.{err_from_is_err_and}
use Rattle.protocol.specs.declared.Number.{Number}
use Rattle.protocol.specs.Words.{value}
use Rattle.protocol.specs.Filters.{Choice}
use Rattle.protocol.specs.Refusal.{Answer, refused, done}
use Rattle.verdicts.specs.declared.Refusal.{Refusal}
use Rattle.verdicts.specs.Verdict.{refusal_of}
use Rattle.answers.specs.Answers.{answered, choice_of, map_answer}
use Rattle.asking.specs.Ask.{Findings, findings, gather}

-- code returns the first refusal; q is what a `?` returns of it
module _ {C : Type 0} (of : C → Findings) (q : Result C Refusal) {e : Refusal} (Q : IsErrAnd q (λ k. k ≡ e)) where
  module _ (h d : Answer ℕ) (f : Answer Choice) where
    pub head-refuses : {r : Result Number Refusal} → answered value r ≡ h → r ≡ Err e → answered of q ≡ gather h d f
    unfolding gather
    head-refuses H z = let k = err_from_is_err_and q Q in rw (k.1, k.2, sym H, z) refl

    pub deep-refuses : {r : Result Number Refusal} {b : Number} {w : Result Number Refusal} → answered value r ≡ h → r ≡ Ok b → answered value w ≡ d → w ≡ Err e → answered of q ≡ gather h d f
    unfolding gather
    deep-refuses H y D z = let k = err_from_is_err_and q Q in rw (k.1, k.2, sym H, y, sym D, z) refl

    pub fast-refuses : {r : Result Number Refusal} {b : Number} {w : Result Number Refusal} {c : Number} {t : Result (Option Number) Refusal}
        → answered value r ≡ h → r ≡ Ok b → answered value w ≡ d → w ≡ Ok c → answered choice_of t ≡ f → t ≡ Err e → answered of q ≡ gather h d f
    unfolding gather
    fast-refuses H y D z F x = let k = err_from_is_err_and q Q in rw (k.1, k.2, sym H, y, sym D, z, sym F, x) refl

pub all-found : {h d : Answer ℕ} {f : Answer Choice} {r : Result Number Refusal} {b : Number} {w : Result Number Refusal} {c : Number} {t : Result (Option Number) Refusal} {o : Option Number}
    → answered value r ≡ h → r ≡ Ok b → answered value w ≡ d → w ≡ Ok c → answered choice_of t ≡ f → t ≡ Ok o → done (findings (value b) (value c) (choice_of o)) ≡ gather h d f
unfolding gather
all-found H y D z F x = rw (sym H, y, sym D, z, sym F, x) refl

-- ---- an answer with its value seen as another

module _ {A B D : Type 0} (of : A → B) (f : B → D) {r : Result A Refusal} {h : Answer B} where
  pub map-refused : {e : Refusal} → answered of r ≡ h → r ≡ Err e → refused (refusal_of e) ≡ map_answer f h
  unfolding map_answer
  map-refused H z = rw (sym H, z) refl

  pub map-done : {a : A} → answered of r ≡ h → r ≡ Ok a → done (f (of a)) ≡ map_answer f h
  unfolding map_answer
  map-done H z = rw (sym H, z) refl
