-- Where a call was carried out its node is honest, and a run that goes on is a run. Assumes nothing.
use Prim.Native.Nat.{ℕ}
use mathlib.Core.Path.{◌≡◌, sym, subst}
use mathlib.Core.Bool.{true}
use Rattle.protocol.specs.declared.Settings.{Settings}
use Rattle.protocol.specs.Store.{Places, Node}
use Rattle.protocol.specs.Refusal.{Outcome}
use Rattle.resilience.specs.Run.{Network, World, is_honest, Run, then_step, Onward, no_step, next, CarriedOut}
use Rattle.resilience.proofs.Steps.Allowed.{is_true, due-honest}

pub run_on : {N : Network} {u w : World} → Run N u → Onward N u w → Run N w
run_on R no_step = R
run_on R (next O s a) = then_step (run_on R O) s a

module _ {A : Type 0} {N : Network} {call : Settings → Places → Node → ℕ → Outcome A} {i b : ℕ} {u : World} (C : CarriedOut N call i b u) where
  pub carried-honest : is_honest N i ≡ true
  carried-honest = (due-honest N C.before i C.number (is_true _ C.due)).0

  pub carried-run : Run N u
  carried-run = subst (λ (o : World). Run N o) (sym C.left) (then_step C.run _ C.due)
