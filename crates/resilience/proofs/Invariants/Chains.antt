-- "At or above" in the log and in a list of blocks of the run say the same; and what is at or below one block is on one chain. Assumes nothing.
use Prim.Native.Nat.{ℕ}
use mathlib.Core.Path.{◌≡◌, refl, ap}
use mathlib.Core.Logic.{◌⊎◌, inl, inr}
use mathlib.Core.List.{List}
use native.Mathlib.Nat.{le_refl}
use native.Mathlib.Omega.{arith}
use Rattle.protocol.specs.Entry.{Block}
use Rattle.protocol.proofs.Chain.Relations
use Rattle.protocol.proofs.Chain.Above.{parent-known}
use Rattle.protocol.proofs.Chain.Relations.{In, Known, Sound, Above}
use Rattle.resilience.specs.Run.{Network, Event}
use Rattle.resilience.specs.Resilience.{OneBlock, AtOrAbove, here, on_parent}
use Rattle.resilience.proofs.Runs.Execution.{Execution, log}
use Rattle.resilience.proofs.Invariants.Blocks.{OfRun, one-block, given-positive}

module _ {N : Network} (X : Execution N) (bs : List Block) (of : (c : Block) → In c bs → OfRun X c) where
  pub above-in-log : {b x : ℕ} → Above bs b x → AtOrAbove (log X) b x
  above-in-log {b} {x} (Relations.here q) = rw q here
  above-in-log {b} {x} (Relations.up c m q z r) = rw (← q) (go (of c m) (above-in-log r))
    where
      go : OfRun X c → AtOrAbove (log X) b c.parent → AtOrAbove (log X) b c.number
      go (inl e) h = absurd (omega (arith, ap (λ o. o.number) e))
      go (inr g) h = on_parent c g h

  pub above-in-list : Sound bs → {b x : ℕ} → Known bs x → AtOrAbove (log X) b x → Above bs b x
  above-in-list S k here = Relations.here refl
  above-in-list S k (on_parent c g r) =
      let e : k.0 ≡ c = one-block X k.0 c (of k.0 k.1) (inr g) k.2 in
      let m : In c bs = rw e at k.1 in
      Relations.up c m refl (given-positive X X.end (le_refl X.end) c g) (above-in-list S (parent-known S c m) r)

-- two blocks that are at or below x are on one chain
pub log-compare : {log : List Event} → OneBlock log → {b c x y : ℕ} → x ≡ y → AtOrAbove log b x → AtOrAbove log c y → AtOrAbove log b c ⊎ AtOrAbove log c b
unfolding OneBlock
log-compare one e here q = inr (rw e q)
log-compare one e (on_parent d g r) here = inl (rw (← e) (on_parent d g r))
log-compare one e (on_parent d g r) (on_parent f h q) = log-compare one (ap (λ o. o.parent) (one d f g h e)) r q
