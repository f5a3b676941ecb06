-- What was found on the tables of what is lent, as a fact on the memory that is lent. Assumes nothing.
use Prim.Native.Nat.{ℕ}
use mathlib.Core.List.{List}
use mathlib.Core.Path.{◌≡◌, ◌∙◌}
use denote.Ref.{Bor}
use Rattle.protocol.specs.declared.Settings.{Settings}
use Rattle.lent.specs.declared.Lent.{Lent}

-- L is lent, and these are its tables' parts, as `Tables::of` says
module _ (L : Lent) {s : Settings} {b v : Bor (List ℕ)} {n k : ℕ} (es : s ≡ L.settings) (eb : b ≡ L.blocks) (en : n ≡ L.blocks_used) (ev : v ≡ L.votes) (ek : k ≡ L.votes_used) where
  pub on-tables : {X : Type 0} (f : Settings → List ℕ → ℕ → List ℕ → ℕ → X) {x : X} → x ≡ f s b.now n v.now k
      → x ≡ f L.settings L.blocks.now L.blocks_used L.votes.now L.votes_used
  on-tables f h = h ∙ (λ i. f (es i) (eb i).now (en i) (ev i).now (ek i))
