-- The walk with a margin as a relation on the members of a list of blocks, for any weights and any margin k. Assumes nothing.
use Prim.Native.Nat.{ℕ, suc, ◌+◌, ◌≤◌}
use mathlib.Core.Path.{◌≡◌}
use mathlib.Core.List.{List}
use Rattle.protocol.specs.Entry.{Block}
use Rattle.protocol.proofs.Chain.Relations.{In}
use Rattle.protocol.proofs.Walk.Relations.{IsChild, IsBest}

-- c goes before d, even with k voters more for d
abbrev pub Leads : (ℕ → ℕ) → ℕ → Block → Block → Type 0
Leads w k c d = (w d.number + k ≤ w c.number) × (w d.number + k ≡ w c.number → c.number ≤ d.number)

-- the best child c of a leads every other child of a slot below t
abbrev pub Safe : (ℕ → ℕ) → ℕ → List Block → ℕ → ℕ → Block → Type 0
Safe w k bs t a c = (d : Block) → In d bs → IsChild t a d → (d.number ≡ c.number → ⊥) → Leads w k c d

-- d is another child, of a slot below t, that goes before c with k voters more
pub record Rival (w : ℕ → ℕ) (k : ℕ) (bs : List Block) (t a : ℕ) (c d : Block) : Type 0 where
  pub mem : In d bs
  pub child : IsChild t a d
  pub other : d.number ≡ c.number → ⊥
  pub heavy : w c.number ≤ w d.number + k
  pub tie : w d.number + k ≡ w c.number → d.number ≤ c.number

-- the walk from a stops at r: at a leaf, or before a best child with a rival
pub data Margin (w : ℕ → ℕ) (k : ℕ) (bs : List Block) (t r : ℕ) : ℕ → Type 0 where
  leaf : {a : ℕ} → a ≡ r → ((d : Block) → In d bs → IsChild (suc t) a d → ⊥) → Margin w k bs t r a
  halt : {a : ℕ} → a ≡ r → (c d : Block) → IsBest w bs (suc t) a c → Rival w k bs t a c d → Margin w k bs t r a
  onward : {a : ℕ} (c : Block) → IsBest w bs (suc t) a c → Safe w k bs t a c → Margin w k bs t r c.number → Margin w k bs t r a
