-- Blocks that come into view with those that stand on them. Assumes nothing.
use Rattle.std.specs.Prelude.{ℕ, true, List, ◌≡◌}
use Rattle.protocol.specs.Entry.{Block}
use Rattle.protocol.specs.Lists.{any_pass}
use Rattle.protocol.specs.Chain.{at_or_above}
use Rattle.protocol.specs.Store.{Marked, entries, view_of, view, view_all}
use Rattle.protocol.specs.Sound.{blocks_sound}

-- block 0 stands first and every other block after its parent, whichever are in view
abbrev pub Ordered : List (Marked Block) → Type 0
Ordered ms = (slot : ℕ) × (blocks_sound slot (view_all ms) ≡ true)

-- the blocks that a block in view stands on come into view
unfoldable pub view_ancestors : List (Marked Block) → List (Marked Block)
view_ancestors ms = view (λ b. any_pass (λ c. at_or_above (entries ms) c.number b.number) (view_of ms)) ms
