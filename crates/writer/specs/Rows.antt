-- What a packet takes of a table, and the bytes of its entries. Assumes nothing.
use Rattle.std.specs.Prelude.{ℕ, Bool, cond, List, map}
use Rattle.protocol.specs.Packet.{flat}
use Rattle.protocol.specs.Store.{Marked, entries, view_of}

-- gossip takes every row, a proposal those in view
abbrev pub taken : {A : Type 0} → Bool → List (Marked A) → List A
taken proposal ms = cond proposal (view_of ms) (entries ms)

unfoldable pub entries_bytes : {A : Type 0} → (A → List ℕ) → List A → List ℕ
entries_bytes written xs = flat (map written xs)
