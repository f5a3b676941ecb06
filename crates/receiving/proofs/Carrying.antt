-- The blocks that the packet names come into view, and then all ancestors of what is in view: what the packet stands on.
-- Assumes nothing.
use Prim.Native.Nat.{ℕ}
use mathlib.Core.Bool.{true}
use mathlib.Core.List.{List}
use mathlib.Core.Path.{◌≡◌, ap, ◌∙◌}
use native.Mathlib.Omega.{arith}
use lib.ListN.{length}
use Rattle.protocol.specs.Entry.{Block}
use Rattle.protocol.specs.Lists.{any_pass}
use Rattle.protocol.specs.Chain.{known, at_or_above}
use Rattle.protocol.specs.Store.{Marked, entries, view_of, view}
use Rattle.protocol.specs.Packet.{Packet}
use Rattle.protocol.specs.Lent.{rows_of, stored, make_block, block_row, marks_sound}
use Rattle.protocol.specs.Calls.Receive.{stood_on}
use Rattle.protocol.proofs.Store.Follow.{known-found}
use Rattle.protocol.proofs.Store.Tables.{table-true}
use Rattle.protocol.proofs.Basics.Members.{all_true}
use Rattle.protocol.proofs.Store.Views.{length-viewing}
use Rattle.protocol.proofs.Lent.Rows.{block-codec}
use Rattle.index.specs.Firsts.{named}
use Rattle.storing.specs.Grown.{Holds}
use Rattle.views.specs.Ancestors.{Ordered, view_ancestors}
use Rattle.views.proofs.Order.{table-ordered, ordered-viewing}
use Rattle.views.proofs.Proposal.{proposal-viewed}
use Rattle.receiving.specs.Accepted.{Carried}
use Rattle.receiving.proofs.Held.{rows-held, marks-held, over-held, viewing-held}

length-ancestors : (ms : List (Marked Block)) → length (view_ancestors ms) ≡ length ms
unfolding view_ancestors
length-ancestors ms = length-viewing (λ b. any_pass (λ c. at_or_above (entries ms) c.number b.number) (view_of ms)) ms

module _ (ws₀ : List ℕ) (n : ℕ) (p : Packet) (K : Carried (rows_of make_block ws₀ n) p) {ws₁ : List ℕ} (e₁ : ws₁ ≡ stored block_row (view (named p) (rows_of make_block ws₀ n)) ws₀) where
  abbrev R : List (Marked Block)
  R = rows_of make_block ws₀ n

  ordered : Ordered R
  ordered = table-ordered K.slot R (table-true K.slot R K.sound).0

  held : Holds (Marked Block) block_row (view (named p) R) ws₀ ws₁ n
  held = viewing-held block-codec (named p) ws₀ n e₁

  pub ordered-named : Ordered (rows_of make_block ws₁ n)
  ordered-named = rw (rows-held block-codec (view (named p) R) ws₀ held) (ordered-viewing R ordered (named p))

  pub marks-named : marks_sound make_block ws₁ n ≡ true
  marks-named = marks-held block-codec (view (named p) R) ws₀ held

  pub stood-viewed : {ws₂ : List ℕ} → ws₂ ≡ stored block_row (view_ancestors (rows_of make_block ws₁ n)) ws₁
      → ws₂ ≡ stored block_row (view (λ b. stood_on (entries R) p b) R) ws₀
  stood-viewed e₂ =
      over-held block-codec (view (named p) R) ws₀ held (view_ancestors (view (named p) R)) (omega (arith, length-ancestors (view (named p) R)))
      (e₂ ∙ ap (λ (r : List (Marked Block)). stored block_row (view_ancestors r) ws₁) (rows-held block-codec (view (named p) R) ws₀ held))
      ∙ ap (λ (r : List (Marked Block)). stored block_row r ws₀)
      (proposal-viewed p R ordered (table-true K.slot R K.sound).1
      (λ c m. known-found (entries R) c.number (all_true (λ d. known (entries R) d.number) K.blocks c m))
      (λ a m. known-found (entries R) a.number (all_true (λ d. known (entries R) d.number) K.votes a m)))
