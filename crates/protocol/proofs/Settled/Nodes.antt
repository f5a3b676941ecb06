-- The laws of the settled block for a sound node, as its call answers it; the set of silent nodes is a word. Assumes nothing.
use Prim.Native.Nat.{ℕ, ◌≤◌, ◌<◌}
use mathlib.Core.Path.{◌≡◌, sym, ap, ◌∙◌}
use mathlib.Core.Bool.{true, false}
use native.Mathlib.Omega.{arith}
use Rattle.protocol.specs.Entry.{Block, Vote}
use Rattle.protocol.specs.declared.Settings.{Settings}
use Rattle.protocol.specs.Words.{bit_of}
use Rattle.protocol.specs.Chain.{at_or_above}
use Rattle.protocol.specs.Store.{view_of, Places, Node}
use Rattle.protocol.specs.Settled.{Farthest}
use Rattle.protocol.specs.Calls.Vote.{head_of}
use Rattle.protocol.specs.Calls.Query.{settled_of}
use Rattle.protocol.proofs.Chain.Relations.{In}
use Rattle.protocol.proofs.Filters.Relations.{Cast}
use Rattle.protocol.proofs.Store.Sound.{IsSound, store-sound, view-sound}
use Rattle.protocol.proofs.Store.Views.{view-stored}
use Rattle.protocol.proofs.Settled.Farthest.{settled-farthest, farthest-one, settled-none, settled-more, settled-head}

module _ {s : Settings} {pl : Places} {x : Node} (G : IsSound s pl x) (t : ℕ) where
  -- a vote in view is for a block in view of no later slot
  view-votes : (a : Vote) → Cast a (view_of x.votes) → (b : Block) × In b (view_of x.blocks) × (b.number ≡ a.number) × (b.slot ≤ a.slot)
  view-votes a m =
      let b = G.closed-votes a m in
      let c = (G.votes a (view-stored x.votes a m)).on in
      let e : c.0.slot ≡ b.0.slot = ap (λ o. o.slot) ((store-sound G).unique c.0 b.0 c.1 (view-stored x.blocks b.0 b.1) (c.2 ∙ sym b.2)) in
      (b.0, b.1, b.2, omega (arith, e, c.3))

  -- it is the farthest block on the chain of the head of every filling, and the only one
  pub node-farthest : (set : ℕ) → Farthest (view_of x.blocks) (view_of x.votes) s.nodes s.expiry t (bit_of set) (settled_of s x t set)
  unfolding settled_of
  node-farthest set = settled-farthest (view-sound G) (view_of x.votes) s.nodes s.expiry t (bit_of set)

  pub node-one : (set r : ℕ) → Farthest (view_of x.blocks) (view_of x.votes) s.nodes s.expiry t (bit_of set) r → r ≡ settled_of s x t set
  unfolding settled_of
  node-one set r f = farthest-one (view-sound G) (view_of x.votes) s.nodes s.expiry t (bit_of set) r f

  -- with no silent node it is the head
  pub node-none : (set : ℕ) → ((v : ℕ) → v < s.nodes → bit_of set v ≡ false) → settled_of s x t set ≡ head_of s x t
  unfolding settled_of head_of
  node-none set f = settled-none (view-sound G) (view_of x.votes) s.nodes s.expiry t (bit_of set) f

  -- a set with more nodes leaves it or moves it down its chain
  pub node-more : (few many : ℕ) → ((v : ℕ) → v < s.nodes → bit_of few v ≡ true → bit_of many v ≡ true)
      → at_or_above (view_of x.blocks) (settled_of s x t few) (settled_of s x t many) ≡ true
  unfolding settled_of
  node-more few many inside = settled-more (view-sound G) (view_of x.votes) s.nodes s.expiry t view-votes (bit_of few) (bit_of many) inside

  -- it is on the head's chain
  pub node-head : (set : ℕ) → at_or_above (view_of x.blocks) (head_of s x t) (settled_of s x t set) ≡ true
  unfolding settled_of head_of
  node-head set = settled-head (view-sound G) (view_of x.votes) s.nodes s.expiry t view-votes (bit_of set)
