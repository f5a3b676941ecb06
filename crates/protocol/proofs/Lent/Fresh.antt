-- The first row of sound memory is block 0, in view: alone, with a fresh clock, it is a fresh node in the same places. Assumes nothing.
use Prim.Native.Nat.{ℕ, zero, suc, ◌/◌}
use mathlib.Core.Path.{◌≡◌, refl}
use mathlib.Core.Bool.{true, false≢true}
use mathlib.Core.List.{List, [], ◌∷◌}
use Rattle.protocol.specs.declared.Settings.{Settings}
use Rattle.protocol.specs.Chain.{genesis}
use Rattle.protocol.specs.Store.{same_block, in_view, fresh, fresh_clock}
use Rattle.protocol.specs.Sound.{blocks_sound, sound}
use Rattle.protocol.specs.Lent.{Lent, rows_of, make_block, places_of, node_of, marks_sound, lent_sound}
use Rattle.protocol.proofs.Basics.Tests.{facts, both, and_left, and_right}
use Rattle.protocol.proofs.Store.Views.{block_same}
use Rattle.protocol.proofs.Store.Sound.{sound-true, sound-holds, fresh-sound}
use Rattle.protocol.proofs.Lent.Memory.{lent-true, lent-holds}

module _ (slot : ℕ) (ws : List ℕ) where
  first-row : (n : ℕ) → blocks_sound slot (rows_of make_block ws n) ≡ true → marks_sound make_block ws n ≡ true
      → (rows_of make_block ws 1 ≡ in_view genesis ∷ []) × (marks_sound make_block ws 1 ≡ true)
  unfolding blocks_sound rows_of marks_sound
  first-row zero e f = absurd (false≢true e)
  first-row (suc n) e f =
      let m = make_block.of ws in
      let b = block_same m.entry genesis (and_left _ _ e) in
      let v : m.viewed ≡ true = and_left _ _ (and_right (same_block m.entry genesis) _ e) in
      (λ i. record { entry = b i; viewed = v i } ∷ [], both (and_left (make_block.clean ws) _ f) refl)

module _ (s : Settings) (m : Lent) (e : lent_sound s m ≡ true) where
  -- the memory with its first row alone
  abbrev alone : Lent
  alone = record { blocks = m.blocks; votes = m.votes; blocks_used = 1; votes_used = 0; clock = fresh_clock }

  row : (rows_of make_block m.blocks 1 ≡ in_view genesis ∷ []) × (marks_sound make_block m.blocks 1 ≡ true)
  unfolding sound node_of
  row =
      let L = lent-true s m e in
      let d = L.node in
      let b : blocks_sound (m.clock.seen / 3) (rows_of make_block m.blocks m.blocks_used) ≡ true = search facts in
      first-row (m.clock.seen / 3) m.blocks m.blocks_used b L.mark-blocks

  pub alone-fresh : node_of alone ≡ fresh
  unfolding node_of rows_of
  alone-fresh = λ i. record { blocks = row.0 i; votes = []; clock = fresh_clock }

  pub alone-sound : lent_sound s alone ≡ true
  unfolding marks_sound places_of
  alone-sound =
      let G = sound-true s (places_of m) (node_of m) (lent-true s m e).node in
      lent-holds s alone (record {
        mark-blocks = row.1;
        mark-votes = refl;
        node = rw alone-fresh (sound-holds (fresh-sound s (places_of m) G.settings G.places));
      })
