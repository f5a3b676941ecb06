-- The writer can be called on sound memory, and what it writes is the packet of the node that the memory holds. Assumes nothing.
use Prim.Native.Nat.{ℕ, zero, suc, ◌/◌}
use mathlib.Core.Path.{◌≡◌, refl}
use mathlib.Core.Bool.{Bool, true, false, false≢true}
use mathlib.Core.List.{List}
use native.Mathlib.Omega.{arith}
use Rattle.protocol.specs.declared.Settings.{Settings}
use Rattle.protocol.specs.declared.Width.{Width}
use Rattle.protocol.specs.Limits.{limits_of}
use Rattle.protocol.specs.Sound.{places_sound, blocks_sound, sound}
use Rattle.protocol.specs.Calls.Write.{gossip_of, proposal_of, sent_of, packet_out}
use Rattle.protocol.specs.Lent.{Lent, rows_of, make_block, places_of, node_of, lent_sound}
use Rattle.protocol.proofs.Basics.Tests.{and_left, and_right}
use Rattle.protocol.proofs.Store.Sound.{places-few}
use Rattle.protocol.proofs.Lent.Memory.{lent-used}
use Rattle.protocol.proofs.Lent.Rows.{blocks-fit, votes-fit}
use Rattle.writer.specs.Sent.{node_in, RowsReadable}

first-viewed : (slot : ℕ) (ws : List ℕ) (used : ℕ) → blocks_sound slot (rows_of make_block ws used) ≡ true → (make_block.of ws).viewed ≡ true
unfolding blocks_sound rows_of
first-viewed slot ws zero e = absurd (false≢true e)
first-viewed slot ws (suc n) e = search (and_left, and_right)

pub sound-readable : (s : Settings) (m : Lent) → lent_sound s m ≡ true → RowsReadable m.blocks m.blocks_used m.votes m.votes_used
unfolding lent_sound sound places_of node_of
sound-readable s m e =
    let u = lent-used s m e in
    let p : places_sound (limits_of s.profile) (places_of m) ≡ true = search (and_left, and_right) depth 14 in
    let few = places-few s.profile (places_of m) p in
    record {
      block_rows = blocks-fit m.blocks m.blocks_used u.0;
      vote_rows = votes-fit m.votes m.votes_used u.1;
      block_count = omega (arith, u.0, few.0);
      vote_count = omega (arith, u.1, few.1);
      first = first-viewed (m.clock.seen / 3) m.blocks m.blocks_used (search (and_left, and_right) depth 14);
    }

-- a packet says nothing of the clock
pub sent-held : (proposal : Bool) (width : Width) (m : Lent)
    → packet_out proposal width (node_in m.blocks m.blocks_used m.votes m.votes_used) ≡ packet_out proposal width (node_of m)
unfolding packet_out sent_of proposal_of gossip_of node_in node_of
sent-held true width m = refl
sent-held false width m = refl
