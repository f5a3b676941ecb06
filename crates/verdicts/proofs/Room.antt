-- A call that passes has its room: the places that it fills, and the buffer that it writes. Assumes nothing.
use Prim.Native.Nat.{ℕ, ◌+◌, ◌≤◌}
use mathlib.Core.Path.{◌≡◌}
use mathlib.Core.Bool.{Bool}
use mathlib.Core.List.{List}
use native.Mathlib.Omega.{arith}
use lib.ListN.{length}
use borrow.Author.Tests.{ltb-false}
use Rattle.protocol.specs.Limits.{loom}
use Rattle.protocol.specs.declared.Settings.{Settings}
use Rattle.protocol.specs.declared.Width.{Width}
use Rattle.protocol.specs.Store.{entries, kept_from}
use Rattle.protocol.specs.Packet.{packet_of}
use Rattle.protocol.specs.Refusal.{pass}
use Rattle.protocol.specs.Calls.Receive.{add_blocks, add_since, blocks_after, votes_after, receive_tests}
use Rattle.protocol.specs.Calls.Propose.{propose_tests}
use Rattle.protocol.specs.Calls.Vote.{vote_tests}
use Rattle.protocol.specs.Calls.Write.{packet_out, write_tests}
use Rattle.protocol.specs.Lent.{BlocksFit, VotesFit, Lent, rows_of, make_block, make_vote, places_of, node_of}
use Rattle.protocol.proofs.Calls.Refusal.{passed}
use Rattle.protocol.proofs.Calls.Passed.{receives, proposes, votes}
use Rattle.protocol.proofs.Lent.Rows.{length-rows_of, blocks-fit, votes-fit}
use Rattle.verdicts.specs.Lent.{lent_verdict}
use Rattle.protocol.proofs.Store.Sound.{places-few}
use Rattle.soundness.proofs.Facts.{sound-memory}
use Rattle.verdicts.proofs.Passed.{passes}

module _ (s : Settings) (m : Lent) where
  -- Receive: all entries that there will be
  module _ (beat : ℕ) (bytes : List ℕ) (e : lent_verdict s (λ p x. receive_tests s p x beat bytes) m ≡ pass) where
    pub receive-room-blocks : BlocksFit (length (add_blocks (entries (rows_of make_block m.blocks m.blocks_used)) (packet_of bytes).blocks)) m.blocks
    unfolding node_of places_of blocks_after
    receive-room-blocks = blocks-fit m.blocks _ (receives s (places_of m) (node_of m) beat bytes (passes s _ m e).1).room-blocks

    pub receive-few-blocks : length (add_blocks (entries (rows_of make_block m.blocks m.blocks_used)) (packet_of bytes).blocks) ≤ loom.blocks
    unfolding node_of places_of blocks_after
    receive-few-blocks =
        let p = passes s _ m e in
        omega (arith, (receives s (places_of m) (node_of m) beat bytes p.1).room-blocks, (places-few s.profile (places_of m) (sound-memory s m p.0).node.places).0)

    pub receive-room-votes : VotesFit (length (add_since (kept_from s m.clock.merged) (entries (rows_of make_vote m.votes m.votes_used)) (packet_of bytes).votes)) m.votes
    unfolding node_of places_of votes_after
    receive-room-votes = votes-fit m.votes _ (receives s (places_of m) (node_of m) beat bytes (passes s _ m e).1).room-votes

  -- Propose: one block more
  pub propose-room : (beat number : ℕ) → lent_verdict s (λ p x. propose_tests s p x beat number) m ≡ pass → BlocksFit (m.blocks_used + 1) m.blocks
  unfolding node_of places_of
  propose-room beat number e =
      let r = (proposes s (places_of m) (node_of m) beat number (passes s _ m e).1).room in
      blocks-fit m.blocks (m.blocks_used + 1) (omega (arith, r, length-rows_of make_block m.blocks m.blocks_used))

  -- Vote: one vote more
  pub vote-room : (beat : ℕ) → lent_verdict s (λ p x. vote_tests s p x beat) m ≡ pass → VotesFit (m.votes_used + 1) m.votes
  unfolding node_of places_of
  vote-room beat e =
      let r = (votes s (places_of m) (node_of m) beat (passes s _ m e).1).room in
      votes-fit m.votes (m.votes_used + 1) (omega (arith, r, length-rows_of make_vote m.votes m.votes_used))

  -- Write: the packet
  module _ (proposal : Bool) (width : Width) (buffer : List ℕ) (e : lent_verdict s (λ p x. write_tests s p x proposal width buffer) m ≡ pass) where
    pub write-room : length (packet_out proposal width (node_of m)) ≤ length buffer
    unfolding write_tests
    write-room =
        let a = passed _ _ (passes s (λ p x. write_tests s p x proposal width buffer) m e).1 in
        let b = passed _ _ a.1 in
        let d = passed _ _ b.1 in
        ltb-false (length buffer) (length (packet_out proposal width (node_of m))) (passed _ _ d.1).0
