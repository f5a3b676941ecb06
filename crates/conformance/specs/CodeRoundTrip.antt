-- Demand 2's round trip of the code, by the promises of the calls alone: a gossip packet carries the whole store. The claim is the one of
-- protocol/specs/RoundTrip. Assumes nothing.
use Rattle.std.specs.Prelude.{ℕ, ◌-◌, ◌^◌, ◌<◌, ◌≤◌, ◌≡◌, false, List, length, get_or, take, Result, Ok}
use Rattle.protocol.specs.declared.Settings.{Settings}
use Rattle.protocol.specs.declared.Width.{Width}
use Rattle.protocol.specs.Limits.{limits_of}
use Rattle.protocol.specs.Store.{entries}
use Rattle.protocol.specs.Refusal.{done}
use Rattle.protocol.specs.Lent.{Lent, places_of, node_of}
use Rattle.protocol.specs.RoundTrip.{copy_of}
use Rattle.verdicts.specs.declared.Refusal.{Refusal}
use Rattle.answers.specs.declared.Received.{Received}
use Rattle.answers.specs.Answers.{answered, received_of}
use Rattle.answers.specs.Promises.{Opens, Receives, Writes}

unfoldable pub CodeRoundTrip : Type 0
CodeRoundTrip =
    (s : Settings) (m : Lent) →
    -- "16-byte numbers": two words make a number, and every word of the block table has 64 bits. Of lent memory this always holds
    ((i : ℕ) → i < length m.blocks → get_or m.blocks i 0 < 2 ^ 64) →
    -- "a written gossip packet", narrow or wide: a Write answered n and left the buffer so
    (width : Width) (old new : List ℕ) (n : ℕ) → Writes s m false width old new (Ok n) →
    -- "by a fresh node", whatever stood in its memory before Open
    (s' : Settings) (before m' : Lent) → Opens s' before m' (Ok tt) →
    -- "with the same n"
    s'.nodes ≡ s.nodes →
    -- "and places enough"
    m.blocks_used ≤ (places_of before).blocks → m.votes_used ≤ (places_of before).votes →
    -- and "a limit that the packet keeps to" (document 02, request 9)
    (limits_of s'.profile).too_long n ≡ false →
    -- "received at the sender's beat": the first n bytes of the buffer as Write left it. Whatever Receive answered and left there,
    (y : Lent) (r : Result Received Refusal) → Receives s' m' m.clock.seen (take n new) y r →
    -- it took in every entry but block 0, none of which came into view,
    (answered received_of r ≡ done (record { new_blocks = m.blocks_used - 1; new_votes = m.votes_used; viewed = false }))
    -- and "yields exactly the sender's stock", all waiting but block 0, seen at its beat
    × (node_of y ≡ copy_of (node_of m))
    × (entries (node_of y).blocks ≡ entries (node_of m).blocks)
    × (entries (node_of y).votes ≡ entries (node_of m).votes)
