-- Request 8 of the code, by the promises of the calls alone: an old stock comes back narrow. The claim is the one of protocol/specs/RoundTrip.
-- Assumes nothing.
use Rattle.std.specs.Prelude.{ℕ, ◌^◌, ◌≤◌, ◌≡◌, false, List, length, take, Result, Ok}
use Rattle.protocol.specs.declared.Settings.{Settings}
use Rattle.protocol.specs.declared.Width.TheVariants.{Narrow, Wide}
use Rattle.protocol.specs.Limits.{limits_of}
use Rattle.protocol.specs.Refusal.{done}
use Rattle.protocol.specs.Calls.Write.{packet_out, over}
use Rattle.protocol.specs.Lent.{Lent, places_of, node_of}
use Rattle.protocol.specs.RoundTrip.{NumbersBelow}
use Rattle.verdicts.specs.declared.Refusal.{Refusal}
use Rattle.answers.specs.declared.Received.{Received}
use Rattle.answers.specs.Answers.{answered}
use Rattle.answers.specs.Promises.{Opens, Receives, Writes}

unfoldable pub CodeOldStock : Type 0
CodeOldStock =
    (s : Settings) (m : Lent) →
    -- "An old stock": its numbers have 64 bits
    NumbersBelow (2 ^ 64) (node_of m) →
    -- "written wide": a Write answered n and left the buffer so
    (old new : List ℕ) (n : ℕ) → Writes s m false Wide old new (Ok n) →
    -- "received as in the second demand": by a fresh node of the same n with places enough and a limit that the packet keeps to, at the sender's beat
    (s' : Settings) (before m' : Lent) → Opens s' before m' (Ok tt) →
    s'.nodes ≡ s.nodes →
    m.blocks_used ≤ (places_of before).blocks → m.votes_used ≤ (places_of before).votes → (limits_of s'.profile).too_long n ≡ false →
    (y : Lent) (r : Result Received Refusal) → Receives s' m' m.clock.seen (take n new) y r →
    let bytes = packet_out false Narrow (node_of m) in
    -- "and then written narrow", to any buffer that has room, as its sender would write it
    (buffer : List ℕ) → length bytes ≤ length buffer →
    (narrow own : List ℕ) (a b : Result ℕ Refusal) → Writes s' y false Narrow buffer narrow a → Writes s m false Narrow buffer own b →
    -- "gives the bytes of its own narrow gossip"
    (answered (λ n. n) a ≡ done (length bytes)) × (narrow ≡ over bytes buffer) × (answered (λ n. n) b ≡ done (length bytes)) × (own ≡ over bytes buffer)
