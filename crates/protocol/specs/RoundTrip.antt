-- Demand 2's round trip: a gossip packet carries the whole store;
-- what becomes of an old stock that is written wide; and that a packet's width is not seen. Assumes nothing.
use Rattle.std.specs.Prelude.{ℕ, ◌+◌, ◌-◌, ◌^◌, ◌<◌, ◌≤◌, ◌≡◌, true, false, length, get_or, take}
use mathlib.Core.List.{List, ◌∷◌, Memᴰ}
use Rattle.protocol.specs.declared.Settings.{Settings}
use Rattle.protocol.specs.declared.Width.{Width}
use Rattle.protocol.specs.declared.Width.TheVariants.{Narrow, Wide}
use Rattle.protocol.specs.Entry.{Block}
use Rattle.protocol.specs.Limits.{limits_of}
use Rattle.protocol.specs.Chain.{genesis}
use Rattle.protocol.specs.Store.{entries, in_view, all_waiting, Places, Node}
use Rattle.protocol.specs.Packet.{Packet, packet_bytes, packet_of, well_formed}
use Rattle.protocol.specs.Refusal.{done}
use Rattle.protocol.specs.Calls.Open.{open_node}
use Rattle.protocol.specs.Calls.Receive.{receive}
use Rattle.protocol.specs.Calls.Write.{write, after_genesis, packet_out, over}

-- the numbers of the store's blocks
unfoldable pub NumbersBelow : ℕ → Node → Type 0
NumbersBelow m x = (b : Block) → Memᴰ b (entries x.blocks) → b.number < m

-- exactly the store of x, all waiting but block 0, seen at its beat
abbrev pub copy_of : Node → Node
copy_of x =
    record {
      blocks = in_view genesis ∷ all_waiting (after_genesis (entries x.blocks));
      votes = all_waiting (entries x.votes);
      clock = record { seen = x.clock.seen; done = 2; merged = 0; proposed = 0 };
    }

unfoldable pub RoundTrip : Type 0
RoundTrip =
    (s : Settings) (p : Places) (x : Node) →
    -- "16-byte numbers"
    NumbersBelow (2 ^ 128) x →
    -- "a written gossip packet", narrow or wide: a Write was carried out and answered n
    (width : Width) (buffer : List ℕ) (n : ℕ) → (write s p x false width buffer).answer ≡ done n →
    -- "by a fresh node", whatever stood in its memory before Open
    (s' : Settings) (p' : Places) (old : Node) → (open_node s' p' old).answer ≡ done tt →
    -- "with the same n"
    s'.nodes ≡ s.nodes →
    -- "and places enough"
    length x.blocks ≤ p'.blocks → length x.votes ≤ p'.votes →
    -- and "a limit that the packet keeps to" (document 02, request 9)
    (limits_of s'.profile).too_long n ≡ false →
    -- "received at the sender's beat": the first n bytes of the buffer as Write left it
    (receive s' p' (open_node s' p' old).node x.clock.seen (take n (write s p x false width buffer).buffer)
    ≡ record {
      answer = done (record { new_blocks = length x.blocks - 1; new_votes = length x.votes; viewed = false });
      node = copy_of x;
    })
    -- "yields exactly the sender's stock"
    × (entries (copy_of x).blocks ≡ entries x.blocks)
    × (entries (copy_of x).votes ≡ entries x.votes)

-- Request 8: an old stock comes back narrow.
unfoldable pub OldStock : Type 0
OldStock =
    (s : Settings) (p : Places) (x : Node) →
    -- "An old stock": its numbers have 64 bits
    NumbersBelow (2 ^ 64) x →
    -- "written wide"
    (buffer : List ℕ) (n : ℕ) → (write s p x false Wide buffer).answer ≡ done n →
    -- "received as in the second demand"
    (s' : Settings) (p' : Places) (old : Node) → (open_node s' p' old).answer ≡ done tt →
    s'.nodes ≡ s.nodes →
    length x.blocks ≤ p'.blocks → length x.votes ≤ p'.votes → (limits_of s'.profile).too_long n ≡ false →
    let y = (receive s' p' (open_node s' p' old).node x.clock.seen (take n (write s p x false Wide buffer).buffer)).node in
    let bytes = packet_out false Narrow x in
    -- "and then written narrow", to any buffer that has room, "gives the bytes of its own narrow gossip"
    (buffer' : List ℕ) → length bytes ≤ length buffer' →
    (write s' p' y false Narrow buffer' ≡ record { answer = done (length bytes); buffer = over bytes buffer' })
    × (write s p x false Narrow buffer' ≡ record { answer = done (length bytes); buffer = over bytes buffer' })

-- the same packet with wide numbers
abbrev pub wider : Packet → Packet
wider p = record { kind = p.kind + 2; slot = p.slot; number = p.number; blocks = p.blocks; votes = p.votes }

-- A narrow packet and the wide one of the same header and entries are taken alike, at every beat and by every node for which the wide one is not too long.
unfoldable pub WidthUnseen : Type 0
WidthUnseen =
    (s : Settings) (p : Places) (x : Node) (beat : ℕ) (bytes : List ℕ) →
    ((i : ℕ) → i < length bytes → get_or bytes i 0 < 256) → well_formed bytes ≡ true → (packet_of bytes).kind < 2 →
    let wide = packet_bytes (wider (packet_of bytes)) in
    (limits_of s.profile).too_long (length wide) ≡ false →
    receive s p x beat bytes ≡ receive s p x beat wide
