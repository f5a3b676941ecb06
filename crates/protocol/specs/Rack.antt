-- A rack given the settings, calls and packets of a loom with places enough behaves as that loom (document 02, request 9): over every list
-- of calls, the two side by side. Assumes nothing.
use Rattle.std.specs.Prelude.{ℕ, ◌≤◌, ◌≡◌, Bool, true, false, ◌||◌, List, eqb}
use Rattle.protocol.specs.declared.Settings.{Settings}
use Rattle.protocol.specs.declared.Profile.TheVariants.{Loom}
use Rattle.protocol.specs.declared.Width.{Width}
use Rattle.protocol.specs.Store.{Places, Node}
use Rattle.protocol.specs.Refusal.{done}
use Rattle.protocol.specs.Calls.Open.{open_node}
use Rattle.protocol.specs.Calls.Query.{head_query, deep_query, fast_query, settled_query}
use Rattle.protocol.specs.Calls.Write.{write}
use Rattle.protocol.specs.CallList.{Call, call_answer, meets, after_calls, meets_none}

-- the same settings with a loom's limits
abbrev pub as_loom : Settings → Settings
as_loom s = record { profile = Loom; nodes = s.nodes; own = s.own; expiry = s.expiry; depth = s.depth }

-- "until the rack lacks places or meets a packet too long for it": refused by 10 or 24
abbrev pub by_room : ℕ → Bool
by_room k = eqb k 10 || eqb k 24

unfoldable pub RackAsLoom : Type 0
RackAsLoom =
    -- two nodes that were opened with the same settings, the first with any limits, whatever stood in their memory before
    (s : Settings) (pl pl' : Places) (old old' : Node) →
    (open_node s pl old).answer ≡ done tt → (open_node (as_loom s) pl' old').answer ≡ done tt →
    -- "a loom with places enough": with as many as the rack
    pl.blocks ≤ pl'.blocks → pl.votes ≤ pl'.votes →
    -- "given the .. calls and packets of a loom": any calls so far, none of which the rack refused for want of places or length
    (cs : List Call) → meets_none by_room s pl (open_node s pl old).node cs ≡ true →
    let x = after_calls s pl (open_node s pl old).node cs in
    let y = after_calls (as_loom s) pl' (open_node (as_loom s) pl' old').node cs in
    -- "behaves as that loom": they hold the same entries, marks and clock; the next call that the rack does not refuse so, every question and every
    -- Write is answered alike, with the same buffer
    (x ≡ y)
    × ((c : Call) → meets by_room s pl x c ≡ false → call_answer s pl x c ≡ call_answer (as_loom s) pl' y c)
    × ((t : ℕ) → head_query s pl x t ≡ head_query (as_loom s) pl' y t)
    × ((t : ℕ) → deep_query s pl x t ≡ deep_query (as_loom s) pl' y t)
    × ((t : ℕ) → fast_query s pl x t ≡ fast_query (as_loom s) pl' y t)
    × ((t set : ℕ) → settled_query s pl x t set ≡ settled_query (as_loom s) pl' y t set)
    × ((proposal : Bool) (width : Width) (buffer : List ℕ) →
    write s pl x proposal width buffer ≡ write (as_loom s) pl' y proposal width buffer)
