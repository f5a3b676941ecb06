-- A rack answers the questions about packets as that loom too (document 02, requests 10 and 12), over the same lists of calls as in Rack. Assumes nothing.
use Rattle.std.specs.Prelude.{ℕ, ◌≤◌, ◌≡◌, Bool, true, false, List}
use Rattle.protocol.specs.declared.Settings.{Settings}
use Rattle.protocol.specs.Store.{Places, Node}
use Rattle.protocol.specs.Refusal.{refusal_number, Answer, refused, done}
use Rattle.protocol.specs.Calls.Open.{open_node}
use Rattle.protocol.specs.Calls.Fit.{fit_query}
use Rattle.protocol.specs.Calls.Compare.{Comparison, first_refused, second_refused, compared, compare_query}
use Rattle.protocol.specs.CallList.{Call, refused_by, after_calls, meets_none}
use Rattle.protocol.specs.Rack.{as_loom, by_room}

-- of Compare: it, or one of its packets
unfoldable pub compared_by : (ℕ → Bool) → Answer Comparison → Bool
compared_by these (refused k) = these (refusal_number k)
compared_by these (done (first_refused k)) = these (refusal_number k)
compared_by these (done (second_refused k)) = these (refusal_number k)
compared_by these (done (compared f)) = false

unfoldable pub RackPacketsAsLoom : Type 0
RackPacketsAsLoom =
    -- the nodes and the calls so far are those of Rack
    (s : Settings) (pl pl' : Places) (old old' : Node) →
    (open_node s pl old).answer ≡ done tt → (open_node (as_loom s) pl' old').answer ≡ done tt →
    pl.blocks ≤ pl'.blocks → pl.votes ≤ pl'.votes →
    (cs : List Call) → meets_none by_room s pl (open_node s pl old).node cs ≡ true →
    let x = after_calls s pl (open_node s pl old).node cs in
    let y = after_calls (as_loom s) pl' (open_node (as_loom s) pl' old').node cs in
    -- every question about packets that the rack does not refuse so is answered alike
    ((beat : ℕ) (bytes : List ℕ) → refused_by by_room (fit_query s pl x beat bytes) ≡ false →
    fit_query s pl x beat bytes ≡ fit_query (as_loom s) pl' y beat bytes)
    × ((beat : ℕ) (one two : List ℕ) → compared_by by_room (compare_query s pl x beat one two) ≡ false →
    compare_query s pl x beat one two ≡ compare_query (as_loom s) pl' y beat one two)
