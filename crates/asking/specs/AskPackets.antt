-- A question about packets to a fresh node: how many places a second packet would take once a first one was received and merged; or, with nothing received,
-- what two packets say against each other. Assumes nothing.
use Rattle.std.specs.Prelude.{ℕ, ◌+◌, ◌*◌, ◌-◌, Bool, true, false, ◌||◌, cond, List, length, take, drop, ltb}
use Rattle.protocol.specs.declared.Settings.{Settings}
use Rattle.protocol.specs.Store.{Places, Node}
use Rattle.protocol.specs.Packet.{number_at}
use Rattle.protocol.specs.Refusal.{by, Answer, refused}
use Rattle.protocol.specs.Calls.Open.{open_node}
use Rattle.protocol.specs.Calls.Fit.{Figures, fit_query}
use Rattle.protocol.specs.Calls.Compare.{Comparison, compare_query}
use Rattle.answers.specs.Answers.{map_answer}
use Rattle.asking.specs.Ask.{and_then, prepared, places, empty, settings_in}

-- ---- what is found: the figures of Fit; or what Compare says

pub data PacketFindings : Type 0 where
  figures : Figures → PacketFindings
  compares : Comparison → PacketFindings

unfoldable pub ask_fit : Settings → ℕ → List ℕ → Places → Node → Answer PacketFindings
ask_fit s beat second p x = map_answer figures (fit_query s p x beat second)

unfoldable pub ask_compare : Settings → ℕ → List ℕ → List ℕ → Places → Node → Answer PacketFindings
ask_compare s beat one two p x = map_answer compares (compare_query s p x beat one two)

-- ---- the calls before them

unfoldable pub open_and_fit : Settings → ℕ → List ℕ → List ℕ → Answer PacketFindings
open_and_fit s slot bytes second = and_then (prepared s (3 * slot + 2) bytes) (ask_fit s (3 * slot + 2) second) places empty

unfoldable pub open_and_compare : Settings → ℕ → List ℕ → List ℕ → Answer PacketFindings
open_and_compare s slot one two = and_then (open_node s) (ask_compare s (3 * slot + 2) one two) places empty

-- ---- the input: as in Ask up to the slot, then the length of a first packet in 4, that packet, and a second one: for Fit, or to compare both

unfoldable pub ask_two : Bool → List ℕ → Answer PacketFindings
ask_two both bs =
    let s = settings_in bs in
    let slot = number_at bs 5 4 in
    let first = number_at bs 9 4 in
    let one = take first (drop 13 bs) in
    let two = drop (13 + first) bs in
    cond (ltb (length bs) 13 || (ltb 65536 (length bs) || ltb (length bs - 13) first)) (refused (by 8))
    (cond both (open_and_compare s slot one two) (open_and_fit s slot one two))

unfoldable pub fit_with : List ℕ → Answer PacketFindings
fit_with bs = ask_two false bs

unfoldable pub pair_with : List ℕ → Answer PacketFindings
pair_with bs = ask_two true bs
