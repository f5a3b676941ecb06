-- The figures of Fit, of the code, by the promises of the calls alone: they are what Receive and then a wide Write find. The claim is the one
-- of protocol/specs/Figures. Assumes nothing.
use Rattle.std.specs.Prelude.{ℕ, ◌+◌, ◌≤◌, ◌≡◌, true, false, List, length, Result}
use Rattle.protocol.specs.declared.Settings.{Settings}
use Rattle.protocol.specs.declared.Profile.{Profile}
use Rattle.protocol.specs.declared.Width.TheVariants.{Wide}
use Rattle.protocol.specs.Limits.{limits_of, keeping_to}
use Rattle.protocol.specs.Store.{kept_from}
use Rattle.protocol.specs.Packet.{packet_of}
use Rattle.protocol.specs.Refusal as rules
use Rattle.protocol.specs.Refusal.{first, answer_unless}
use Rattle.protocol.specs.Calls.Receive.{viewed_at_once, Received, receive_tests, receive_answer, receive_into}
use Rattle.protocol.specs.Calls.Write.{packet_out}
use Rattle.protocol.specs.Calls.Fit.{figures_of}
use Rattle.protocol.specs.Lent.{Lent, places_of, node_of, lent_sound}
use Rattle.protocol.specs.Removal.{others}
use Rattle.protocol.specs.Figures.{in_place_of_ten, figures_in}
use Rattle.verdicts.specs.declared.Refusal.{Refusal}
use Rattle.answers.specs.declared.Received as answers
use Rattle.answers.specs.declared.Figures.{Figures}
use Rattle.answers.specs.Answers.{answered, received_of, figures_of as figures_told}
use Rattle.answers.specs.Promises.{Receives, Writes, IsFit}

unfoldable pub CodeFiguresFound : Type 0
CodeFiguresFound =
    -- any memory, sound or not, any beat and any bytes; Fit answered r
    (s : Settings) (m : Lent) (beat : ℕ) (bytes : List ℕ) (r : Result Figures Refusal) → IsFit s m beat bytes r →
    let x = node_of m in
    let p = packet_of bytes in
    let from = kept_from s m.clock.merged in
    let f = figures_of from x p in
    -- "It refuses as Receive would, but gives the figures in place of 10": whatever Receive answered and left on the same memory
    ((y : Lent) (a : Result answers.Received Refusal) → Receives s m beat bytes y a →
    (t : rules.Answer Received) × (answered received_of a ≡ t) × (answered figures_told r ≡ in_place_of_ten f t))
    -- if it is sound:
    × (lent_sound s m ≡ true →
    -- "on tables with enough places": other sound memory that holds the same entries, marks and clock, its own profile's or another's that
    -- asks the same of the packet's length,
    ((profile : Profile) (m' : Lent) → lent_sound (keeping_to profile s) m' ≡ true → node_of m' ≡ x →
    (limits_of profile).too_long (length bytes) ≡ (limits_of s.profile).too_long (length bytes) →
    m.blocks_used + f.new_blocks ≤ (places_of m').blocks → m.votes_used + f.new_votes ≤ (places_of m').votes →
    -- whatever "Receive and a wide Write then find", with buffer enough: the figures, or the same refusal
    (y : Lent) (a : Result answers.Received Refusal) → Receives (keeping_to profile s) m' beat bytes y a →
    (old new : List ℕ) (w : Result ℕ Refusal) → f.bytes ≤ length old → Writes (keeping_to profile s) y false Wide old new w →
    (t : rules.Answer Received) × (answered received_of a ≡ t) × (answered figures_told r ≡ figures_in t (answered (λ n. n) w)))
    -- "past the largest tables they are the same sums": those of a Receive and of the wide gossip after it that no size refuses
    × (answered figures_told r
    ≡ answer_unless (first (others (receive_tests s (places_of m) x beat bytes)))
    (record {
      new_blocks = (receive_answer from x beat p).new_blocks;
      new_votes = (receive_answer from x beat p).new_votes;
      bytes = length (packet_out false Wide (receive_into from (viewed_at_once x beat p) beat x p));
    })))
