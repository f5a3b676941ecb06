-- The figures of Fit are what Receive and then a wide Write find on tables with places enough (document 02, request 10). Assumes nothing.
use Rattle.std.specs.Prelude.{ℕ, ◌+◌, ◌≤◌, ◌≡◌, true, false, cond, List, length, eqb}
use Rattle.protocol.specs.declared.Settings.{Settings}
use Rattle.protocol.specs.declared.Profile.{Profile}
use Rattle.protocol.specs.declared.Width.TheVariants.{Wide}
use Rattle.protocol.specs.Limits.{limits_of, keeping_to}
use Rattle.protocol.specs.Store.{kept_from, Places, Node}
use Rattle.protocol.specs.Sound.{settings_sound, places_sound, sound}
use Rattle.protocol.specs.Packet.{packet_of}
use Rattle.protocol.specs.Refusal.{refusal_number, first, Answer, refused, done, answer_unless}
use Rattle.protocol.specs.Calls.Receive.{viewed_at_once, Received, receive_tests, receive_answer, receive_into, receive}
use Rattle.protocol.specs.Calls.Write.{packet_out, write}
use Rattle.protocol.specs.Calls.Fit.{Figures, figures_of, fit_query}
use Rattle.protocol.specs.Removal.{others}

-- "It refuses as Receive would, but gives the figures in place of 10"
unfoldable pub in_place_of_ten : Figures → Answer Received → Answer Figures
in_place_of_ten f (refused k) = cond (eqb (refusal_number k) 10) (done f) (refused k)
in_place_of_ten f (done r) = done f

-- what Receive answers, and Write after it: the first refusal, or the figures
unfoldable pub figures_in : Answer Received → Answer ℕ → Answer Figures
figures_in (refused k) w = refused k
figures_in (done r) (refused k) = refused k
figures_in (done r) (done n) = done (record { new_blocks = r.new_blocks; new_votes = r.new_votes; bytes = n })

-- "what Receive and a wide Write then find"
unfoldable pub receive_then_write : Settings → Places → Node → ℕ → List ℕ → List ℕ → Answer Figures
receive_then_write s pl x beat bytes buffer =
    let o = receive s pl x beat bytes in
    figures_in o.answer (write s pl o.node false Wide buffer).answer

unfoldable pub FiguresFound : Type 0
FiguresFound =
    -- any node, sound or not, any beat and any bytes
    (s : Settings) (pl : Places) (x : Node) (beat : ℕ) (bytes : List ℕ) →
    let p = packet_of bytes in
    let from = kept_from s x.clock.merged in
    let f = figures_of from x p in
    -- on its own tables
    (fit_query s pl x beat bytes ≡ in_place_of_ten f (receive s pl x beat bytes).answer)
    -- if it is sound:
    × (sound s pl x ≡ true →
    -- "on tables with enough places", its own profile's or another's that asks the same of the packet's length, and with buffer enough
    ((profile : Profile) (pl' : Places) (buffer : List ℕ) →
    settings_sound (keeping_to profile s) ≡ true → places_sound (limits_of profile) pl' ≡ true →
    (limits_of profile).too_long (length bytes) ≡ (limits_of s.profile).too_long (length bytes) →
    length x.blocks + f.new_blocks ≤ pl'.blocks → length x.votes + f.new_votes ≤ pl'.votes → f.bytes ≤ length buffer →
    fit_query s pl x beat bytes ≡ receive_then_write (keeping_to profile s) pl' x beat bytes buffer)
    -- "past the largest tables they are the same sums": those of a Receive and of the wide gossip after it that no size refuses
    × (fit_query s pl x beat bytes
    ≡ answer_unless (first (others (receive_tests s pl x beat bytes)))
    (record {
      new_blocks = (receive_answer from x beat p).new_blocks;
      new_votes = (receive_answer from x beat p).new_votes;
      bytes = length (packet_out false Wide (receive_into from (viewed_at_once x beat p) beat x p));
    })))
