-- Request 12 of the code: what Compare answers, by the promises of Compare and Receive alone, on any memory that a caller may lend. Assumes nothing.
use Rattle.std.specs.Prelude.{ℕ, ◌≡◌, true, false, List, ◌++◌, Option, Result}
use Rattle.protocol.specs.declared.Settings.{Settings}
use Rattle.protocol.specs.Store.{fresh}
use Rattle.protocol.specs.Packet.{packet_of}
use Rattle.protocol.specs.Refusal as rules
use Rattle.protocol.specs.Refusal.{Refusal, by, refused, done}
use Rattle.protocol.specs.Equivocation.{Equivocation, FirstEquivocation, equivocation, no_equivocation, first_equivocation, VotesTwice, IsFirst}
use Rattle.protocol.specs.Calls.Receive.{Received}
use Rattle.protocol.specs.Calls.Compare.{first_refused, second_refused, compared}
use Rattle.protocol.specs.Lent.{Lent, places_of, node_of, lent_sound}
use Rattle.verdicts.specs.declared.Refusal as verdicts
use Rattle.equivocation.specs.declared.Equivocation as equivocation_found
use Rattle.answers.specs.declared.Received as answers
use Rattle.answers.specs.declared.NotCompared.{NotCompared}
use Rattle.answers.specs.Answers.{answered, received_of, compared_of}
use Rattle.answers.specs.Promises.{Receives, IsCompared}

-- "as Receive would .., on fresh tables with this node's settings and places": the answer r to these bytes on sound memory, as Open leaves it
pub record ReceivesFresh (s : Settings) (m : Lent) (beat : ℕ) (bytes : List ℕ) (r : rules.Answer Received) : Type 0 where
  pub tables : Lent
  pub sound : lent_sound s tables ≡ true
  pub is_fresh : node_of tables ≡ fresh
  pub places : places_of tables ≡ places_of m
  pub left : Lent
  pub answer : Result answers.Received verdicts.Refusal
  pub receives : Receives s tables beat bytes left answer
  pub is : answered received_of answer ≡ r

unfoldable pub CodeCompared : Type 0
CodeCompared =
    -- any memory, sound or not, any beat and any bytes; Compare answered r
    (s : Settings) (m : Lent) (beat : ℕ) (one two : List ℕ) (r : Result (Option equivocation_found.Equivocation) NotCompared) → IsCompared s m beat one two r →
    let votes = (packet_of one).votes ++ (packet_of two).votes in
    (lent_sound s m ≡ false → compared_of r ≡ refused (by 6))
    -- if it is sound: "Both packets are refused as Receive would at one given beat .., the first packet tested before the second"
    × (lent_sound s m ≡ true →
    ((k : Refusal) → ReceivesFresh s m beat one (refused k) → compared_of r ≡ done (first_refused k))
    × ((k : Refusal) (a : Received) → ReceivesFresh s m beat one (done a) → ReceivesFresh s m beat two (refused k) → compared_of r ≡ done (second_refused k))
    × ((a b : Received) → ReceivesFresh s m beat one (done a) → ReceivesFresh s m beat two (done b) → compared_of r ≡ done (compared (first_equivocation votes)))
    -- the node's own entries and clock play no part: on other sound memory with the same places the answer is the same
    × ((m' : Lent) (r' : Result (Option equivocation_found.Equivocation) NotCompared) → lent_sound s m' ≡ true → places_of m' ≡ places_of m → IsCompared s m' beat one two r' → compared_of r' ≡ compared_of r))
    -- what is found in the votes of both packets, in the order "when the first packet and then the second is read through":
    × ((f : FirstEquivocation) → compared_of r ≡ done (compared f) →
    -- "Say there is no such voter exactly if the two packets together hold none";
    (f ≡ no_equivocation → (v t : ℕ) → VotesTwice votes v t → ⊥)
    × (((v t : ℕ) → VotesTwice votes v t → ⊥) → f ≡ no_equivocation)
    -- "the lowest voter, and for it the earliest slot, with two different votes .., together with the first two different blocks"
    × ((e : Equivocation) → f ≡ equivocation e → IsFirst votes e))
