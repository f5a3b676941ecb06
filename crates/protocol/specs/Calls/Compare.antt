-- Compare: the votes of two packets held against each other (document 02, request 12). Of the node only settings and places count. Assumes nothing.
use Rattle.std.specs.Prelude.{ℕ, List, [], ◌∷◌, ◌++◌}
use Rattle.protocol.specs.declared.Settings.{Settings}
use Rattle.protocol.specs.Store.{Places, Node, fresh}
use Rattle.protocol.specs.Packet.{packet_of}
use Rattle.protocol.specs.Refusal.{Refusal, Verdict, pass, refuse, first, Answer, answer_unless, unsound}
use Rattle.protocol.specs.Equivocation.{FirstEquivocation, first_equivocation}
use Rattle.protocol.specs.Calls.Receive.{receive_tests}

-- a packet is refused, or both are compared
pub data Comparison : Type 0 where
  first_refused : Refusal → Comparison
  second_refused : Refusal → Comparison
  compared : FirstEquivocation → Comparison

-- "refused as Receive would .., each on fresh tables with this node's settings and places"
unfoldable pub fresh_verdict : Settings → Places → ℕ → List ℕ → Verdict
fresh_verdict s pl beat bytes = first (receive_tests s pl fresh beat bytes)

unfoldable pub refused_or : (Refusal → Comparison) → Verdict → Comparison → Comparison
refused_or by pass c = c
refused_or by (refuse k) c = by k

-- the first packet is tested before the second; the votes are in the order met when the first packet and then the second is read through
unfoldable pub comparison : Settings → Places → ℕ → List ℕ → List ℕ → Comparison
comparison s pl beat one two =
    refused_or first_refused (fresh_verdict s pl beat one)
    (refused_or second_refused (fresh_verdict s pl beat two) (compared (first_equivocation ((packet_of one).votes ++ (packet_of two).votes))))

unfoldable pub compare_query : Settings → Places → Node → ℕ → List ℕ → List ℕ → Answer Comparison
compare_query s pl x beat one two = answer_unless (first (unsound s pl x ∷ [])) (comparison s pl beat one two)
