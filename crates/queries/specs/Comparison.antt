-- What Compare answers, from the verdicts on both packets. Assumes nothing.
use Rattle.std.specs.Prelude.{ℕ, List, ◌++◌}
use Rattle.protocol.specs.declared.Settings.{Settings}
use Rattle.protocol.specs.Packet.{packet_of}
use Rattle.protocol.specs.Refusal.{Verdict, Answer, done}
use Rattle.protocol.specs.Equivocation.{first_equivocation}
use Rattle.protocol.specs.Calls.Receive.{receive_tests}
use Rattle.protocol.specs.Calls.Compare.{Comparison, first_refused, second_refused, compared, refused_or}
use Rattle.protocol.specs.Lent.{Lent}
use Rattle.verdicts.specs.Lent.{first_rows, lent_verdict}

-- the verdict on a packet, where the first row of this memory alone is used: on sound tables, a fresh node's
abbrev pub first_row_verdict : Settings → Lent → ℕ → List ℕ → Verdict
first_row_verdict s m beat bytes = lent_verdict s (λ p x. receive_tests s p x beat bytes) (first_rows m)

unfoldable pub comparison_by : Verdict → Verdict → List ℕ → List ℕ → Answer Comparison
comparison_by first second one two =
    done (refused_or first_refused first (refused_or second_refused second (compared (first_equivocation ((packet_of one).votes ++ (packet_of two).votes)))))
