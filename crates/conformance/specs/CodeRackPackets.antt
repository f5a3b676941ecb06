-- Requests 10 and 12 on a rack, of the code: its questions about packets beside a loom's. The claim is the one of protocol/specs/RackPackets. Assumes nothing.
use Rattle.std.specs.Prelude.{ℕ, ◌≡◌, false, List, Option, Result}
use Rattle.protocol.specs.declared.Settings.{Settings}
use Rattle.protocol.specs.Lent.{Lent}
use Rattle.protocol.specs.CallList.{refused_by}
use Rattle.protocol.specs.Rack.{as_loom, by_room}
use Rattle.protocol.specs.RackPackets.{compared_by}
use Rattle.verdicts.specs.declared.Refusal.{Refusal}
use Rattle.equivocation.specs.declared.Equivocation.{Equivocation}
use Rattle.answers.specs.declared.Figures.{Figures}
use Rattle.answers.specs.declared.NotCompared.{NotCompared}
use Rattle.answers.specs.Answers.{answered, figures_of, compared_of}
use Rattle.answers.specs.Promises.{IsFit, IsCompared}
use Rattle.conformance.specs.CodeRack.{SameCalls}

-- Every question about packets that the rack does not refuse by 10 or 24 is answered alike, a refusal with its index.
unfoldable pub CodeRackPacketsAsLoom : Type 0
CodeRackPacketsAsLoom =
    (s : Settings) (m m' : Lent) → SameCalls s m m' →
    ((beat : ℕ) (bytes : List ℕ) (a a' : Result Figures Refusal) → IsFit s m beat bytes a → IsFit (as_loom s) m' beat bytes a' →
    refused_by by_room (answered figures_of a) ≡ false → answered figures_of a ≡ answered figures_of a')
    × ((beat : ℕ) (one two : List ℕ) (a a' : Result (Option Equivocation) NotCompared) → IsCompared s m beat one two a → IsCompared (as_loom s) m' beat one two a' →
    compared_by by_room (compared_of a) ≡ false → compared_of a ≡ compared_of a')
