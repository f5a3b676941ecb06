-- The header of a packet with its two counts, as code hands it on. Assumes nothing.
use Rattle.std.specs.Prelude.{ℕ, List, length}
use Rattle.protocol.specs.Entry.{Vote}
use Rattle.protocol.specs.Words.{number_as}
use Rattle.protocol.specs.Packet.{packet_of}
use Rattle.packets.specs.declared.Header.{Header}

unfoldable pub header_of : List ℕ → Header
header_of bs =
    record {
      kind = (packet_of bs).kind;
      slot = (packet_of bs).slot;
      number = number_as (packet_of bs).number;
      blocks = length (packet_of bs).blocks;
      votes = length (packet_of bs).votes;
    }

-- what stands for a vote where there is none
abbrev pub no_vote : Vote
no_vote = record { voter = 0; slot = 0; number = 0 }
