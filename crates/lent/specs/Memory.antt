-- The memory that a call is lent, as the definitions have it. Assumes nothing.
use Rattle.std.specs.Prelude.{◌≡◌}
use Rattle.protocol.specs.Lent as definitions
use Rattle.lent.specs.declared.Lent.{Lent}
use Rattle.lent.specs.declared.LentMut.{LentMut}

abbrev pub memory : Lent → definitions.Lent
memory m = record { blocks = m.blocks.now; votes = m.votes.now; blocks_used = m.blocks_used; votes_used = m.votes_used; clock = m.clock }

abbrev pub memory_mut : LentMut → definitions.Lent
memory_mut m = record { blocks = m.blocks.now; votes = m.votes.now; blocks_used = m.blocks_used; votes_used = m.votes_used; clock = m.clock }

-- after a call the same words are lent as before it, with the same settings
pub record IsSameLoan (old new : LentMut) : Type 0 where
  pub settings : new.settings ≡ old.settings
  pub blocks : new.blocks.ghost_name ≡ old.blocks.ghost_name
  pub votes : new.votes.ghost_name ≡ old.votes.ghost_name
