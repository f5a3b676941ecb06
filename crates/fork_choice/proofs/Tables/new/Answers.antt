-- `Tables::new` meets its contract. Assumes nothing.
use Rattle.fork_choice.proofs.SoundTables.{are-sound}
use Rattle.fork_choice.proofs.Tables.new.Goals as goal

pub invariant_of-result : goal.invariant_of-result
invariant_of-result c = record { sound = are-sound c.requires }
