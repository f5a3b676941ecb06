-- `join_slot` meets its contract. Assumes nothing.
use mathlib.Core.Path.{ap}
use Rattle.index.specs.Keys.{slot_key_of}
use Rattle.index.proofs.Added.{added-index, added-points}
use Rattle.index.proofs.join_slot.Goals as goal

pub returns : goal.returns
returns c = (rw (ap slot_key_of c.requires.3) (added-points c.join.ensures), added-index c.join.ensures c.requires.1.1 c.requires.2)
