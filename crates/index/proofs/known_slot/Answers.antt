-- `known_slot` meets its contract. Assumes nothing.
use Rattle.index.proofs.known_slot.Goals as goal

pub returns : goal.returns
returns c = rw c.slot_key.ensures at c.find.ensures
