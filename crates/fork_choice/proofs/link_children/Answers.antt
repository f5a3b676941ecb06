-- `link_children` meets its contract. Assumes nothing.
use Rattle.fork_choice.proofs.Children.{linked-none}
use Rattle.fork_choice.proofs.link_children.Goals as goal

pub loop-i-init : goal.loop-i-init
loop-i-init c = record { some = c.requires.0; linked = linked-none _ _ c.requires.5 c.requires.1 }
