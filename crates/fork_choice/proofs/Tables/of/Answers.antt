-- `Tables::of` meets its contract. Assumes nothing.
use Rattle.lent.specs.Memory.{memory}
use Rattle.fork_choice.proofs.SoundTables.{lent-tables}
use Rattle.fork_choice.proofs.Tables.of.Goals as goal

pub new-blocks-requires : goal.new-blocks-requires
new-blocks-requires c = (lent-tables c.args.lent.settings (memory c.args.lent) c.requires).blocks-fit

pub new-votes-requires : goal.new-votes-requires
new-votes-requires c = (lent-tables c.args.lent.settings (memory c.args.lent) c.requires).votes-fit

pub new-requires : goal.new-requires
new-requires c =
    rw (c.new-blocks.ensures.words, c.new-blocks.ensures.used, c.new-votes.ensures.words, c.new-votes.ensures.used)
    (lent-tables c.args.lent.settings (memory c.args.lent) c.requires)
