-- `weigh` meets its contract. Assumes nothing.
use native.Mathlib.Omega.{arith}
use mathlib.Core.Path.{refl}
use Rattle.fork_choice.proofs.SoundTables.{sound-of, voters-fit, blocks-held, few, few-votes, words_are}
use Rattle.fork_choice.proofs.weigh.Goals as goal

pub kept_votes-requires : goal.kept_votes-requires
kept_votes-requires c =
    let T = sound-of c.args.tables in
    (few-votes T, voters-fit T, refl)

pub supporters-requires : goal.supporters-requires
supporters-requires c =
    let T = sound-of c.args.tables in
    ((blocks-held T c.args.whole).some, (few T).0, omega (arith, c.kept_votes.auto.kept), c.requires.0, c.requires.1)

pub returns : goal.returns
returns c =
    let T = sound-of c.args.tables in
    (c.supporters.ensures.0, words_are T c.args.whole c.args.expiry c.args.t c.kept_votes.ensures c.supporters.ensures.1)
