-- `sound_indexed` meets its contract. Assumes nothing.
use borrow.Author.Tests.{leb-true}
use native.Mathlib.Omega.{arith}
use Prim.Native.Nat.{◌≤◌}
use mathlib.Core.Path.{refl, sym}
use Rattle.protocol.specs.Limits.{loom}
use Rattle.protocol.proofs.Store.Sound.{places-few}
use Rattle.soundness.proofs.sound_indexed.Goals as goal

pub tables_sound-requires-clause-block_room : goal.tables_sound-requires-clause-block_room
tables_sound-requires-clause-block_room c =
    let few = places-few _ _ (sym c.if-not-places_sound.ensures) in
    let fits = leb-true _ _ (c.in-Some.ensures.fits.0 refl) in
    let h : c.in-Some.blocks.used ≤ loom.blocks = omega (arith, c.in-Some.ensures.table.1) in
    (omega (arith, h), omega (arith, h, c.requires.block_room.1))

pub tables_sound-requires-clause-vote_room : goal.tables_sound-requires-clause-vote_room
tables_sound-requires-clause-vote_room c =
    let few = places-few _ _ (sym c.if-not-places_sound.ensures) in
    let fits = leb-true _ _ (c.in-Some-table.ensures.fits.0 refl) in
    let h : c.in-Some-table.votes.used ≤ loom.votes = omega (arith, c.in-Some-table.ensures.table.1) in
    (omega (arith, h), omega (arith, h, c.requires.vote_room.1))
