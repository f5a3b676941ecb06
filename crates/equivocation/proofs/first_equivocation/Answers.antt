-- `first_equivocation` meets its contract. Assumes nothing.
use native.Mathlib.Omega.{arith}
use Prim.Native.Nat.{ℕ, ◌≤◌}
use mathlib.Core.List.{List, [], ◌++◌}
use mathlib.Core.Path.{◌≡◌, ap, sym, ◌∙◌}
use lib.ListN.{length, replicate, take, drop}
use Rattle.protocol.specs.Packet.{packet_of}
use Rattle.protocol.specs.Equivocation.{FirstEquivocation}
use Rattle.protocol.specs.EquivocationPasses.{among_themselves, against_others, three_passes, PassesFind}
use Rattle.protocol.proofs.Equivocation.Passes.{passes-find}
use Rattle.search_tree.specs.Tree.{Blank}
use Rattle.index.proofs.Cells.{part-blank, part_room, part_length, freed, back-length}
use Rattle.equivocation.proofs.first_equivocation.Goals as goal

-- of the links, all free, the first m were written and came back as ys
module _ (links : List ℕ) (e : links ≡ replicate 81919 0) (m : ℕ) (h : m ≤ 81919) (ys : List ℕ) (f : length ys ≡ length (take m links)) where
  written : length ys ≡ m
  written = f ∙ part_length 81919 m h e

  size : length (take m (ys ++ drop m links)) ≡ m
  size = back-length m ys (drop m links) written

  -- once they are freed, as zs, all links are free again
  all-free : (zs : List ℕ) → length zs ≡ length (take m (ys ++ drop m links)) → Blank zs → zs ++ drop m (ys ++ drop m links) ≡ replicate 81919 0
  all-free zs g b = freed 81919 m h e ys zs written (g ∙ size) b

pub among_themselves-among_one-requires : goal.among_themselves-among_one-requires
among_themselves-among_one-requires c =
    let l = c.packet_span-span.ensures in (
      part_room 81919 _ l.1 c.requires c.salt_for-salt.result (omega (arith, c.count-count.ensures)) (rw (sym c.count-count.ensures.0) (omega (arith, l.0))),
      part-blank 81919 _ l.1 c.requires,
    )

pub among_themselves-requires : goal.among_themselves-requires
among_themselves-requires c =
    let l = c.packet_span-later_span.ensures in
    let e = all-free c.args.links.now c.requires _ c.packet_span-span.ensures.1 c.among_themselves-among_one.new.links c.among_themselves-among_one.auto.links c.free_all.new.links c.free_all.auto.links c.free_all.ensures in (
      part_room 81919 _ l.1 e c.salt_for-later_salt.result (omega (arith, c.count-later_count.ensures))
          (rw (sym c.count-later_count.ensures.0) (omega (arith, l.0))),
      part-blank 81919 _ l.1 e,
    )

pub returns : goal.returns
unfolding three_passes PassesFind
returns c =
    let vs = (packet_of c.args.one.now).votes in
    let ws = (packet_of c.args.two.now).votes in
    c.among_themselves.ensures.0
    ∙ ap (λ (b : FirstEquivocation). among_themselves [] b ws) (c.against_others-across.ensures ∙ ap (λ (b : FirstEquivocation). against_others vs b ws) c.among_themselves-among_one.ensures.0)
    ∙ passes-find vs ws
