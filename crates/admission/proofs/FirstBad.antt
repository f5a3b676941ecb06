-- The index of the first entry that is not allowed, by the turns of a loop over the entries. Assumes nothing.
use Prim.Native.Nat.{ℕ, suc, ◌+◌, ◌≤◌, ◌<◌}
use mathlib.Core.Bool.{Bool, true, false, cond, false≢true}
use mathlib.Core.List.{List}
use mathlib.Core.Path.{◌≡◌, refl, ap, sym, ◌∙◌}
use native.Mathlib.Omega.{arith}
use lib.ListN.{length, get_or, take, drop, drop_of_length-le}
use lib.Dec.{leb, ltb}
use Rattle.protocol.specs.Entry.{Block, Vote}
use Rattle.protocol.specs.Chain.{Lookup, find, found_with, genesis}
use Rattle.protocol.specs.Sound.{in_range}
use Rattle.protocol.proofs.Basics.Tests.{and_right}
use Rattle.index.specs.Links.{lookup_at}
use Rattle.protocol.specs.Calls.Receive.{add_blocks, block_allowed, vote_allowed, first_bad_block, first_bad_vote}
use Rattle.packets.specs.Header.{no_vote}
use Rattle.admission.specs.Lookup.{block_passes, vote_passes}
use Rattle.packets.proofs.Turns.{rest-entry, front-entry}
use Rattle.admission.proofs.Known.{add_blocks-end}

-- ---- the rules of an entry, by what was found

module _ {r : Bool} where
  pub block-told : (slot : ℕ) (before : List Block) (c : Block) {b : Block} {parent old : Lookup} → b ≡ c → parent ≡ find before b.parent → old ≡ find before b.number
      → r ≡ block_passes slot b parent old → r ≡ block_allowed slot before c
  unfolding block_allowed block_passes
  block-told slot before c e p o q = rw (← e) (q ∙ rw (p, o))

  pub vote-told : (n slot : ℕ) (bs : List Block) (a : Vote) {f : Lookup} → f ≡ find bs a.number → r ≡ vote_passes n slot a f → r ≡ vote_allowed n slot bs a
  unfolding vote_allowed vote_passes
  vote-told n slot bs a e q = q ∙ rw e

-- the block of a vote that is allowed was found
pub vote-found : (n slot : ℕ) (a : Vote) (bs : List Block) (link : ℕ) {f : Lookup} → f ≡ lookup_at bs link → vote_passes n slot a f ≡ true → link ≡ 0 → ⊥
unfolding vote_passes found_with lookup_at
vote-found n slot a bs link e h z =
    let q = and_right (in_range 1 slot a.slot) _ (and_right (ltb a.voter n) _ h) in
    false≢true (sym (ap (found_with (λ b. leb b.slot a.slot)) (e ∙ ap (lookup_at bs) z)) ∙ q)

-- ---- one turn of a loop over the entries, i of them seen

pub block-begin : (slot : ℕ) (before bs : List Block) → first_bad_block slot before bs ≡ 0 + first_bad_block slot (add_blocks before (take 0 bs)) (drop 0 bs)
unfolding add_blocks
block-begin slot before bs = omega arith

module _ (slot : ℕ) (before bs : List Block) (i : ℕ) where
  next : i < length bs
      → first_bad_block slot (add_blocks before (take i bs)) (drop i bs)
      ≡ cond (block_allowed slot (add_blocks before (take i bs)) (get_or bs i genesis)) (suc (first_bad_block slot (add_blocks before (take (i + 1) bs)) (drop (i + 1) bs))) 0
  unfolding first_bad_block
  next h =
      rw (rest-entry bs genesis i h refl, front-entry bs genesis i h refl, add_blocks-end before (take i bs) (get_or bs i genesis))

  pub block-good : i < length bs → block_allowed slot (add_blocks before (take i bs)) (get_or bs i genesis) ≡ true
      → i + first_bad_block slot (add_blocks before (take i bs)) (drop i bs) ≡ i + 1 + first_bad_block slot (add_blocks before (take (i + 1) bs)) (drop (i + 1) bs)
  block-good h e = rw (next h, e) (omega arith)

  pub block-bad : i < length bs → block_allowed slot (add_blocks before (take i bs)) (get_or bs i genesis) ≡ false
      → i + first_bad_block slot (add_blocks before (take i bs)) (drop i bs) ≡ i
  block-bad h e = rw (next h, e) (omega arith)

  pub block-end : length bs ≤ i → i + first_bad_block slot (add_blocks before (take i bs)) (drop i bs) ≡ i
  unfolding first_bad_block
  block-end h = rw (drop_of_length-le bs h) (omega arith)

module _ (n slot : ℕ) (bs : List Block) (vs : List Vote) (i : ℕ) where
  pub vote-good : {a : Vote} → i < length vs → a ≡ get_or vs i no_vote → vote_allowed n slot bs a ≡ true
      → i + first_bad_vote n slot bs (drop i vs) ≡ i + 1 + first_bad_vote n slot bs (drop (i + 1) vs)
  unfolding first_bad_vote
  vote-good h r e = rw (rest-entry vs no_vote i h r, e) (omega arith)

  pub vote-bad : {a : Vote} → i < length vs → a ≡ get_or vs i no_vote → vote_allowed n slot bs a ≡ false → i + first_bad_vote n slot bs (drop i vs) ≡ i
  unfolding first_bad_vote
  vote-bad h r e = rw (rest-entry vs no_vote i h r, e) (omega arith)

  pub vote-end : length vs ≤ i → i + first_bad_vote n slot bs (drop i vs) ≡ i
  unfolding first_bad_vote
  vote-end h = rw (drop_of_length-le vs h) (omega arith)
