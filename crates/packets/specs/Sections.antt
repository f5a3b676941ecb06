-- The laws of both sections of a packet: where their entries stand, and that bytes which are not there count as 0. Assumes nothing.
use Rattle.std.specs.Prelude.{ℕ, zero, suc, ◌+◌, ◌*◌, ◌≡◌, List, [], ◌∷◌, get_or, drop}
use mathlib.Core.Path.{ap, refl}
use native.Mathlib.Omega.{arith}
use lib.Seq.{take-nil}
use Rattle.protocol.specs.Packet.{number_of, number_at, entries_at, block_width, vote_width, read_block, read_vote, after_blocks, count_of_blocks, width_in, packet_of, packet_at}

pub section_blocks : (bs : List ℕ) → (packet_of bs).blocks
    ≡ entries_at (read_block (width_in bs)) (block_width (width_in bs)) (number_at bs (5 + width_in bs) 2) (drop (5 + width_in bs + 2) bs)
unfolding packet_of packet_at
section_blocks bs =
    let w = width_in bs in
    let e : 7 + w ≡ 5 + w + 2 = omega arith in
    ap (λ (k : ℕ). entries_at (read_block w) (block_width w) (count_of_blocks w bs) (drop k bs)) e

pub section_votes : (bs : List ℕ) → let at = after_blocks (width_in bs) (count_of_blocks (width_in bs) bs) in (packet_of bs).votes
    ≡ entries_at (read_vote (width_in bs)) (vote_width (width_in bs)) (number_at bs at 2) (drop (at + 2) bs)
unfolding packet_of packet_at
section_votes bs = refl

pub field_low : (bs : List ℕ) (at k : ℕ) → number_at bs at (suc k) ≡ get_or bs at 0 + 256 * number_at bs (suc at) k
unfolding number_at number_of
field_low [] zero k = rw take-nil refl
field_low [] (suc at) k = rw take-nil refl
field_low (b ∷ bs) zero k = refl
field_low (b ∷ bs) (suc at) k = field_low bs at k

module _ (xs ys : List ℕ) (h : (i : ℕ) → get_or xs i 0 ≡ get_or ys i 0) where
  field_padded : (at k : ℕ) → number_at xs at k ≡ number_at ys at k
  field_padded at zero = unfold number_at number_of in refl
  field_padded at (suc k) = rw (field_low xs at k, field_low ys at k, h at, field_padded (suc at) k) refl

pub padded_block : (w : ℕ) (xs ys : List ℕ) → ((i : ℕ) → get_or xs i 0 ≡ get_or ys i 0) → read_block w xs ≡ read_block w ys
unfolding read_block
padded_block w xs ys h = λ i. record { number = field_padded xs ys h 0 w i; parent = field_padded xs ys h w w i; slot = field_padded xs ys h (w + w) 4 i }

pub padded_vote : (w : ℕ) (xs ys : List ℕ) → ((i : ℕ) → get_or xs i 0 ≡ get_or ys i 0) → read_vote w xs ≡ read_vote w ys
unfolding read_vote
padded_vote w xs ys h = λ i. record { voter = field_padded xs ys h 0 1 i; slot = field_padded xs ys h 1 4 i; number = field_padded xs ys h 5 w i }
