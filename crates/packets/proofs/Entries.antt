-- Entry i of a packet is what stands at its position, a number's lower half and then its upper half. Assumes nothing.
use Prim.Native.Nat.{ℕ, ◌+◌, ◌*◌, ◌<◌, ◌≤◌}
use mathlib.Core.Path.{◌≡◌, refl, sym, ap, ◌∙◌}
use mathlib.Core.List.{List}
use native.Mathlib.Omega.{arith}
use lib.ListN.{length, drop, get_or}
use lib.Seq.{drop-drop}
use Rattle.protocol.specs.declared.Block as code
use Rattle.protocol.specs.declared.Vote as code_vote
use Rattle.protocol.specs.Words.{from_halves, block_of, vote_of}
use Rattle.protocol.specs.Packet.{number_at, entries_at, read_block, read_vote, width_of, width_in}
use Rattle.protocol.proofs.Packet.Numbers.{field-drop, field_below}
use Rattle.protocol.proofs.Packet.Ranges.{Each, Byte}
use Rattle.protocol.proofs.Packet.Sections.{entries-count, entries-at}
use Rattle.packets.proofs.Fields.{field-halves}

-- the fields at a position are those of the entry there; h is how many bytes an upper half takes
module _ (bs : List ℕ) (h at : ℕ) where
  field-here : (w k p : ℕ) → at + k ≡ p → number_at (drop at bs) k w ≡ number_at bs p w
  field-here w k p e = field-drop w at k bs ∙ ap (λ (j : ℕ). number_at bs j w) e

  -- a number of 8 + h bytes, k bytes behind
  number-here : (k p q lower upper : ℕ) → at + k ≡ p → p + 8 ≡ q → lower ≡ number_at bs p 8 → upper ≡ number_at bs q h → from_halves lower upper ≡ number_at (drop at bs) k (8 + h)
  number-here k p q lower upper e f l u =
      (λ i. from_halves (l i) ((u ∙ ap (λ (j : ℕ). number_at bs j h) (sym f)) i)) ∙ sym (field-here (8 + h) k p e ∙ field-halves h p bs)

  pub block_here : (b : code.Block) → b.number.lower ≡ number_at bs at 8 → b.number.upper ≡ number_at bs (at + 8) h → b.parent.lower ≡ number_at bs (at + (8 + h)) 8
      → b.parent.upper ≡ number_at bs (at + (16 + h)) h → b.slot ≡ number_at bs (at + (16 + 2 * h)) 4 → block_of b ≡ read_block (8 + h) (drop at bs)
  unfolding read_block
  block_here b nl nu pl pu sl =
      let n = number-here 0 at (at + 8) b.number.lower b.number.upper (omega arith) refl nl nu in
      let p = number-here (8 + h) (at + (8 + h)) (at + (16 + h)) b.parent.lower b.parent.upper refl (omega arith) pl pu in
      let s = sl ∙ sym (field-here 4 (8 + h + (8 + h)) (at + (16 + 2 * h)) (omega arith)) in
      λ i. record { number = n i; parent = p i; slot = s i }

  pub vote-here : (a : code_vote.Vote) → a.voter ≡ number_at bs at 1 → a.slot ≡ number_at bs (at + 1) 4 → a.number.lower ≡ number_at bs (at + 5) 8
      → a.number.upper ≡ number_at bs (at + 13) h → vote_of a ≡ read_vote (8 + h) (drop at bs)
  unfolding read_vote
  vote-here a vo sl nl nu =
      let v = vo ∙ sym (field-here 1 0 at (omega arith)) in
      let s = sl ∙ sym (field-here 4 1 (at + 1) refl) in
      let n = number-here 5 (at + 5) (at + 13) a.number.lower a.number.upper refl (omega arith) nl nu in
      λ i. record { voter = v i; slot = s i; number = n i }

-- ---- entry i

-- the entries of a section, where it stands at a position by the width of numbers
module _ {A : Type 0} (read : ℕ → List ℕ → A) (width : ℕ → ℕ) (front : ℕ → List ℕ → ℕ) (bs : List ℕ) (xs : List A)
    (law : xs ≡ entries_at (read (width_in bs)) (width (width_in bs)) (number_at bs (front (width_in bs) bs) 2) (drop (front (width_in bs) bs + 2) bs)) where
  abbrev w : ℕ
  w = width_in bs

  listed-count : length xs ≡ number_at bs (front w bs) 2
  listed-count = ap length law ∙ entries-count (read w) (width w) (number_at bs (front w bs) 2) (drop (front w bs + 2) bs)

  -- of a count of two bytes
  pub entry-few : (i : ℕ) → Each Byte bs → i < length xs → i ≤ 65535
  entry-few i h l = omega (arith, l, listed-count, field_below 2 (front w bs) bs h)

  -- as code finds the section
  module _ (kind upper at : ℕ) (k : kind ≡ number_at bs 0 1) (u : 8 + upper ≡ width_of kind) (f : at ≡ front (8 + upper) bs) where
    stands-at : at ≡ front w bs
    stands-at = f ∙ ap (λ (v : ℕ). front v bs) (u ∙ ap width_of k)

    pub count-there : (n : ℕ) → n ≡ number_at bs at 2 → n ≡ length xs
    count-there n e = e ∙ ap (λ (j : ℕ). number_at bs j 2) stands-at ∙ sym listed-count

    pub entry-there : (size i : ℕ) (d : A) → size ≡ width (8 + upper) → i < length xs → read (width_of kind) (drop (at + 2 + size * i) bs) ≡ get_or xs i d
    entry-there size i d e l =
        let n = number_at bs (front w bs) 2 in
        let wide : 8 + upper ≡ w = u ∙ ap width_of k in
        let below : i < n = omega (arith, l, listed-count) in
        (λ t. read (width_of (k t)) (drop (stands-at t + 2 + (e ∙ ap width wide) t * i) bs))
        ∙ ap (read w) (sym (drop-drop (width w * i) (front w bs + 2) bs))
        ∙ sym (entries-at (read w) (width w) n (drop (front w bs + 2) bs) i d below)
        ∙ ap (λ (ys : List A). get_or ys i d) (sym law)
