-- A reader that is moved stands where the sum of its moves leads, or at the end, where nothing is left to read. Assumes nothing.
use Prim.Native.Nat.{ℕ, ◌+◌, ◌^◌, ◌<◌}
use mathlib.Core.Path.{◌≡◌, refl, sym, ap, ◌∙◌}
use mathlib.Core.Bool.{Bool, true, false, cond}
use mathlib.Core.List.{List}
use native.Mathlib.Omega.{arith}
use lib.Dec.{ltb}
use lib.ListN.{length, drop, drop_of_length-le}
use lib.Seq.{drop-length, drop-drop}
use borrow.Author.Tests.{ltb-true}
use denote.Ref.{Bor}
use Rattle.protocol.specs.Words.{from_halves, lower_of, upper_of, number_as}
use Rattle.protocol.specs.Packet.{number_at, count_of_blocks, count_of_votes, after_blocks, packet_at, width_of, width_in, packet_of}
use Rattle.protocol.proofs.Words.{lower-join, upper-join}
use Rattle.protocol.proofs.Packet.Ranges.{Each, Byte}
use Rattle.protocol.proofs.Packet.Numbers.{field_below}
use Rattle.protocol.proofs.Packet.Sections.{entries-count}
use Rattle.packets.specs.declared.Reader.{Reader}
use Rattle.packets.specs.declared.Header.{Header}
use Rattle.packets.specs.Reader.{position_after}
use Rattle.packets.specs.Header.{header_of}
use Rattle.packets.proofs.Fields.{field-halves}

position-drop : (bs : List ℕ) (at n : ℕ) → drop (position_after bs at n) bs ≡ drop (at + n) bs
unfolding position_after
position-drop bs at n = go (ltb (length bs) (at + n)) refl
  where
    go : (t : Bool) → ltb (length bs) (at + n) ≡ t → drop (cond t (length bs) (at + n)) bs ≡ drop (at + n) bs
    go true e =
        let l = ltb-true (length bs) (at + n) e in
        drop-length bs ∙ sym (drop_of_length-le bs {i = at + n} (omega (arith, l)))
    go false e = refl

-- a reader of these bytes has what is left from a position on
pub record Stands (r : Reader) (bs : List ℕ) (at : ℕ) : Type 0 where
  pub bytes : r.bytes.now ≡ bs
  pub left : drop r.at bs ≡ drop at bs

pub stands-new : (p : Bor (List ℕ)) (r : Reader) → (r.bytes ≡ p) × (r.at ≡ 0) → Stands r p.now 0
stands-new p r e = record { bytes = ap (λ (q : Bor (List ℕ)). q.now) e.0; left = ap (λ (at : ℕ). drop at p.now) e.1 }

module _ {r : Reader} {bs : List ℕ} {at : ℕ} (s : Stands r bs at) where
  pub stands-skip : (q : Reader) (n : ℕ) → (q.bytes ≡ r.bytes) × (q.at ≡ position_after r.bytes.now r.at n) → Stands q bs (at + n)
  stands-skip q n e =
      let here : q.at ≡ position_after bs r.at n = rw s.bytes at e.1 in
      record {
        bytes = ap (λ (p : Bor (List ℕ)). p.now) e.0 ∙ s.bytes;
        left = rw here (position-drop bs r.at n ∙ sym (drop-drop n r.at bs) ∙ ap (drop n) s.left ∙ drop-drop n at bs);
      }

  pub stands-take : (n width : ℕ) → n ≡ number_at r.bytes.now r.at width → n ≡ number_at bs at width
  unfolding number_at
  stands-take n width e = e ∙ rw (s.bytes, s.left) refl

  -- what is read of the bytes that are left
  pub stands-entry : {A : Type 0} (read : List ℕ → A) (x : A) → x ≡ read (drop r.at r.bytes.now) → x ≡ read (drop at bs)
  stands-entry read x e = e ∙ rw (s.bytes, s.left) refl

module _ (bs : List ℕ) where
  pub header-fields : let w = width_in bs in header_of bs
      ≡ record {
        kind = number_at bs 0 1;
        slot = number_at bs 1 4;
        number = number_as (number_at bs 5 w);
        blocks = count_of_blocks w bs;
        votes = count_of_votes w bs;
      }
  unfolding header_of packet_of packet_at
  header-fields = simp entries-count

  pub header_made : (kind slot upper lower half blocks at votes : ℕ) → Each Byte bs → kind ≡ number_at bs 0 1 → slot ≡ number_at bs 1 4 → 8 + upper ≡ width_of kind → lower ≡ number_at bs 5 8
      → half ≡ number_at bs 13 upper → blocks ≡ number_at bs (13 + upper) 2 → at ≡ after_blocks (8 + upper) blocks → votes ≡ number_at bs at 2
      → ◌≡◌ {A = Header} (record { kind = kind; slot = slot; number = record { lower = lower; upper = half }; blocks = blocks; votes = votes }) (header_of bs)
  header_made kind slot upper lower half blocks at votes h k s e l f b p v =
      let word : lower < 2 ^ 64 = rw l (field_below 8 5 bs h) in
      let wide : 8 + upper ≡ width_in bs = e ∙ ap width_of k in
      let whole : number_at bs 5 (width_in bs) ≡ from_halves lower half
      = ap (number_at bs 5) (sym wide) ∙ field-halves upper 5 bs ∙ (λ i. from_halves (sym l i) (sym f i)) in
      let low = sym (ap lower_of whole ∙ lower-join lower half word) in
      let high = sym (ap upper_of whole ∙ upper-join lower half word) in
      let position : 13 + upper ≡ 5 + width_in bs = omega arith in
      let count : blocks ≡ count_of_blocks (width_in bs) bs = b ∙ ap (λ (j : ℕ). number_at bs j 2) position in
      let last : votes ≡ count_of_votes (width_in bs) bs = v ∙ ap (λ (j : ℕ). number_at bs j 2) (p ∙ (λ i. after_blocks (wide i) (count i))) in
      (λ i. record { kind = k i; slot = s i; number = record { lower = low i; upper = high i }; blocks = count i; votes = last i }) ∙ sym header-fields
