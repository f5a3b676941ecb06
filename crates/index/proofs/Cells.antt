-- The first links of an array: as many as are asked for, free at first, and free again. Assumes nothing.
use Prim.Native.Nat.{ℕ, zero, suc, ◌+◌, ◌-◌, ◌≤◌}
use mathlib.Core.List.{List, ◌∷◌, ◌++◌}
use mathlib.Core.Path.{◌≡◌, refl, ap, ◌∙◌}
use native.Mathlib.Omega.{arith}
use lib.ListN.{length, take, drop, replicate, length-replicate, replicate-append-replicate}
use lib.Seq.{take_at, drop_at}
use Rattle.search_tree.specs.Tree.{Blank, links_of}
use Rattle.search_tree.proofs.Tree.{blank-new}
use Rattle.index.specs.Keys.{packet_shape}
use Rattle.index.specs.Index.{PacketRoom}

take-zeros : (n m : ℕ) → m ≤ n → take m (replicate {A = ℕ} n 0) ≡ replicate m 0
take-zeros n zero h = refl
take-zeros zero (suc m) h = absurd (omega arith)
take-zeros (suc n) (suc m) h = ap (λ (l : List ℕ). 0 ∷ l) (take-zeros n m (omega arith))

drop-zeros : (n m : ℕ) → m ≤ n → drop m (replicate {A = ℕ} n 0) ≡ replicate (n - m) 0
drop-zeros n zero h = let z : n - 0 ≡ n = omega arith in rw z
drop-zeros zero (suc m) h = absurd (omega arith)
drop-zeros (suc n) (suc m) h = let z : suc n - suc m ≡ n - m = omega arith in rw z (drop-zeros n m (omega arith))

module _ (n m : ℕ) (h : m ≤ n) where
  -- the first m of n free links
  module _ {links : List ℕ} (e : links ≡ replicate n 0) where
    pub part-blank : Blank (take m links)
    part-blank = rw (e, take-zeros n m h) (blank-new m)

    pub part_room : (salt : ℕ) {count : ℕ} → count ≤ 65535 → links_of (packet_shape salt) count ≤ m → PacketRoom salt count (take m links)
    part_room salt c s = rw (e, take-zeros n m h, length-replicate {A = ℕ} m 0) (c, s)

    pub part_length : length (take m links) ≡ m
    part_length = rw (e, take-zeros n m h) (length-replicate {A = ℕ} m 0)

    -- others were written there, and are free again: then all links are
    pub freed : (ys zs : List ℕ) → length ys ≡ m → length zs ≡ m → Blank zs → zs ++ drop m (ys ++ drop m links) ≡ replicate n 0
    freed ys zs f g b =
        let z : m + (n - m) ≡ n = omega arith in
        let zeros : zs ≡ replicate m 0 = b ∙ ap (λ k. replicate k 0) g in
        ap (λ (l : List ℕ). l ++ drop m (ys ++ drop m links)) zeros
        ∙ ap (λ (l : List ℕ). replicate m 0 ++ l) (drop_at ys (drop m links) m f ∙ ap (λ (l : List ℕ). drop m l) e ∙ drop-zeros n m h)
        ∙ replicate-append-replicate m (n - m) 0 ∙ ap (λ k. replicate k 0) z

-- the first m links, written and put back before the others
module _ (m : ℕ) (ys xs : List ℕ) (e : length ys ≡ m) where
  pub part-back : take m (ys ++ xs) ≡ ys
  part-back = take_at ys xs m e

  pub back-length : length (take m (ys ++ xs)) ≡ m
  back-length = ap length part-back ∙ e
