-- One turn of the loop over parents, and its end. Assumes nothing.
use Prim.Native.Nat.{ℕ, ◌+◌, ◌≤◌, ◌<◌}
use mathlib.Core.Bool.{Bool, true, false, ◌&&◌}
use mathlib.Core.List.{List, [], ◌∷◌, ◌++◌}
use mathlib.Core.Path.{◌≡◌, ap, sym, ◌∙◌}
use native.Mathlib.Omega.{arith}
use lib.ListN.{take, drop}
use Rattle.protocol.specs.Entry.{Block}
use Rattle.protocol.specs.Chain.{genesis}
use Rattle.protocol.specs.Store.{Marked, same_block}
use Rattle.protocol.specs.Lent.{rows_of, make_block}
use Rattle.rows.specs.Rows.{row_at}
use Rattle.rows.proofs.Rows.{drop-read, drop-end, take-rows_of, rows-front}
use Rattle.soundness.specs.Parts.{parent_sound, parents_sound, chain_sound}

module _ (ws : List ℕ) (n : ℕ) where
  -- what is left to test at row i
  abbrev pub parents_from : ℕ → Bool
  parents_from i = parents_sound (take i (rows_of make_block ws n)) (drop i (rows_of make_block ws n))

  -- row i was read as m, and tested against the rows before it
  module _ (i : ℕ) {m : Marked Block} {t : Bool} (h : i < n) (r : m ≡ row_at make_block ws i) (e : t ≡ parent_sound (rows_of make_block ws i) m) where
    turn : parents_from i ≡ (t && parents_from (i + 1))
    unfolding parents_sound
    turn =
        let R = rows_of make_block ws n in
        let d : drop i R ≡ m ∷ drop (i + 1) R = drop-read make_block ws n i h r in
        let k : take (i + 1) R ≡ take i R ++ (m ∷ []) = take-rows_of make_block ws n i h ∙ ap (λ (x : Marked Block). take i R ++ (x ∷ [])) (sym r) in
        ap (parents_sound (take i R)) d
        ∙ ap (λ (b : Bool). b && parents_sound (take i R ++ (m ∷ [])) (drop (i + 1) R))
        (ap (λ (l : List (Marked Block)). parent_sound l m) (rows-front make_block ws n i (omega arith)) ∙ sym e)
        ∙ ap (λ (l : List (Marked Block)). t && parents_sound l (drop (i + 1) R)) (sym k)

    pub parents-pass : t ≡ true → parents_from i ≡ parents_from (i + 1)
    parents-pass q = turn ∙ rw q

    pub parents-fail : t ≡ false → parents_from i ≡ false
    parents-fail q = turn ∙ rw q

  pub parents-end : (i : ℕ) → n ≤ i → parents_from i ≡ true
  unfolding parents_sound
  parents-end i h = rw (drop-end make_block ws n i h)

  -- no rows, and the first row; t is what its test gave
  pub chain-none : n ≡ 0 → chain_sound (rows_of make_block ws n) ≡ false
  unfolding chain_sound rows_of
  chain-none e = rw e

  module _ {m : Marked Block} {t : Bool} (h : 0 < n) (r : m ≡ row_at make_block ws 0) (e : t ≡ (same_block m.entry genesis && m.viewed)) where
    first : chain_sound (rows_of make_block ws n) ≡ (t && parents_from 1)
    unfolding chain_sound
    first =
        let R = rows_of make_block ws n in
        let d : R ≡ m ∷ drop 1 R = drop-read make_block ws n 0 h r in
        let k : take 1 R ≡ m ∷ [] = take-rows_of make_block ws n 0 h ∙ ap (λ (x : Marked Block). x ∷ []) (sym r) in
        ap chain_sound d
        ∙ ap (λ (b : Bool). b && parents_sound (m ∷ []) (drop 1 R)) (sym e)
        ∙ ap (λ (l : List (Marked Block)). t && parents_sound l (drop 1 R)) (sym k)

    pub first-pass : t ≡ true → chain_sound (rows_of make_block ws n) ≡ parents_from 1
    first-pass q = first ∙ rw q

    pub first-fail : t ≡ false → chain_sound (rows_of make_block ws n) ≡ false
    first-fail q = first ∙ rw q
