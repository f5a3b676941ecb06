-- What a packet takes of a table, one row more at each turn of a loop, and its bytes. Assumes nothing.
use Prim.Native.Nat.{ℕ, suc, ◌+◌, ◌-◌, ◌<◌, ◌≤◌}
use mathlib.Core.Path.{◌≡◌, refl, sym, ap, ◌∙◌}
use mathlib.Core.Bool.{Bool, true, false, not, ◌||◌, cond}
use mathlib.Core.List.{List, [], ◌∷◌, ◌++◌}
use native.Mathlib.Omega.{arith}
use lib.ListN.{length, take, drop, length-append, length-drop}
use lib.Seq.{sets}
use Rattle.protocol.specs.Lists.{any_pass}
use Rattle.protocol.specs.Store.{Marked, entries, view_of}
use Rattle.protocol.specs.Packet.{bytes_of, flat, section}
use Rattle.protocol.specs.Calls.Write.{over}
use Rattle.protocol.specs.Lent.{Make, rows_of}
use Rattle.protocol.proofs.Lent.Rows.{length-rows_of}
use Rattle.protocol.proofs.Packet.Numbers.{le-length}
use Rattle.rows.specs.Rows.{row_at}
use Rattle.rows.proofs.Rows.{drop-read, drop-end}
use Rattle.writer.specs.Rows.{taken, entries_bytes}
use Rattle.writer.proofs.Positions.{sets_behind, sets_over, lent-rest}

module _ {A : Type 0} where
  -- one row before others
  taken-cons : (proposal : Bool) (m : Marked A) (ms : List (Marked A)) → taken proposal (m ∷ ms) ≡ cond (not proposal || m.viewed) (m.entry ∷ taken proposal ms) (taken proposal ms)
  unfolding view_of entries
  taken-cons true m ms = refl
  taken-cons false m ms = refl

  taken-most : (proposal : Bool) (ms : List (Marked A)) → length (taken proposal ms) ≤ length ms
  unfolding view_of entries
  taken-most true [] = omega arith
  taken-most false [] = omega arith
  taken-most proposal (m ∷ ms) = rw taken-cons (go (not proposal || m.viewed) (taken-most proposal ms))
    where
      go : (t : Bool) → length (taken proposal ms) ≤ length ms → length (cond t (m.entry ∷ taken proposal ms) (taken proposal ms)) ≤ suc (length ms)
      go true h = omega arith
      go false h = omega arith

  taken-none : (proposal : Bool) → ◌≡◌ {A = List A} (taken proposal []) []
  unfolding view_of entries
  taken-none true = refl
  taken-none false = refl

-- what is taken of the rows from one on
abbrev pub rest : {A : Type 0} → Make (Marked A) → Bool → List ℕ → ℕ → ℕ → List A
rest make proposal ws n i = taken proposal (drop i (rows_of make ws n))

module _ {A : Type 0} (make : Make (Marked A)) (proposal : Bool) (ws : List ℕ) (n i : ℕ) where
  pub rest-most : length (rest make proposal ws n i) ≤ n
  rest-most = omega (arith, taken-most proposal (drop i (rows_of make ws n)), length-drop i (rows_of make ws n), length-rows_of make ws n)

  pub rest-end : n ≤ i → rest make proposal ws n i ≡ []
  rest-end h = ap (taken proposal) (drop-end make ws n i h) ∙ taken-none proposal

  -- where row i was read as m
  module _ {m : Marked A} (h : i < n) (e : m ≡ row_at make ws i) where
    pub rest-in : (not proposal || m.viewed) ≡ true → rest make proposal ws n i ≡ m.entry ∷ rest make proposal ws n (i + 1)
    rest-in t = ap (taken proposal) (drop-read make ws n i h e) ∙ taken-cons proposal m (drop (i + 1) (rows_of make ws n)) ∙ rw t refl

    pub rest-out : (not proposal || m.viewed) ≡ false → rest make proposal ws n i ≡ rest make proposal ws n (i + 1)
    rest-out t = ap (taken proposal) (drop-read make ws n i h e) ∙ taken-cons proposal m (drop (i + 1) (rows_of make ws n)) ∙ rw t refl

-- ---- a search of what is taken

module _ {A : Type 0} (p : A → Bool) where
  pub any-first : {xs ys : List A} {x : A} → xs ≡ x ∷ ys → p x ≡ true → any_pass p xs ≡ true
  unfolding any_pass
  any-first e t = rw (e, t)

  pub any-later : {xs ys : List A} {x : A} → xs ≡ x ∷ ys → p x ≡ false → any_pass p xs ≡ any_pass p ys
  unfolding any_pass
  any-later e t = rw (e, t)

  pub any-none : {xs : List A} → xs ≡ [] → any_pass p xs ≡ false
  unfolding any_pass
  any-none e = rw e

-- ---- its bytes

module _ {A : Type 0} (written : A → List ℕ) where
  bytes-cons : (x : A) (xs : List A) → entries_bytes written (x ∷ xs) ≡ written x ++ entries_bytes written xs
  unfolding entries_bytes flat
  bytes-cons x xs = refl

  pub bytes-none : {xs : List A} → xs ≡ [] → entries_bytes written xs ≡ []
  unfolding entries_bytes flat
  bytes-none e = rw e

  -- one turn: an entry is written
  module _ {x : A} {xs rest : List A} (e : xs ≡ x ∷ rest) where
    pub length-turn : length (entries_bytes written xs) ≡ length (written x) + length (entries_bytes written rest)
    length-turn = rw (e, bytes-cons x rest, length-append) refl

    pub bytes-turn : (at n : ℕ) (ys zs : List ℕ) → length (written x) ≡ n → zs ≡ sets ys at (written x)
        → sets ys at (entries_bytes written xs) ≡ sets zs (at + n) (entries_bytes written rest)
    bytes-turn at n ys zs l f = rw (e, bytes-cons x rest, f) (sym (sets_behind ys at n (written x) (entries_bytes written rest) l))

  -- a section is its count and its entries
  section-parts : (xs : List A) → section written xs ≡ bytes_of 2 (length xs) ++ entries_bytes written xs
  unfolding section entries_bytes
  section-parts xs = refl

  pub section-size : (xs : List A) → length (section written xs) ≡ 2 + length (entries_bytes written xs)
  section-size xs = rw (section-parts xs, length-append, le-length) refl

  -- the count written, and the entries into the rest behind it
  pub section-lent : (xs : List A) (n : ℕ) (ys us vs : List ℕ) → n ≡ length xs → 2 + length (entries_bytes written xs) ≤ length ys → us ≡ sets ys 0 (bytes_of 2 n)
      → vs ≡ over (entries_bytes written xs) (take (length us - 2) (drop 2 us)) → take 2 us ++ (vs ++ drop (length us - 2) (drop 2 us)) ≡ over (section written xs) ys
  section-lent xs n ys us vs e h f g =
      let two : length (bytes_of 2 n) ≡ 2 = le-length 2 n in
      rw (section-parts xs, ← e) (lent-rest (bytes_of 2 n) (entries_bytes written xs) ys us vs 2 two (f ∙ sets_over ys (bytes_of 2 n) (omega arith)) g)
