-- One turn of a loop over the first n entries of a list, where entry i was read as a. Assumes nothing.
use Prim.Native.Nat.{ℕ, ◌+◌, ◌≤◌, ◌<◌}
use mathlib.Core.Bool.{Bool, true, false}
use mathlib.Core.List.{List, [], ◌∷◌, ◌++◌}
use mathlib.Core.Path.{◌≡◌, sym, ◌∙◌}
use native.Mathlib.Numerals.{add-one}
use native.Mathlib.Omega.{arith}
use lib.ListN.{length, get_or, take, drop, drop_of_length-le}
use lib.Seq.{length-take-le, get_or-take, drop-cons, take-suc}
use Rattle.protocol.specs.Lists.{any_pass}

module _ {A : Type 0} (xs : List A) (d : A) (i : ℕ) where
  pub rest-entry : {a : A} → i < length xs → a ≡ get_or xs i d → drop i xs ≡ a ∷ drop (i + 1) xs
  rest-entry h e = rw (e, add-one i) (drop-cons xs i d h)

  -- the first i + 1 entries are the first i, and entry i
  pub front-entry : {a : A} → i < length xs → a ≡ get_or xs i d → take (i + 1) xs ≡ take i xs ++ (a ∷ [])
  front-entry h e = rw (e, add-one i) (take-suc xs i d h)

-- the same of the first n
module _ {A : Type 0} (xs : List A) (d : A) (n i : ℕ) (l : n ≤ length xs) where
  pub first_entry : {a : A} → i < n → a ≡ get_or xs i d → drop i (take n xs) ≡ a ∷ drop (i + 1) (take n xs)
  first_entry h e =
      let k : i < length (take n xs) = omega (arith, length-take-le n xs l) in
      rest-entry (take n xs) d i k (e ∙ sym (get_or-take n xs i d h))

  pub first-end : n ≤ i → drop i (take n xs) ≡ []
  first-end h =
      let k : length (take n xs) ≤ i = omega (arith, length-take-le n xs l) in
      drop_of_length-le (take n xs) k

-- ---- a search of the first n

module _ {A : Type 0} (p : A → Bool) (xs : List A) (d : A) (n i : ℕ) where
  pub any-hit : {a : A} → n ≤ length xs → i < n → a ≡ get_or xs i d → p a ≡ true → any_pass p (drop i (take n xs)) ≡ true
  unfolding any_pass
  any-hit l h r e = rw (first_entry xs d n i l h r, e)

  pub any-miss : {a : A} → n ≤ length xs → i < n → a ≡ get_or xs i d → p a ≡ false → any_pass p (drop i (take n xs)) ≡ any_pass p (drop (i + 1) (take n xs))
  unfolding any_pass
  any-miss l h r e = rw (first_entry xs d n i l h r, e)

  pub any-end : n ≤ length xs → n ≤ i → any_pass p (drop i (take n xs)) ≡ false
  unfolding any_pass
  any-end l h = rw (first-end xs d n i l h)
