-- What a link says of the keys, and whether they differ, a row more. Assumes nothing.
use Prim.Native.Nat.{ℕ, zero, suc, ◌+◌, ◌<◌}
use mathlib.Core.Bool.{Bool, true, false, not, ◌&&◌, ◌||◌}
use mathlib.Core.List.{List, [], ◌∷◌, ◌++◌}
use mathlib.Core.Path.{◌≡◌, refl, ap, sym, ◌∙◌}
use native.Mathlib.Omega.{arith}
use native.Mathlib.Decide.{dec_lt}
use lib.ListN.{length, get_or, length-append, get_or-append}
use lib.Seq.{get_or-append-add}
use Rattle.search_tree.specs.Lists.{link_to, distinct}
use Rattle.search_tree.specs.Tree.{Points}
use borrow.Author.Tests.{not-true}
use Rattle.protocol.specs.Lists.{any_pass}
use Rattle.protocol.proofs.Basics.Members.{any_append}
use Rattle.protocol.proofs.Basics.Tests.{not-passes, clashing, and_left, and_right, or_left, or_right}
use Rattle.search_tree.proofs.Lists.{link-hit, link-none, distinct-end, distinct-new, distinct-old}
use Rattle.index.specs.declared.Key.{Key}
use Rattle.index.specs.Keys.{same_key}
use Rattle.index.specs.Index.{listed, keys_differ}
use Rattle.index.proofs.Keys.{key-same, same_key_lem}

-- a table by its first n rows, and by row n; d stands for the rows past the end
pub record Table {A : Type 0} (d : A) (rows : ℕ → List A) (row : ℕ → A) : Type 0 where
  pub size : (n : ℕ) → length (rows n) ≡ n
  pub read : (n j : ℕ) → j < n → get_or (rows n) j d ≡ row j
  pub more : (n : ℕ) → rows (n + 1) ≡ rows n ++ (row n ∷ [])

-- `test` tells whether an entry has key k
pub record Tells {A : Type 0} (of : A → Key) (k : Key) (test : A → Bool) : Type 0 where
  pub yes : (a : A) → of a ≡ k → test a ≡ true
  pub no : (a : A) → (of a ≡ k → ⊥) → test a ≡ false

-- the entries of an index in a list; d stands for those past the end
pub linked : {A : Type 0} (d : A) {of : A → Key} {k : Key} {test : A → Bool} → Tells of k test → {key : ℕ → Key} {n link : ℕ} → Points key n k link
    → (xs : List A) → length xs ≡ n → ((j : ℕ) → j < n → of (get_or xs j d) ≡ key j) → link ≡ link_to test xs
linked d {test = test} t {n = n} {link = link} s xs size same = go link refl
  where
    go : (p : ℕ) → link ≡ p → p ≡ link_to test xs
    go zero e = sym (link-none d test xs 0 (λ m l. t.no (get_or xs m d) (λ q. s.none e m (omega arith) (sym (same m (omega arith)) ∙ q))))
    go (suc p) e =
        let f = s.hit p e in
        let l : p < length xs = omega (arith, f.is_row) in
        let z : suc p ≡ suc (0 + p) = omega arith in
        z ∙ sym (link-hit d test xs 0 p l (t.yes (get_or xs p d) (same p f.is_row ∙ f.has)) (λ m h. t.no (get_or xs m d) (λ q. f.fresh m h (sym (same m (omega arith)) ∙ q))))

module _ (key : ℕ → Key) where
  length-listed : (n : ℕ) → length (listed key n) ≡ n
  unfolding listed
  length-listed zero = refl
  length-listed (suc n) = length-append (listed key n) (key n ∷ []) ∙ rw (length-listed n) (omega arith)

  get_d-listed : (n j : ℕ) → j < n → get_or (listed key n) j (key 0) ≡ key j
  unfolding listed
  get_d-listed zero j h = absurd (omega arith)
  get_d-listed (suc n) j h = go (get_d-listed n j) (dec_lt j n)
    where
      go : (j < n → get_or (listed key n) j (key 0) ≡ key j) → Dec (j < n) → get_or (listed key n ++ (key n ∷ [])) j (key 0) ≡ key j
      go low (yes l) =
          let q : j < length (listed key n) = omega (arith, length-listed n) in
          get_or-append (listed key n) (key n ∷ []) (key 0) j q ∙ low l
      go low (no l) =
          let z : j ≡ length (listed key n) + 0 = omega (arith, length-listed n) in
          let u : n ≡ j = omega arith in
          ap (λ i. get_or (listed key n ++ (key n ∷ [])) i (key 0)) z ∙ get_or-append-add (listed key n) (key n ∷ []) 0 (key 0) ∙ ap key u

  -- row n more
  module _ (n : ℕ) {link : ℕ} (s : Points key n (key n) link) where
    among : link ≡ link_to (λ x. same_key x (key n)) (listed key n)
    among =
        linked (key 0) {of = λ x. x} (record { yes = λ x. same_key_lem x (key n); no = λ x f. not-passes (λ e. f (key-same x (key n) e)) }) s (listed key n) (length-listed n) (get_d-listed n)

    more : listed key (n + 1) ≡ listed key n ++ (key n ∷ [])
    unfolding listed
    more = let z : n + 1 ≡ suc n = omega arith in rw z

    pub keys-new : link ≡ 0 → keys_differ key (n + 1) ≡ keys_differ key n
    keys-new z = rw more (distinct-new same_key (listed key n) (key n) (sym among ∙ z))

    pub keys-old : (link ≡ 0 → ⊥) → keys_differ key (n + 1) ≡ false
    keys-old f = rw more (distinct-old same_key (listed key n) (key n) (λ z. f (among ∙ z)))

-- no two of the first n rows have one key
abbrev pub Differ : (ℕ → Key) → ℕ → Type 0
Differ key n = (i j : ℕ) → i < j → j < n → key i ≡ key j → ⊥

module _ (key : ℕ → Key) where
  any-listed : (p : Key → Bool) (n i : ℕ) → i < n → p (key i) ≡ true → any_pass p (listed key n) ≡ true
  unfolding listed any_pass
  any-listed p zero i h e = absurd (omega arith)
  any-listed p (suc n) i h e = any_append p (listed key n) (key n ∷ []) ∙ go (any-listed p n i) (dec_lt i n)
    where
      go : (i < n → p (key i) ≡ true → any_pass p (listed key n) ≡ true) → Dec (i < n) → (any_pass p (listed key n) || (p (key n) || false)) ≡ true
      go low (yes l) = or_left (any_pass p (listed key n)) (p (key n) || false) (low l e)
      go low (no l) = let z : n ≡ i = omega arith in or_right (any_pass p (listed key n)) (p (key n) || false) (or_left (p (key n)) false (ap (λ (k : ℕ). p (key k)) z ∙ e))

  pub keys-differ : (n : ℕ) → keys_differ key n ≡ true → Differ key n
  unfolding listed
  keys-differ zero e i j h l q = omega arith
  keys-differ (suc n) e i j h l q = go (λ a. keys-differ n (and_left _ _ parts) i j h a q) (dec_lt j n)
    where
      parts : (keys_differ key n && not (any_pass (λ y. same_key y (key n)) (listed key n))) ≡ true
      parts = sym (distinct-end same_key (listed key n) (key n)) ∙ e

      go : (j < n → ⊥) → Dec (j < n) → ⊥
      go low (yes a) = low a
      go low (no a) =
          let z : j ≡ n = omega arith in
          clashing (any-listed (λ y. same_key y (key n)) n i (omega arith) (same_key_lem (key i) (key n) (q ∙ ap key z))) (not-true _ (and_right (keys_differ key n) _ parts))

-- the keys of the members of a list
module _ {A : Type 0} (of : A → Key) where
  abbrev keys : List A → List Key
  keys [] = []
  keys (x ∷ xs) = of x ∷ keys xs

  keys-end : (xs : List A) (x : A) → keys (xs ++ (x ∷ [])) ≡ keys xs ++ (of x ∷ [])
  keys-end [] x = refl
  keys-end (y ∷ xs) x = ap (λ ks. of y ∷ ks) (keys-end xs x)

  any-keys : (same : A → A → Bool) → ((a b : A) → same a b ≡ same_key (of a) (of b)) → (a : A) (xs : List A) → any_pass (same a) xs ≡ any_pass (same_key (of a)) (keys xs)
  unfolding any_pass
  any-keys same f a [] = refl
  any-keys same f a (x ∷ xs) = rw (f a x, any-keys same f a xs)

  distinct-keys : (same : A → A → Bool) → ((a b : A) → same a b ≡ same_key (of a) (of b)) → (xs : List A) → distinct same_key (keys xs) ≡ distinct same xs
  unfolding distinct
  distinct-keys same f [] = refl
  distinct-keys same f (x ∷ xs) = rw (any-keys same f x xs, distinct-keys same f xs)

  -- keys differ if and only if rows do
  pub rows-differ : (same : A → A → Bool) → ((a b : A) → same a b ≡ same_key (of a) (of b)) → {d : A} {rows : ℕ → List A} {row : ℕ → A} → Table d rows row
      → rows 0 ≡ [] → (n : ℕ) → keys_differ (λ j. of (row j)) n ≡ distinct same (rows n)
  unfolding listed
  rows-differ same f {rows = rows} {row} T none n = ap (distinct same_key) (front n) ∙ distinct-keys same f (rows n)
    where
      front : (n : ℕ) → listed (λ j. of (row j)) n ≡ keys (rows n)
      front zero = rw none refl
      front (suc n) =
          let z : n + 1 ≡ suc n = omega arith in
          ap (λ ks. ks ++ (of (row n) ∷ [])) (front n) ∙ sym (keys-end (rows n) (row n)) ∙ ap keys (sym (T.more n)) ∙ ap (λ i. keys (rows i)) z
