-- The set of first rows, one entry more: which rows it names, and which of the packet's entries are new. Assumes nothing.
use Prim.Native.Nat.{ℕ, zero, suc, ◌+◌, ◌*◌, ◌≤◌, ◌<◌}
use mathlib.Core.Bool.{Bool, true, false, ◌||◌, false≢true}
use mathlib.Core.List.{List}
use mathlib.Core.Path.{◌≡◌, refl, ap, sym, ◌∙◌}
use native.Mathlib.Decide.{dec_lt}
use native.Mathlib.Omega.{arith}
use borrow.Author.Tests.{eq-eqb, ne_eqb, eqb-true}
use lib.Dec.{eqb, eqb-suc-zero}
use lib.ListN.{length, replicate}
use Rattle.protocol.proofs.Basics.Tests.{same_test, not-passes, clashing}
use Rattle.search_tree.specs.Tree.{First, Points}
use Rattle.bitset.specs.Bitset.{in_set, inserted}
use Rattle.bitset.proofs.Bitset.{in-inserted, none_in}
use Rattle.index.specs.declared.Key.{Key}
use Rattle.index.specs.Keys.{same_key}
use Rattle.index.specs.Firsts.{first_row, News, Names}
use Rattle.index.proofs.Keys.{key-same, same_key_lem}
use Rattle.index.proofs.Links.{Differ}

module _ {key : ℕ → Key} {n : ℕ} {k : Key} where
  -- a link that was found is to one of the n
  pub linked-within : (link : ℕ) → Points key n k link → link ≤ n
  linked-within zero s = omega arith
  linked-within (suc p) s = omega (arith, (s.hit p refl).is_row)

  pub first-most : (link : ℕ) → Points key n k link → first_row n link ≤ n
  first-most zero s = omega arith
  first-most (suc p) s = omega (arith, (s.hit p refl).is_row)

  pub first_found : (link : ℕ) → Points key n k link → (link ≡ 0 → ⊥) → first_row n link < n
  first_found zero s f = absurd (f refl)
  first_found (suc p) s f = (s.hit p refl).is_row

  -- a row of the table is the first of k if its key is k
  pub first-row : (link used j : ℕ) → Points key n k link → used ≤ n → Differ key used → j < used → eqb j (first_row n link) ≡ same_key (key j) k
  first-row zero used j s l d h = ne_eqb j n (λ e. omega arith) ∙ sym (not-passes (λ e. s.none refl j (omega arith) (key-same (key j) k e)))
  first-row (suc p) used j s l d h =
      let f = s.hit p refl in
      same_test _ _ (λ e. let z : j ≡ p = eqb-true j p e in same_key_lem (key j) k (ap key z ∙ f.has)) (λ e. eq-eqb j p (only f (key-same (key j) k e)))
    where
      only : First key n k p → key j ≡ k → j ≡ p
      only f e = go (dec_lt j p) (dec_lt p j)
        where
          go : Dec (j < p) → Dec (p < j) → j ≡ p
          go (yes a) b = absurd (f.fresh j a e)
          go (no a) (yes b) = absurd (d p j b h (f.has ∙ sym e))
          go (no a) (no b) = omega arith

-- the rows that are named, a key more: it was looked for among the first n rows
pub names-next : {key : ℕ → Key} (used n : ℕ) (k : Key) {link : ℕ} → Points key n k link → used ≤ n → Differ key used
    → {named named' : ℕ → Bool} → ((j : ℕ) → j < used → named' j ≡ (named j || same_key (key j) k)) → (set set' : List ℕ)
    → first_row n link < 64 * length set → set' ≡ inserted set (first_row n link) → Names used named set → Names used named' set'
names-next used n k {link} s l d {named} told set set' h e x j i =
    ap (λ (w : List ℕ). in_set w j) e ∙ in-inserted set (first_row n link) j h
    ∙ ap (λ (b : Bool). b || eqb j (first_row n link)) (x j i) ∙ ap (λ (b : Bool). named j || b) (first-row link used j s l d i) ∙ sym (told j i)

absorbed : (a b : Bool) → (b ≡ true → a ≡ true) → (a || b) ≡ a
absorbed true b f = refl
absorbed false true f = absurd (false≢true (f refl))
absorbed false false f = refl

-- ---- the `count` entries of a packet, behind `used` rows: `new m` tells whether entry m is new

module _ (key : ℕ → Key) (used count : ℕ) (new : ℕ → Bool)
    (told : (m link : ℕ) → m < count → Points key (used + m) (key (used + m)) link → eqb link 0 ≡ new m) where
  pub news-none : (w : ℕ) → News used new 0 (replicate w 0)
  news-none w = record { seen = λ m h. absurd (omega arith); unseen = λ m h. none_in w (used + m) }

  -- an entry whose key stands nowhere before is new
  fresh-new : (m : ℕ) → m < count → ((j : ℕ) → j < used + m → key j ≡ key (used + m) → ⊥) → new m ≡ true
  fresh-new m l f = sym (told m 0 l (record { hit = λ p e. absurd (omega arith); none = λ e j h. f j h })) ∙ refl

  -- row q joins: those from i to i' that are new, and besides only what is new already, or a row of the table
  joins : {i : ℕ} {set set' : List ℕ} → News used new i set → (q : ℕ) → q < 64 * length set → set' ≡ inserted set q → (i' : ℕ) → i ≤ i'
      → ((m : ℕ) → used + m ≡ q → (m < i') × (new m ≡ true)) → ((m : ℕ) → i ≤ m → m < i' → new m ≡ true → used + m ≡ q) → News used new i' set'
  joins {i} {set} {set'} x q h e i' l only all = record { seen = λ m k. go m k (dec_lt m i); unseen = λ m k. later m k }
    where
      now-in : (m : ℕ) → in_set set' (used + m) ≡ (in_set set (used + m) || eqb (used + m) q)
      now-in m = ap (λ (s : List ℕ). in_set s (used + m)) e ∙ in-inserted set q (used + m) h

      go : (m : ℕ) → m < i' → Dec (m < i) → in_set set' (used + m) ≡ new m
      go m k (yes a) = now-in m ∙ ap (λ (b : Bool). b || eqb (used + m) q) (x.seen m a) ∙ absorbed (new m) _ (λ z. (only m (eqb-true (used + m) q z)).1)
      go m k (no a) =
          now-in m ∙ ap (λ (b : Bool). b || eqb (used + m) q) (x.unseen m (omega arith))
          ∙ same_test _ _ (λ z. (only m (eqb-true (used + m) q z)).1) (λ z. eq-eqb (used + m) q (all m (omega arith) k z))

      later : (m : ℕ) → i' ≤ m → in_set set' (used + m) ≡ false
      later m k =
          now-in m ∙ ap (λ (b : Bool). b || eqb (used + m) q) (x.unseen m (omega arith))
          ∙ ne_eqb (used + m) q (λ z. let b = (only m z).0 in absurd (omega arith))

  -- the first row of a key is one of the table, or that of a new entry
  first-new : (n : ℕ) (k : Key) (p m : ℕ) → m < count → First key n k p → used + m ≡ p → new m ≡ true
  first-new n k p m l f z = fresh-new m l (λ j h e. f.fresh j (omega arith) (e ∙ ap key z ∙ f.has))

  -- entry i was looked for among the rows before it
  pub news-next : {i : ℕ} {set set' : List ℕ} → News used new i set → i < count → (link : ℕ) → Points key (used + i) (key (used + i)) link
      → used + i < 64 * length set → set' ≡ inserted set (first_row (used + i) link) → News used new (i + 1) set'
  news-next {i} x c zero s h e =
      joins x (used + i) h e (i + 1) (omega arith)
      (λ m z. (omega arith, let y : i ≡ m = omega arith in ap new (sym y) ∙ sym (told i 0 c s)))
      (λ m a b d. omega arith)
  news-next {i} x c (suc p) s h e =
      let f = s.hit p refl in
      let l : p < used + i = f.is_row in
      joins x p (omega arith) e (i + 1) (omega arith)
      (λ m z. (omega arith, first-new (used + i) (key (used + i)) p m (omega arith) f z))
      (λ m a b d. let y : m ≡ i = omega arith in absurd (clashing (sym (ap new y) ∙ d) (sym (told i (suc p) c s) ∙ eqb-suc-zero p)))

  -- a key was found among all rows
  pub news-named : {i : ℕ} {set set' : List ℕ} → News used new i set → i ≤ count → (k : Key) (link : ℕ) → Points key (used + i) k link → (link ≡ 0 → ⊥)
      → used + i ≤ 64 * length set → set' ≡ inserted set (first_row (used + i) link) → News used new i set'
  news-named x c k zero s f h e = absurd (f refl)
  news-named {i} x c k (suc p) s f h e =
      let g = s.hit p refl in
      let l : p < used + i = g.is_row in
      joins x p (omega arith) e i (omega arith) (λ m z. (omega arith, first-new (used + i) k p m (omega arith) g z)) (λ m a b d. absurd (omega arith))
