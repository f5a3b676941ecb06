-- Rivals by rows are rivals, and the search for one along the linked children of a row: rows between two of them are passed over. Assumes nothing.
use Prim.Native.Nat.{ℕ, ◌+◌, ◌≤◌, ◌<◌}
use mathlib.Core.Bool.{Bool, true, false, ◌&&◌}
use mathlib.Core.List.{List}
use mathlib.Core.Path.{◌≡◌, refl, sym, ap, ◌∙◌}
use native.Mathlib.Decide.{ℕ_discrete, dec_lt}
use native.Mathlib.Omega.{arith}
use lib.Dec.{eqb, ltb}
use lib.ListN.{get_or}
use borrow.Author.Tests.{eqb-true, eq-eqb, ne_eqb, lt-ltb, le-ltb}
use Rattle.protocol.specs.Entry.{Block}
use Rattle.protocol.specs.Store.{Marked}
use Rattle.protocol.specs.Lent.{make_block}
use Rattle.protocol.specs.Walk.{is_child}
use Rattle.protocol.specs.SettledWalk.{overtakes, rivalled}
use Rattle.protocol.proofs.Basics.Members.{any-true, any-holds}
use Rattle.protocol.proofs.Basics.Tests.{both, and_left, and_right, clashing, not-passes, same_test}
use Rattle.protocol.proofs.Walk.Best.{child-true}
use Rattle.protocol.proofs.Walk.Relations.{IsChild}
use Rattle.rows.specs.Rows.{row_at}
use Rattle.subtree_voters.specs.BlockRows.{block_at, blocks_of, parent_row}
use Rattle.fork_choice.specs.declared.Kin.{Kin}
use Rattle.fork_choice.specs.Walks.{weight_in}
use Rattle.fork_choice.specs.Children.{child_at, next_at, NextChild, Linked}
use Rattle.fork_choice.proofs.Held.{Held, Stands, listed, lists, row-pos}
use Rattle.fork_choice.proofs.Best.{weight_is, child-of}
use Rattle.fork_choice.proofs.Scan.{left}
use Rattle.settled.specs.Rivals.{overtakes_at, rival_at}

-- ---- whether row d overtakes row c, as code finds it

module _ (ws weights : List ℕ) (k d c : ℕ) where
  pub overtakes-self : d ≡ c → false ≡ overtakes_at ws weights k d c
  unfolding overtakes_at
  overtakes-self e = rw (eq-eqb d c e)

  pub overtakes-more : (d ≡ c → ⊥) → get_or weights c 0 < get_or weights d 0 + k → true ≡ overtakes_at ws weights k d c
  unfolding overtakes_at
  overtakes-more ne l = rw (ne_eqb d c ne, lt-ltb (get_or weights c 0) (get_or weights d 0 + k) l)

  pub overtakes-less : (d ≡ c → ⊥) → get_or weights d 0 + k < get_or weights c 0 → false ≡ overtakes_at ws weights k d c
  unfolding overtakes_at
  overtakes-less ne l =
      rw (ne_eqb d c ne, le-ltb (get_or weights c 0) (get_or weights d 0 + k) (omega arith), ne_eqb (get_or weights c 0) (get_or weights d 0 + k) (λ e. omega arith))

  pub overtakes-tie : (a b : Marked Block) → a ≡ row_at make_block ws d → b ≡ row_at make_block ws c → (d ≡ c → ⊥) → get_or weights c 0 ≡ get_or weights d 0 + k
      → ltb a.entry.number b.entry.number ≡ overtakes_at ws weights k d c
  unfolding overtakes_at
  overtakes-tie a b f g ne e =
      rw (ne_eqb d c ne, le-ltb (get_or weights c 0) (get_or weights d 0 + k) (omega arith), eq-eqb (get_or weights c 0) (get_or weights d 0 + k) e, ap (λ o. o.entry.number) f, ap (λ o. o.entry.number) g)

module _ (ws weights : List ℕ) (k t a c d : ℕ) (m : Marked Block) (read : m ≡ row_at make_block ws d) where
  rival-by : (b e : Bool) → m.viewed ≡ b → is_child t a m.entry ≡ e → (b && (e && overtakes_at ws weights k d c)) ≡ rival_at ws weights k t a c d
  unfolding rival_at
  rival-by b e p q =
      let by : (b && (e && overtakes_at ws weights k d c)) ≡ (m.viewed && (is_child t a m.entry && overtakes_at ws weights k d c)) = rw (p, q) in
      by ∙ ap (λ (x : Marked Block). x.viewed && (is_child t a x.entry && overtakes_at ws weights k d c)) read

  pub rival-hidden : m.viewed ≡ false → false ≡ rival_at ws weights k t a c d
  rival-hidden p = rival-by false (is_child t a m.entry) p refl

  pub rival-other : m.viewed ≡ true → is_child t a m.entry ≡ false → false ≡ rival_at ws weights k t a c d
  rival-other p q = rival-by true false p q

  pub rival-child : m.viewed ≡ true → is_child t a m.entry ≡ true → overtakes_at ws weights k d c ≡ rival_at ws weights k t a c d
  rival-child p q = rival-by true true p q

-- ---- rivals by rows and among the blocks in view

module _ {ws : List ℕ} {n : ℕ} (H : Held false ws n) (weights : List ℕ) (k t : ℕ) where
  overtakes-is : (d c : ℕ) → d < n → c < n → overtakes (weight_in ws n weights) k (block_at ws d) (block_at ws c) ≡ overtakes_at ws weights k d c
  unfolding overtakes overtakes_at
  overtakes-is d c l h = rw (weight_is H weights t d l, weight_is H weights t c h, same)
    where
      same : eqb (block_at ws d).number (block_at ws c).number ≡ eqb d c
      same =
          same_test (eqb (block_at ws d).number (block_at ws c).number) (eqb d c)
          (λ e. eq-eqb d c (H.differ d c l h (eqb-true (block_at ws d).number (block_at ws c).number e)))
          (λ e. eq-eqb (block_at ws d).number (block_at ws c).number (ap (λ (i : ℕ). (block_at ws i).number) (eqb-true d c e)))

  -- a rival of row c, among the children of block x
  module _ (x c : ℕ) (low : c < n) where
    abbrev Rivalled : Bool
    Rivalled = rivalled (weight_in ws n weights) k (blocks_of false ws n) t x (block_at ws c)

    abbrev test : Block → Bool
    test b = is_child t x b && overtakes (weight_in ws n weights) k b (block_at ws c)

    pub rival-found : (d : ℕ) → d < n → rival_at ws weights k t x c d ≡ true → Rivalled ≡ true
    unfolding rivalled rival_at
    rival-found d l e =
        let r = and_right (row_at make_block ws d).viewed _ e in
        any-holds test (block_at ws d) (lists false ws n d l (and_left (row_at make_block ws d).viewed _ e))
        (both (and_left (is_child t x (block_at ws d)) _ r) (overtakes-is d c l low ∙ and_right (is_child t x (block_at ws d)) _ r))

    pub rivals-none : ((j : ℕ) → j < n → rival_at ws weights k t x c j ≡ false) → Rivalled ≡ false
    unfolding rivalled rival_at
    rivals-none f = not-passes (λ e. let r = any-true test (blocks_of false ws n) e in never r.0 (listed false ws n r.0 r.1) r.2)
      where
        never : (d : Block) → Stands false ws n d → test d ≡ true → ⊥
        never d (i, l, s, q) e =
            let g : test (block_at ws i) ≡ true = rw q at e in
            clashing (both s (both (and_left (is_child t x (block_at ws i)) _ g) (sym (overtakes-is i c l low) ∙ and_right (is_child t x (block_at ws i)) _ g))) (f i l)

-- ---- the search

module _ {ws : List ℕ} {n : ℕ} (H : Held false ws n) (weights : List ℕ) (k t : ℕ) where
  child : (x c j : ℕ) → rival_at ws weights k t x c j ≡ true → IsChild t x (block_at ws j)
  unfolding rival_at
  child x c j e = child-true t x (block_at ws j) (and_left (is_child t x (block_at ws j)) _ (and_right (row_at make_block ws j).viewed _ e))

  -- a row that is no child of row a is no rival
  not-child : (a x c : ℕ) → x ≡ (block_at ws a).number → a < n → (j : ℕ) → j < n → (parent_row ws j ≡ a → ⊥) → rival_at ws weights k t x c j ≡ false
  not-child a x c f h j l ne = not-passes (λ e. ne (child-of H weights t a j h l (rw f at (child x c j e))))

  -- nor is block 0
  no_rival : (x c : ℕ) → rival_at ws weights k t x c 0 ≡ false
  no_rival x c = not-passes (λ e. omega (arith, row-pos H 0 (child x c 0 e).late))

-- no row before `from` is a rival, and d is the next child of row a; x is the block's number there
pub record Search (ws : List ℕ) (n : ℕ) (weights : List ℕ) (k t a x c d : ℕ) : Type 0 where
  pub from : ℕ
  pub some : 0 < from
  pub within : from ≤ n
  pub next : NextChild (λ i. parent_row ws i) n a from d
  pub none : (j : ℕ) → j < from → rival_at ws weights k t x c j ≡ false

module _ {ws : List ℕ} {n : ℕ} {kin : List Kin} (L : Linked (λ i. parent_row ws i) n 1 kin) {weights : List ℕ} {k t a x c : ℕ} where
  -- the next child stands after child d
  pub search-less : {d e : ℕ} → Search ws n weights k t a x c d → (d ≡ 0 → ⊥) → e ≡ next_at kin d → left n e < left n d
  search-less {d} {e} S z g = go (ℕ_discrete e 0)
    where
      u : (S.from ≤ d) × (d < n) × (parent_row ws d ≡ a)
      u = S.next.hit z

      N : NextChild (λ i. parent_row ws i) n (parent_row ws d) (d + 1) e
      N = rw g (L.next d (omega (arith, S.some, u.0)) u.1)

      go : Dec (e ≡ 0) → left n e < left n d
      go (yes q) = rw (eq-eqb e 0 q, ne_eqb d 0 z) (omega (arith, u.1))
      go (no q) = rw (ne_eqb e 0 q, ne_eqb d 0 z) (omega (arith, (N.hit q).0, (N.hit q).1))

  module _ (H : Held false ws n) (f : x ≡ (block_at ws a).number) (h : a < n) where
    pub search-start : {d : ℕ} → d ≡ child_at kin a → Search ws n weights k t a x c d
    search-start e = record {
      from = 1;
      some = omega arith;
      within = H.some;
      next = rw e (L.first a h);
      none = λ j l. let z : j ≡ 0 = omega arith in rw z (no_rival H weights k t x c);
    }

    module _ {d : ℕ} (S : Search ws n weights k t a x c d) where
      pub search-turn : {e : ℕ} → (d ≡ 0 → ⊥) → rival_at ws weights k t x c d ≡ false → e ≡ next_at kin d → Search ws n weights k t a x c e
      search-turn {e} z r g =
          let u = S.next.hit z in
          record {
            from = d + 1;
            some = omega arith;
            within = omega (arith, u.1);
            next = rw (g, ← u.2) (L.next d (omega (arith, S.some, u.0)) u.1);
            none = λ j l. at j l (dec_lt j S.from) (ℕ_discrete j d);
          }
        where
          at : (j : ℕ) → j < d + 1 → Dec (j < S.from) → Dec (j ≡ d) → rival_at ws weights k t x c j ≡ false
          at j l (yes p) q = S.none j p
          at j l (no p) (yes q) = rw q r
          at j l (no p) (no q) =
              let u = S.next.hit z in
              not-child H weights k t a x c f h j (omega (arith, u.1)) (λ o. let m = S.next.none j (omega arith) (omega (arith, u.1)) o in omega (arith, m.1))

      pub search-end : d ≡ 0 → (j : ℕ) → j < n → rival_at ws weights k t x c j ≡ false
      search-end z j l = at (dec_lt j S.from)
        where
          at : Dec (j < S.from) → rival_at ws weights k t x c j ≡ false
          at (yes p) = S.none j p
          at (no p) = not-child H weights k t a x c f h j l (λ o. (S.next.none j (omega arith) l o).0 z)
