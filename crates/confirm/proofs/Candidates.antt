-- Three quarters of the voters back only blocks of one chain, and on a chain the last row is the highest block. Assumes nothing.
use Prim.Native.Nat.{ℕ, zero, suc, ◌+◌, ◌*◌, ◌≤◌, ◌<◌}
use mathlib.Core.Bool.{Bool, true, false, ◌&&◌, cond}
use mathlib.Core.List.{List}
use mathlib.Core.Logic.{◌⊎◌, inl, inr}
use mathlib.Core.Path.{◌≡◌, refl, ap, sym, ◌∙◌}
use native.Mathlib.Decide.{dec_lt}
use native.Mathlib.Nat.{le_of_eq}
use native.Mathlib.Omega.{arith}
use lib.Dec.{leb}
use Rattle.protocol.specs.Entry.{Block, Vote}
use Rattle.protocol.specs.Filters.{Choice, chosen, nothing, kept_choice}
use Rattle.protocol.specs.Store.{Marked, view_of}
use Rattle.protocol.specs.Lent.{rows_of, make_block, make_vote}
use Rattle.protocol.specs.Walk.{supports, weight, weight_at}
use Rattle.protocol.specs.Confirm.{valid_vote, quorum, height, fast_block}
use Rattle.protocol.proofs.Basics.Counting.{count-ext}
use Rattle.protocol.proofs.Basics.Tests.{clashing}
use Rattle.protocol.proofs.Chain.Relations.{Above, here, up}
use Rattle.protocol.proofs.Confirm.Fast.{IsFarthest, FastIs, fast-of}
use Rattle.protocol.proofs.Confirm.Height.{height-above}
use Rattle.protocol.proofs.Confirm.Quorum.{quorum-compare}
use Rattle.protocol.proofs.Filters.Relations.{Cast}
use Rattle.rows.specs.Rows.{row_at}
use Rattle.vote_filters.specs.Latest.{selected, votes_of}
use Rattle.vote_filters.proofs.Kept.{valid-kept}
use Rattle.subtree_voters.specs.BlockRows.{block_at, blocks_of, parent_row}
use Rattle.fork_choice.specs.Weights.{weight_at_row}
use Rattle.fork_choice.proofs.Weights.{Weighed}
use Rattle.fork_choice.proofs.Held.{Held, is_in, Stands, listed, lists, parent_is, row-pos, by_number}
use Rattle.confirm.specs.Top.{top_choice}

-- a block above another stands after it
above-row : {w : Bool} {ws : List ℕ} {n : ℕ} → Held w ws n → {b y : ℕ} → Above (blocks_of w ws n) b y → (i j : ℕ) → i < n → j < n → (block_at ws i).number ≡ b → (block_at ws j).number ≡ y → i ≤ j
above-row H (here q) i j a b e f = let z : i ≡ j = H.differ i j a b (e ∙ sym q ∙ sym f) in omega arith
above-row {w} {ws} {n} H (up c m q z r) i j a b e f =
    let t : 0 < j = row-pos H j (rw (sym f) at z) in
    let p = parent_is H j t b in
    let o = by_number H c j m b (q ∙ sym f) in
    let l : i ≤ parent_row ws j = above-row H r i (parent_row ws j) a (omega (arith, p.0)) e (p.1 ∙ ap (λ o. o.parent) (sym o.0)) in
    omega (arith, p.0)

-- what the search from the last row down finds among the first k rows
pub record IsTop (p : ℕ → Bool) (ws : List ℕ) (k j : ℕ) : Type 0 where
  pub inside : j < k
  pub viewed : is_in false ws j ≡ true
  pub passes : p j ≡ true
  pub last : (i : ℕ) → j < i → i < k → is_in false ws i ≡ true → p i ≡ false

abbrev TopIs : (ℕ → Bool) → List ℕ → ℕ → Choice → Type 0
TopIs p ws k nothing = (i : ℕ) → i < k → is_in false ws i ≡ true → p i ≡ false
TopIs p ws k (chosen x) = (j : ℕ) × IsTop p ws k j × (x ≡ (block_at ws j).number)

abbrev passes_at : List ℕ → ℕ → ℕ → Bool
passes_at masks n j = leb (3 * n) (4 * weight_at_row masks j)

-- the search, one row at a time: row k was read as m
module _ (ws masks : List ℕ) (n i k : ℕ) (m : Marked Block) (read : m ≡ row_at make_block ws k) (e : i ≡ suc k) where
  top-by : (x y : Bool) → m.viewed ≡ x → passes_at masks n k ≡ y → top_choice ws masks n i ≡ cond (x && y) (chosen m.entry.number) (top_choice ws masks n k)
  unfolding top_choice
  top-by x y p q =
      ap (top_choice ws masks n) e ∙ rw q (ap (λ (r : Marked Block). cond (r.viewed && y) (chosen r.entry.number) (top_choice ws masks n k)) (sym read) ∙ rw p)

  pub top-hit : m.viewed ≡ true → passes_at masks n k ≡ true → top_choice ws masks n i ≡ chosen m.entry.number
  top-hit p q = top-by true true p q

  pub top-light : m.viewed ≡ true → passes_at masks n k ≡ false → top_choice ws masks n i ≡ top_choice ws masks n k
  top-light p q = top-by true false p q

  pub top-hidden : m.viewed ≡ false → top_choice ws masks n i ≡ top_choice ws masks n k
  top-hidden p = top-by false (passes_at masks n k) p refl

pub top-end : (ws masks : List ℕ) (n i : ℕ) → i ≤ 0 → top_choice ws masks n i ≡ nothing
unfolding top_choice
top-end ws masks n zero h = refl
top-end ws masks n (suc k) h = absurd (omega arith)

top-is : (ws masks : List ℕ) (n k : ℕ) → TopIs (passes_at masks n) ws k (top_choice ws masks n k)
unfolding top_choice
top-is ws masks n zero = λ i l s. absurd (omega arith)
top-is ws masks n (suc k) = go (row_at make_block ws k).viewed refl (passes_at masks n k) refl (top_choice ws masks n k) (top-is ws masks n k)
  where
    -- row k does not pass
    skip : (is_in false ws k ≡ true → passes_at masks n k ≡ false) → (o : Choice) → TopIs (passes_at masks n) ws k o → TopIs (passes_at masks n) ws (suc k) o
    skip h nothing r = λ i l s. one i l s (dec_lt i k)
      where
        one : (i : ℕ) → i < suc k → is_in false ws i ≡ true → Dec (i < k) → passes_at masks n i ≡ false
        one i l s (yes q) = r i q s
        one i l s (no q) = let e : i ≡ k = omega arith in rw e (h (rw e at s))
    skip h (chosen x) (j, t, e) = (j, record { inside = omega (arith, t.inside); viewed = t.viewed; passes = t.passes; last = λ i a b s. one i a b s (dec_lt i k) }, e)
      where
        one : (i : ℕ) → j < i → i < suc k → is_in false ws i ≡ true → Dec (i < k) → passes_at masks n i ≡ false
        one i a b s (yes q) = t.last i a q s
        one i a b s (no q) = let e : i ≡ k = omega arith in rw e (h (rw e at s))

    go : (x : Bool) → (row_at make_block ws k).viewed ≡ x → (y : Bool) → passes_at masks n k ≡ y → (o : Choice) → TopIs (passes_at masks n) ws k o
        → TopIs (passes_at masks n) ws (suc k) (cond (x && y) (chosen (block_at ws k).number) o)
    go true s true q o r = (k, record { inside = omega arith; viewed = s; passes = q; last = λ i a b t. absurd (omega arith) }, refl)
    go true s false q o r = skip (λ t. q) o r
    go false s y q o r = skip (λ t. absurd (clashing t s)) o r

module _ {bw : List ℕ} {bu : ℕ} {vw : List ℕ} {vu n : ℕ} (t : ℕ) {masks : List ℕ} (H : Held false bw bu) (some : 0 < n)
    (real : (a : Vote) → Cast a (votes_of false vw vu) → 0 < a.slot) (W : Weighed false bw bu vw vu n 1 (t + 1) masks) where
  -- the test at a row is the test of its block
  passes-is : (j : ℕ) → j < bu → passes_at masks n j ≡ quorum (blocks_of false bw bu) (votes_of false vw vu) n t (block_at bw j).number
  unfolding quorum weight_at weight
  passes-is j l =
      ap (λ (x : ℕ). leb (3 * n) (4 * x)) (W.each j l
      ∙ count-ext (λ v. supports (blocks_of false bw bu) (kept_choice (votes_of false vw vu) 1 (t + 1) v) (block_at bw j).number)
      (λ v. supports (blocks_of false bw bu) (valid_vote (votes_of false vw vu) t v) (block_at bw j).number) n
      (λ v h. ap (λ (o : Choice). supports (blocks_of false bw bu) o (block_at bw j).number) (sym (valid-kept (votes_of false vw vu) t v real))))

  -- the last row that passes is the farthest block that does
  pub fast-is : top_choice bw masks n bu ≡ fast_block (blocks_of false bw bu) (votes_of false vw vu) n t
  fast-is = sym (fast-of H.sound (votes_of false vw vu) n t some (top_choice bw masks n bu) (go (top_choice bw masks n bu) (top-is bw masks n bu)))
    where
      shares : (i : ℕ) → i < bu → (d : Block) → d ≡ block_at bw i → quorum (blocks_of false bw bu) (votes_of false vw vu) n t d.number ≡ true → passes_at masks n i ≡ true
      shares i l d e q = passes-is i l ∙ ap (λ o. quorum (blocks_of false bw bu) (votes_of false vw vu) n t o.number) (sym e) ∙ q

      farthest : (j : ℕ) → IsTop (passes_at masks n) bw bu j → IsFarthest (quorum (blocks_of false bw bu) (votes_of false vw vu) n t) (blocks_of false bw bu) (blocks_of false bw bu) (block_at bw j)
      farthest j T = record { mem = lists false bw bu j T.inside T.viewed; share = share; top = λ d m q. top d q (listed false bw bu d m) }
        where
          share : quorum (blocks_of false bw bu) (votes_of false vw vu) n t (block_at bw j).number ≡ true
          share = sym (passes-is j T.inside) ∙ T.passes

          top : (d : Block) → quorum (blocks_of false bw bu) (votes_of false vw vu) n t d.number ≡ true → Stands false bw bu d
              → height (blocks_of false bw bu) d.number ≤ height (blocks_of false bw bu) (block_at bw j).number
          top d q (i, l, s, e) = on (quorum-compare H.sound (votes_of false vw vu) n t d.number (block_at bw j).number some q share)
            where
              on : Above (blocks_of false bw bu) d.number (block_at bw j).number ⊎ Above (blocks_of false bw bu) (block_at bw j).number d.number
                  → height (blocks_of false bw bu) d.number ≤ height (blocks_of false bw bu) (block_at bw j).number
              on (inl a) = height-above H.sound a
              on (inr a) = at (dec_lt j i) (above-row H a j i T.inside l refl (ap (λ o. o.number) (sym e)))
                where
                  at : Dec (j < i) → j ≤ i → height (blocks_of false bw bu) d.number ≤ height (blocks_of false bw bu) (block_at bw j).number
                  at (yes k) o = absurd (clashing (shares i l d e q) (T.last i k l s))
                  at (no k) o =
                      let z : i ≡ j = omega arith in
                      le_of_eq (ap (λ o. height (blocks_of false bw bu) o.number) (e ∙ ap (block_at bw) z))

      go : (o : Choice) → TopIs (passes_at masks n) bw bu o → FastIs (blocks_of false bw bu) (votes_of false vw vu) n t o
      go nothing r = λ d m q. none d q (listed false bw bu d m)
        where
          none : (d : Block) → quorum (blocks_of false bw bu) (votes_of false vw vu) n t d.number ≡ true → Stands false bw bu d → ⊥
          none d q (i, l, s, e) = clashing (shares i l d e q) (r i l s)
      go (chosen x) (j, T, e) = (block_at bw j, farthest j T, sym e)

-- as the definition has it
pub fast-view : (bw : List ℕ) (bu : ℕ) (vw : List ℕ) (vu n t : ℕ) → fast_block (blocks_of false bw bu) (votes_of false vw vu) n t ≡ fast_block (view_of (rows_of make_block bw bu)) (view_of (rows_of make_vote vw vu)) n t
unfolding selected
fast-view bw bu vw vu n t = refl
