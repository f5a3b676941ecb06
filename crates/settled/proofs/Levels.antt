-- The walk by levels is the walk with a margin, and it finds the settled block. Assumes nothing.
use Prim.Native.Nat.{ℕ, suc, ◌+◌, ◌^◌, ◌<◌}
use mathlib.Core.Bool.{true, false}
use mathlib.Core.List.{List}
use mathlib.Core.Path.{◌≡◌, refl, sym, ap, ◌∙◌, subst}
use native.Mathlib.Numerals.{add-one}
use Rattle.protocol.specs.declared.Settings.{Settings}
use Rattle.protocol.specs.Chain.{Lookup, found, missing}
use Rattle.protocol.specs.Words.{bit_of}
use Rattle.protocol.specs.Store.{view_of}
use Rattle.protocol.specs.Lent.{rows_of, make_block, make_vote}
use Rattle.protocol.specs.Walk.{count_below, best_child}
use Rattle.protocol.specs.Settled.{settled_block}
use Rattle.protocol.specs.SettledWalk.{rivalled, margin_walk, heard_at}
use Rattle.protocol.proofs.Walk.Best.{BestIs, best-is}
use Rattle.protocol.proofs.Walk.Relations.{IsBest}
use Rattle.protocol.proofs.Settled.Relations.{Margin, leaf, halt, onward}
use Rattle.protocol.proofs.Settled.Margin.{rivalled-true, rivalled-false}
use Rattle.protocol.proofs.Settled.Sameness.{margin-of, settled-heard}
use Rattle.masks.proofs.Masks.{none_from}
use Rattle.vote_filters.specs.Latest.{selected, votes_of}
use Rattle.subtree_voters.specs.BlockRows.{block_at, blocks_of}
use Rattle.fork_choice.specs.Walks.{weight_in}
use Rattle.fork_choice.specs.Tables.{TablesSound}
use Rattle.fork_choice.specs.Weights.{Supporters, Counted}
use Rattle.fork_choice.proofs.Held.{Held}
use Rattle.fork_choice.proofs.Best.{child-after}
use Rattle.fork_choice.proofs.SoundTables.{few, blocks-held, words-heard, rows-weigh}
use Rattle.fork_choice.proofs.Weights.{count-wide}

-- from row a the walk goes where the walk from block 0 goes
pub record Level (ws : List ℕ) (n : ℕ) (weights : List ℕ) (k t a : ℕ) : Type 0 where
  pub inside : a < n
  pub on : (r : ℕ) → Margin (weight_in ws n weights) k (blocks_of false ws n) t r (block_at ws a).number → Margin (weight_in ws n weights) k (blocks_of false ws n) t r 0

module _ {ws : List ℕ} {n : ℕ} (H : Held false ws n) (weights : List ℕ) (k t : ℕ) where
  pub level-start : Level ws n weights k t 0
  level-start =
      record { inside = H.some; on = λ r u. subst (λ (x : ℕ). Margin (weight_in ws n weights) k (blocks_of false ws n) t r x) (ap (λ o. o.number) H.first) u }

  module _ (a : ℕ) (W : Level ws n weights k t a) where
    ends : Margin (weight_in ws n weights) k (blocks_of false ws n) t (block_at ws a).number (block_at ws a).number
        → (block_at ws a).number ≡ margin_walk (weight_in ws n weights) k (blocks_of false ws n) t
    ends u = sym (margin-of (weight_in ws n weights) k H.sound t (W.on (block_at ws a).number u))

    is-best : (o : Lookup) → best_child (weight_in ws n weights) (t + 1) (block_at ws a).number (blocks_of false ws n) ≡ o
        → BestIs (weight_in ws n weights) (suc t) (block_at ws a).number (blocks_of false ws n) o
    is-best o B =
        let e : best_child (weight_in ws n weights) (suc t) (block_at ws a).number (blocks_of false ws n) ≡ o = rw (add-one t) at B in
        rw e at (best-is (weight_in ws n weights) (suc t) (block_at ws a).number (blocks_of false ws n))

    -- there is no child
    pub level-leaf : best_child (weight_in ws n weights) (t + 1) (block_at ws a).number (blocks_of false ws n) ≡ missing
        → (block_at ws a).number ≡ margin_walk (weight_in ws n weights) k (blocks_of false ws n) t
    level-leaf B = ends (leaf refl (is-best missing B))

    -- the best child is at row c
    module _ (c : ℕ) (B : best_child (weight_in ws n weights) (t + 1) (block_at ws a).number (blocks_of false ws n) ≡ found (block_at ws c)) where
      best-at : IsBest (weight_in ws n weights) (blocks_of false ws n) (suc t) (block_at ws a).number (block_at ws c)
      best-at = is-best (found (block_at ws c)) B

      pub level-deeper : c < n → a < c
      level-deeper l = child-after H weights (suc t) a c W.inside l best-at.child

      -- it has no rival
      pub level-on : c < n → rivalled (weight_in ws n weights) k (blocks_of false ws n) t (block_at ws a).number (block_at ws c) ≡ false → Level ws n weights k t c
      level-on l q = record {
        inside = l;
        on = λ r u. W.on r (onward (block_at ws c) best-at (rivalled-false (weight_in ws n weights) k (blocks_of false ws n) t (block_at ws a).number (block_at ws c) q) u);
      }

      -- it has a rival
      pub level-halt : rivalled (weight_in ws n weights) k (blocks_of false ws n) t (block_at ws a).number (block_at ws c) ≡ true
          → (block_at ws a).number ≡ margin_walk (weight_in ws n weights) k (blocks_of false ws n) t
      level-halt q =
          let r = rivalled-true (weight_in ws n weights) k (blocks_of false ws n) t (block_at ws a).number (block_at ws c) q in
          ends (halt refl (block_at ws c) r.0 best-at r.1)

-- ---- by the weights of the words, with the number of the silent as the margin

pub settled-number : {s : Settings} {bw : List ℕ} {bu : ℕ} {vw : List ℕ} {vu : ℕ} (T : TablesSound s bw bu vw vu) (t silent : ℕ) {masks weights : List ℕ} {k r : ℕ}
    → Supporters false bw bu vw vu s.expiry t masks → Counted silent masks bu weights → k ≡ count_below (bit_of silent) 64 → silent < 2 ^ s.nodes
    → r ≡ margin_walk (weight_in bw bu weights) k (blocks_of false bw bu) t
    → r ≡ settled_block (view_of (rows_of make_block bw bu)) (view_of (rows_of make_vote vw vu)) s.nodes s.expiry t (bit_of silent)
unfolding selected
settled-number {s} {bw} {bu} {vw} {vu} T t silent {masks} {weights} {k} {r} W C e h q =
    q ∙ settled-heard (blocks-held T false).sound (votes_of false vw vu) s.nodes s.expiry t (bit_of silent) (weight_in bw bu weights) k
    (rows-weigh T false (heard_at (blocks_of false bw bu) (votes_of false vw vu) s.nodes s.expiry t (bit_of silent)) weights
    (λ j l. C.each j l ∙ words-heard T false s.expiry t silent W j l))
    (e ∙ count-wide (bit_of silent) s.nodes 64 (few T).1 (λ v a b. none_from s.nodes silent v h a))
