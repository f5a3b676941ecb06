-- Words of voters, as they are set at the rows of their votes' blocks and then handed on. Assumes nothing.
use Prim.Native.Nat.{ℕ, ◌+◌, ◌≤◌, ◌<◌}
use mathlib.Core.Bool.{Bool, true, false, ◌||◌, ◌&&◌, cond, and-true, and-false, or-false}
use Rattle.std.specs.Prelude.{Option}
use mathlib.Core.List.{List}
use mathlib.Core.Path.{◌≡◌, refl, ap, ap₂, sym, ◌∙◌}
use native.Mathlib.Omega.{arith}
use lib.Bits.{bit_or}
use lib.Dec.{eqb, ltb}
use lib.ListN.{length, get_or, set, replicate, get_or-replicate}
use lib.Seq.{get_or-set_same, get_or-set_other}
use borrow.Author.Tests.{eqb-true, eqb-false, lt-ltb, le-ltb}
use Rattle.protocol.specs.Limits.{loom}
use Rattle.protocol.specs.declared.Vote.{Vote}
use Rattle.protocol.specs.Words.{bit_of}
use Rattle.masks.specs.Masks.{mask_of, added}
use Rattle.masks.proofs.Masks.{mask-none, mask-ext, bit_mask, or-mask, below_more}
use Rattle.subtree_voters.specs.BlockRows.{row_in, parent_row}
use Rattle.subtree_voters.specs.Subtrees.{up_to, voted, voted_for, reaches, Subtrees}
use Rattle.subtree_voters.proofs.BlockRows.{link_lt, parent-lt}
use Rattle.subtree_voters.proofs.Up.{up-low, up_step}

-- ---- voters at the rows of their votes' blocks

-- voter v has a vote, for the block at row j
abbrev votes_at : List ℕ → ℕ → List (Option Vote) → ℕ → ℕ → Bool
votes_at ws n kept j v = voted kept v && eqb (row_in ws n (voted_for kept v)) j

-- the voters below k are set
pub record VotersAdded (ws : List ℕ) (n : ℕ) (kept : List (Option Vote)) (k : ℕ) (masks : List ℕ) : Type 0 where
  pub each : (j : ℕ) → j < n → get_or masks j 0 ≡ mask_of 64 (λ v. ltb v k && votes_at ws n kept j v)

module _ (ws : List ℕ) (n : ℕ) (kept : List (Option Vote)) where
  pub linked-none : {masks : List ℕ} → masks ≡ replicate loom.blocks 0 → n ≤ loom.blocks → VotersAdded ws n kept 0 masks
  linked-none {masks} e h = record { each = λ j l. go j l }
    where
      go : (j : ℕ) → j < n → get_or masks j 0 ≡ mask_of 64 (λ v. ltb v 0 && votes_at ws n kept j v)
      go j l =
          ap (λ (m : List ℕ). get_or m j 0) e ∙ get_or-replicate {A = ℕ} loom.blocks j 0 0 (omega arith) ∙ sym (mask-none 64)
          ∙ mask-ext 64 (λ v. false) (λ v. ltb v 0 && votes_at ws n kept j v) (λ v q. sym (ap (λ (b : Bool). b && votes_at ws n kept j v) (le-ltb v 0 (omega arith))))

  -- a voter more
  more : (j k v : ℕ) → (ltb v (k + 1) && votes_at ws n kept j v) ≡ ((ltb v k && votes_at ws n kept j v) || (eqb v k && votes_at ws n kept j k))
  more j k v = go (eqb v k) refl
    where
      go : (b : Bool) → eqb v k ≡ b
          → (ltb v (k + 1) && votes_at ws n kept j v) ≡ ((ltb v k && votes_at ws n kept j v) || (b && votes_at ws n kept j k))
      go true q =
          let p : v ≡ k = eqb-true v k q in
          let a : k < k + 1 = omega arith in
          let b : k ≤ k = omega arith in
          rw (p, lt-ltb k (k + 1) a, le-ltb k k b)
      go false q =
          let p : v ≡ k → ⊥ = eqb-false v k q in
          rw (below_more v k p, or-false (ltb v k && votes_at ws n kept j v))

  same : (j k : ℕ) (masks : List ℕ) → votes_at ws n kept j k ≡ false → get_or masks j 0 ≡ mask_of 64 (λ v. ltb v k && votes_at ws n kept j v)
      → get_or masks j 0 ≡ mask_of 64 (λ v. ltb v (k + 1) && votes_at ws n kept j v)
  same j k masks e h =
      h ∙ mask-ext 64 (λ v. ltb v k && votes_at ws n kept j v) (λ v. ltb v (k + 1) && votes_at ws n kept j v)
      (λ v q. sym (more j k v ∙ rw (e, and-false (eqb v k), or-false (ltb v k && votes_at ws n kept j v))))

  pub linked-more : (k : ℕ) {masks next : List ℕ} → VotersAdded ws n kept k masks
      → next ≡ cond (voted kept k) (set masks (row_in ws n (voted_for kept k)) (mask_of 64 (added (bit_of (get_or masks (row_in ws n (voted_for kept k)) 0)) k))) masks
      → 0 < n → n ≤ length masks → VotersAdded ws n kept (k + 1) next
  linked-more k {masks} {next} P e z m = record { each = λ j l. ap (λ (s : List ℕ). get_or s j 0) e ∙ go j l (voted kept k) refl (eqb (row_in ws n (voted_for kept k)) j) refl }
    where
      go : (j : ℕ) → j < n → (b : Bool) → voted kept k ≡ b → (c : Bool) → eqb (row_in ws n (voted_for kept k)) j ≡ c
          → get_or (cond b (set masks (row_in ws n (voted_for kept k)) (mask_of 64 (added (bit_of (get_or masks (row_in ws n (voted_for kept k)) 0)) k))) masks) j 0
          ≡ mask_of 64 (λ v. ltb v (k + 1) && votes_at ws n kept j v)
      go j l false p c q = same j k masks (ap (λ (b : Bool). b && eqb (row_in ws n (voted_for kept k)) j) p) (P.each j l)
      go j l true p false q =
          let ne : j ≡ row_in ws n (voted_for kept k) → ⊥ = λ o. eqb-false (row_in ws n (voted_for kept k)) j q (sym o) in
          get_or-set_other masks (row_in ws n (voted_for kept k)) j _ 0 ne
          ∙ same j k masks (ap₂ (λ (b c : Bool). b && c) p q) (P.each j l)
      go j l true p true q =
          let o : row_in ws n (voted_for kept k) ≡ j = eqb-true (row_in ws n (voted_for kept k)) j q in
          rw o (get_or-set_same masks j (mask_of 64 (added (bit_of (get_or masks j 0)) k)) 0 (omega arith)
          ∙ mask-ext 64 (added (bit_of (get_or masks j 0)) k) (λ v. ltb v (k + 1) && votes_at ws n kept j v)
          (λ v r. ap (λ (b : Bool). b || eqb v k) (ap (λ (x : ℕ). bit_of x v) (P.each j l) ∙ bit_mask 64 (λ u. ltb u k && votes_at ws n kept j u) v r)
          ∙ sym (more j k v ∙ rw (p, q, and-true (eqb v k)))))

  pub linked-all : (k : ℕ) {masks : List ℕ} → VotersAdded ws n kept k masks → 64 ≤ k → Subtrees ws n kept n masks
  linked-all k {masks} P h = record { each = λ j l. go j l }
    where
      go : (j : ℕ) → j < n → get_or masks j 0 ≡ mask_of 64 (λ v. reaches ws n kept n j v)
      go j l =
          P.each j l
          ∙ mask-ext 64 (λ v. ltb v k && votes_at ws n kept j v) (λ v. reaches ws n kept n j v)
          (λ v q. rw (lt-ltb v k (omega arith))
          (ap (λ (b : Bool). voted kept v && b) (sym (up-low (λ y. parent_row ws y) (parent-lt ws) n n j (row_in ws n (voted_for kept v)) (link_lt ws n (voted_for kept v) (omega arith))))))

  -- ---- handed on

  spread : (a b c d : Bool) → (a && (b || (c && d))) ≡ ((a && b) || (c && (a && d)))
  spread true b c d = refl
  spread false b true d = refl
  spread false b false d = refl

  handed : (i j v : ℕ) → 0 < i → 0 < n
      → reaches ws n kept i j v ≡ (reaches ws n kept (i + 1) j v || (eqb (parent_row ws i) j && reaches ws n kept (i + 1) i v))
  handed i j v p z =
      let x = row_in ws n (voted_for kept v) in
      let l : x ≤ n = omega (arith, link_lt ws n (voted_for kept v) z) in
      ap (λ (b : Bool). voted kept v && b) (up_step (λ y. parent_row ws y) (parent-lt ws) n i j x p l)
      ∙ spread (voted kept v) (up_to (λ y. parent_row ws y) n (i + 1) j x) (eqb (parent_row ws i) j) (up_to (λ y. parent_row ws y) n (i + 1) i x)

  pub handed-on : (i : ℕ) {masks next : List ℕ} → Subtrees ws n kept (i + 1) masks
      → next ≡ set masks (parent_row ws i) (bit_or (get_or masks (parent_row ws i) 0) (get_or masks i 0))
      → 0 < i → i < n → n ≤ length masks → Subtrees ws n kept i next
  handed-on i {masks} {next} S e p l m = record { each = λ j k. ap (λ (s : List ℕ). get_or s j 0) e ∙ go j k (eqb (parent_row ws i) j) refl }
    where
      go : (j : ℕ) → j < n → (b : Bool) → eqb (parent_row ws i) j ≡ b
          → get_or (set masks (parent_row ws i) (bit_or (get_or masks (parent_row ws i) 0) (get_or masks i 0))) j 0 ≡ mask_of 64 (λ v. reaches ws n kept i j v)
      go j k false q =
          let ne : j ≡ parent_row ws i → ⊥ = λ o. eqb-false (parent_row ws i) j q (sym o) in
          get_or-set_other masks (parent_row ws i) j (bit_or (get_or masks (parent_row ws i) 0) (get_or masks i 0)) 0 ne
          ∙ S.each j k
          ∙ mask-ext 64 (λ v. reaches ws n kept (i + 1) j v) (λ v. reaches ws n kept i j v)
          (λ v r. sym (handed i j v p (omega arith) ∙ rw q (or-false (reaches ws n kept (i + 1) j v))))
      go j k true q =
          let o : parent_row ws i ≡ j = eqb-true (parent_row ws i) j q in
          rw o (get_or-set_same masks j (bit_or (get_or masks j 0) (get_or masks i 0)) 0 (omega arith)
          ∙ ap₂ bit_or (S.each j k) (S.each i l)
          ∙ or-mask 64 (λ v. reaches ws n kept (i + 1) j v) (λ v. reaches ws n kept (i + 1) i v)
          ∙ mask-ext 64 _ (λ v. reaches ws n kept i j v) (λ v r. sym (handed i j v p (omega arith) ∙ rw q)))
