-- The walk with a margin has one result, which depends on the members and their weights only; so does the settled block. And the weights without the silent
-- voters as counts of voters' sets. Assumes nothing.
use Prim.Native.Nat.{ℕ, suc, ◌+◌, ◌<◌}
use mathlib.Core.Path.{◌≡◌, sym, ap, ◌∙◌}
use mathlib.Core.Bool.{Bool, true, false, not, ◌&&◌, cond, and-true, and-false}
use mathlib.Core.List.{List}
use native.Mathlib.Nat.{le_antisymm}
use native.Mathlib.Omega.{arith}
use Rattle.protocol.specs.Entry.{Block, Vote}
use Rattle.protocol.specs.Lists.{Same}
use Rattle.protocol.specs.Filters.{Choice, nothing, kept_choice}
use Rattle.protocol.specs.Walk.{count_below, supports, weight}
use Rattle.protocol.specs.Settled.{filled, settled_block}
use Rattle.protocol.specs.SettledWalk.{margin_walk, heard_at, settled_walk}
use Rattle.protocol.proofs.Basics.Counting.{count-ext}
use Rattle.protocol.proofs.Basics.Members.{same_refl}
use Rattle.protocol.proofs.Chain.Above.{sound-same}
use Rattle.protocol.proofs.Chain.Relations.{In, Sound}
use Rattle.protocol.proofs.Filters.Kept.{kept_same}
use Rattle.protocol.proofs.Filters.Relations.{SameFor}
use Rattle.protocol.proofs.Walk.Best.{best-one}
use Rattle.protocol.proofs.Walk.Relations.{IsBest}
use Rattle.protocol.proofs.Walk.Sameness.{weight-same}
use Rattle.protocol.proofs.Settled.Relations.{Safe, Rival, Margin, leaf, halt, onward}
use Rattle.protocol.proofs.Settled.Margin.{margin-is}
use Rattle.protocol.proofs.Settled.Walk.{settled-walk}

-- ---- one result

module _ (w : ℕ → ℕ) (k : ℕ) {bs : List Block} (S : Sound bs) (t : ℕ) where
  -- a best child with a rival is not safe
  not-safe : {a : ℕ} (c d e : Block) → IsBest w bs (suc t) a c → Safe w k bs t a c → IsBest w bs (suc t) a e → Rival w k bs t a e d → ⊥
  not-safe c d e p s q r =
      let y : e ≡ c = best-one w S (suc t) e c q p in
      let r2 : Rival w k bs t _ c d = rw y at r in
      let o = s d r2.mem r2.child r2.other in
      let i : w d.number + k ≡ w c.number = omega (arith, o.0, r2.heavy) in
      r2.other (le_antisymm (r2.tie i) (o.1 i))

  margin-one : {r s a : ℕ} → Margin w k bs t r a → Margin w k bs t s a → r ≡ s
  margin-one (leaf e x) (leaf f y) = sym e ∙ f
  margin-one (leaf e x) (halt f c d p q) = sym e ∙ f
  margin-one (leaf e x) (onward c p s u) = absurd (x c p.mem p.child)
  margin-one (halt e c d p q) (leaf f y) = sym e ∙ f
  margin-one (halt e c d p q) (halt f g h o z) = sym e ∙ f
  margin-one (halt e c d p q) (onward g o s u) = absurd (not-safe g d c o s p q)
  margin-one (onward c p s u) (leaf f y) = absurd (y c p.mem p.child)
  margin-one (onward c p s u) (halt f g h o z) = absurd (not-safe c h g p s o z)
  margin-one (onward c p s u) (onward d q o v) = margin-one u (rw (ap (λ o. o.number) (sym (best-one w S (suc t) c d p q))) at v)

  -- whatever stops so is the walk
  pub margin-of : {r : ℕ} → Margin w k bs t r 0 → margin_walk w k bs t ≡ r
  margin-of u = margin-one (margin-is w k S t) u

-- ---- the members and their weights

module _ (w u : ℕ → ℕ) (k : ℕ) {xs ys : List Block} (t : ℕ) (s : Same Block xs ys) (f : (c : Block) → In c xs → w c.number ≡ u c.number) where
  best-to : {a : ℕ} (c : Block) → IsBest w xs (suc t) a c → IsBest u ys (suc t) a c
  best-to c p =
      record {
        mem = s.to c p.mem;
        child = p.child;
        top = λ d m h. rw (← f c p.mem, ← f d (s.from d m)) (p.top d (s.from d m) h);
      }

  margin-to : {r a : ℕ} → Margin w k xs t r a → Margin u k ys t r a
  margin-to (leaf e x) = leaf e (λ d m h. x d (s.from d m) h)
  margin-to (halt e c d p q) =
      halt e c d (best-to c p) (record {
        mem = s.to d q.mem;
        child = q.child;
        other = q.other;
        heavy = rw (← f c p.mem, ← f d q.mem) q.heavy;
        tie = rw (← f c p.mem, ← f d q.mem) q.tie;
      })
  margin-to (onward c p o z) =
      onward c (best-to c p) (λ d m h ne. rw (← f c p.mem, ← f d (s.from d m)) (o d (s.from d m) h ne)) (margin-to z)

  pub margin_walk-to : Sound xs → margin_walk w k xs t ≡ margin_walk u k ys t
  margin_walk-to S = sym (margin-of u k (sound-same S s) t (margin-to (margin-is w k S t)))

-- ---- the weights as counts of sets

-- the voters of b without the silent
pub heard-without : (bs : List Block) (vs : List Vote) (n E t : ℕ) (silent : ℕ → Bool) (b : ℕ)
    → heard_at bs vs n E t silent b ≡ count_below (λ v. supports bs (kept_choice vs E t v) b && not (silent v)) n
unfolding heard_at weight filled supports
heard-without bs vs n E t silent b =
    count-ext (λ v. supports bs (filled silent (λ u. nothing) (λ u. kept_choice vs E t u) v) b) (λ v. supports bs (kept_choice vs E t v) b && not (silent v)) n
    (λ v l. at (silent v) (kept_choice vs E t v))
  where
    at : (x : Bool) (o : Choice) → supports bs (cond x nothing o) b ≡ (supports bs o b && not x)
    at true o = sym (and-false (supports bs o b))
    at false o = sym (and-true (supports bs o b))

-- a walk by these weights finds the settled block
pub settled-heard : {bs : List Block} → Sound bs → (vs : List Vote) (n E t : ℕ) (silent : ℕ → Bool) (u : ℕ → ℕ) (k : ℕ)
    → ((c : Block) → In c bs → u c.number ≡ heard_at bs vs n E t silent c.number) → k ≡ count_below silent n
    → margin_walk u k bs t ≡ settled_block bs vs n E t silent
unfolding settled_walk
settled-heard {bs} S vs n E t silent u k f e =
    rw e (margin_walk-to u (heard_at bs vs n E t silent) (count_below silent n) t (same_refl Block bs) f S ∙ settled-walk S vs n E t silent)

-- the order of a view means nothing
pub settled_same : {xs ys : List Block} → Sound xs → Same Block xs ys → (vs ws : List Vote) (n E t : ℕ) → ((v : ℕ) → v < n → SameFor v vs ws) → (silent : ℕ → Bool)
    → settled_block xs vs n E t silent ≡ settled_block ys ws n E t silent
unfolding settled_walk heard_at filled
settled_same {xs} {ys} S s vs ws n E t f silent =
    sym (settled-walk S vs n E t silent)
    ∙ margin_walk-to (heard_at xs vs n E t silent) (heard_at ys ws n E t silent) (count_below silent n) t s
    (λ c m. weight-same S s (filled silent (λ v. nothing) (λ v. kept_choice vs E t v)) (filled silent (λ v. nothing) (λ v. kept_choice ws E t v)) n
    (λ v l. ap (cond (silent v) nothing) (kept_same vs ws E t v (f v l))) c.number) S
    ∙ settled-walk (sound-same S s) ws n E t silent
