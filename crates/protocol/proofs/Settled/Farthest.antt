-- The settled block is the farthest block that is on the head's chain for every filling, and nothing else is. Without a silent voter it is the head; more
-- silent voters leave it or move it down its chain; it is on the head's chain. Assumes nothing.
use Prim.Native.Nat.{ℕ, suc, ◌≤◌, ◌<◌}
use mathlib.Core.Path.{◌≡◌, refl, sym, ap, ◌∙◌}
use mathlib.Core.Logic.{◌⊎◌, inl, inr}
use mathlib.Core.Bool.{Bool, true, false, ◌||◌, cond}
use mathlib.Core.List.{List, Memᴰ}
use native.Mathlib.Omega.{arith}
use lib.Dec.{eqb}
use Rattle.protocol.specs.Entry.{Block, Vote}
use Rattle.protocol.specs.Chain.{Lookup, found, missing, genesis, at_or_above}
use Rattle.protocol.specs.Filters.{Choice, chosen, nothing, kept_choice}
use Rattle.protocol.specs.Walk.{weight, weight_at, head_block}
use Rattle.protocol.specs.Confirm.{highest}
use Rattle.protocol.specs.Settled.{fillers, filled, Filling, number_or_zero, filled_head, on_every_chain, settled_block, Certain, Farthest}
use Rattle.protocol.proofs.Basics.Members.{same_refl}
use Rattle.protocol.proofs.Basics.Tests.{clashing, or_left}
use Rattle.protocol.proofs.Chain.Above.{above-cast, above-start, above-compare, above-antisym, known-down, above-true, above_holds}
use Rattle.protocol.proofs.Chain.Relations.{In, Known, Sound, Above, here}
use Rattle.protocol.proofs.Confirm.Fast.{IsFarthest, FarthestIs, highest-is}
use Rattle.protocol.proofs.Confirm.Height.{height-above, height-one}
use Rattle.protocol.proofs.Filters.Kept.{kept-is}
use Rattle.protocol.proofs.Filters.Relations.{Cast}
use Rattle.protocol.proofs.Walk.Best.{walk_is, walk-known}
use Rattle.protocol.proofs.Walk.Sameness.{walk_same}
use Rattle.protocol.proofs.Settled.Every.{filler-nothing, filler-block, every_true, every_holds}

module _ {bs : List Block} (S : Sound bs) (vs : List Vote) (n E t : ℕ) (silent : ℕ → Bool) where
  abbrev votes : ℕ → Choice
  votes v = kept_choice vs E t v

  -- fillings that agree on the silent voters have one head
  head-agrees : (f g : ℕ → Choice) → ((v : ℕ) → v < n → silent v ≡ true → f v ≡ g v) → filled_head bs vs n E t silent f ≡ filled_head bs vs n E t silent g
  unfolding filled_head filled
  head-agrees f g a = walk_same S (same_refl Block bs) (filled silent f votes) (filled silent g votes) n (λ v l. at v l (silent v) refl) (suc t)
    where
      at : (v : ℕ) → v < n → (b : Bool) → silent v ≡ b → cond b (f v) (votes v) ≡ cond b (g v) (votes v)
      at v l true q = a v l q
      at v l false q = refl

  -- the test is the quantifier
  every-certain : (b : ℕ) → on_every_chain bs vs n E t silent b ≡ true → Certain bs vs n E t silent b
  unfolding on_every_chain
  every-certain b e f fit =
      every_true (fillers t bs) silent n (λ g. at_or_above bs (filled_head bs vs n E t silent g) b) (λ g h a. ap (λ (x : ℕ). at_or_above bs x b) (head-agrees g h a)) e f fit

  certain-every : (b : ℕ) → Certain bs vs n E t silent b → on_every_chain bs vs n E t silent b ≡ true
  unfolding on_every_chain
  certain-every b x = every_holds (fillers t bs) silent n (λ f. at_or_above bs (filled_head bs vs n E t silent f) b) x

  -- to count for nothing is a filling
  pub silence : Filling bs t n silent (λ v. nothing)
  silence v l s = filler-nothing t bs

  head-known : (f : ℕ → Choice) → Known bs (filled_head bs vs n E t silent f)
  unfolding filled_head
  head-known f = walk-known (genesis, S.start, refl) (walk_is (weight bs (filled silent f votes) n) S (suc t))

  -- block 0 is on every chain
  certain-zero : Certain bs vs n E t silent 0
  certain-zero f fit = let k = head-known f in above_holds S (above-cast k.2 (above-start S k.0 k.1))

  settled_is_lem : (c : Block) × IsFarthest (on_every_chain bs vs n E t silent) bs bs c × (c.number ≡ settled_block bs vs n E t silent)
  unfolding settled_block number_or_zero
  settled_is_lem = at (highest (on_every_chain bs vs n E t silent) bs bs) (highest-is (on_every_chain bs vs n E t silent) bs bs)
    where
      at : (f : Lookup) → FarthestIs (on_every_chain bs vs n E t silent) bs bs f
          → (c : Block) × IsFarthest (on_every_chain bs vs n E t silent) bs bs c × (c.number ≡ number_or_zero f)
      at missing r = absurd (r genesis S.start (certain-every 0 certain-zero))
      at (found c) r = (c, r, refl)

  -- it is the answer to the request, word by word
  pub settled-farthest : Farthest bs vs n E t silent (settled_block bs vs n E t silent)
  settled-farthest =
      let r = settled_is_lem in
      rw (sym r.2) (record {
        certain = every-certain r.0.number r.1.share;
        top = λ b x.
            let k = known-down S (head-known (λ v. nothing)) (above-true S (filled_head bs vs n E t silent (λ v. nothing)) b (x (λ v. nothing) silence)) in
            rw (sym k.2) (r.1.top k.0 k.1 (certain-every k.0.number (rw k.2 x)));
      })

  -- two blocks that are certain are on one chain
  certain-compare : (a b : ℕ) → Certain bs vs n E t silent a → Certain bs vs n E t silent b → Above bs a b ⊎ Above bs b a
  certain-compare a b x y = above-compare S (on a x) (on b y)
    where
      on : (c : ℕ) → Certain bs vs n E t silent c → Above bs c (filled_head bs vs n E t silent (λ v. nothing))
      on c z = above-true S (filled_head bs vs n E t silent (λ v. nothing)) c (z (λ v. nothing) silence)

  -- so what is on the head's chain for every filling is at or below the farthest
  certain-below : (r b : ℕ) → Farthest bs vs n E t silent r → Certain bs vs n E t silent b → Above bs b r
  certain-below r b x y = at (certain-compare b r y x.certain)
    where
      at : Above bs b r ⊎ Above bs r b → Above bs b r
      at (inl o) = o
      at (inr o) = here (height-one S o (x.top b y))

  pub settled-above : (b : ℕ) → Certain bs vs n E t silent b → at_or_above bs (settled_block bs vs n E t silent) b ≡ true
  settled-above b x = above_holds S (certain-below (settled_block bs vs n E t silent) b settled-farthest x)

  -- and there is one farthest block
  pub farthest-one : (r : ℕ) → Farthest bs vs n E t silent r → r ≡ settled_block bs vs n E t silent
  farthest-one r x =
      above-antisym S (certain-below (settled_block bs vs n E t silent) r settled-farthest x.certain)
      (certain-below r (settled_block bs vs n E t silent) x settled-farthest.certain)

  -- with no silent voter it is the head
  pub settled-none : ((v : ℕ) → v < n → silent v ≡ false) → settled_block bs vs n E t silent ≡ head_block bs vs n E t
  settled-none q =
      sym (farthest-one (head_block bs vs n E t) (record {
        certain = λ f fit. rw (same f) (above_holds S (here refl));
        top = λ b x. height-above S (above-true S (head_block bs vs n E t) b (rw (same (λ v. nothing)) at (x (λ v. nothing) silence)));
      }))
    where
      same : (f : ℕ → Choice) → filled_head bs vs n E t silent f ≡ head_block bs vs n E t
      same f =
          unfold filled_head head_block weight_at filled in (walk_same S (same_refl Block bs) (filled silent f votes) votes n (λ v l. rw (q v l)) (suc t))

-- ---- more silent voters; here a kept vote must be something that a silent voter may count for

module _ {bs : List Block} (S : Sound bs) (vs : List Vote) (n E t : ℕ)
    (on : (a : Vote) → Cast a vs → (b : Block) × In b bs × (b.number ≡ a.number) × (b.slot ≤ a.slot)) where
  kept-filler : (v : ℕ) → Memᴰ (kept_choice vs E t v) (fillers t bs)
  kept-filler v = at (kept_choice vs E t v) refl
    where
      at : (o : Choice) → kept_choice vs E t v ≡ o → Memᴰ o (fillers t bs)
      at nothing e = filler-nothing t bs
      at (chosen x) e =
          let k = kept-is vs E t v x e in
          let a = k.1.0 in
          let l = k.1.1 in
          let b = on a l.mem in
          rw (b.2 ∙ k.1.2) at (filler-block t bs b.0 b.1 (omega (arith, b.3, l.inside.past)))

  -- every filling of the fewer is one of the more: the others take their kept votes
  fewer-certain : (few many : ℕ → Bool) → ((v : ℕ) → v < n → few v ≡ true → many v ≡ true) → (b : ℕ) → Certain bs vs n E t many b → Certain bs vs n E t few b
  fewer-certain few many inside b x f fit = rw (sym same) (x (filled few f (λ v. kept_choice vs E t v)) (λ v l m. both v l (few v) refl))
    where
      both : (v : ℕ) → v < n → (o : Bool) → few v ≡ o → Memᴰ (filled few f (λ u. kept_choice vs E t u) v) (fillers t bs)
      both v l true e = unfold filled in (rw e (fit v l e))
      both v l false e = unfold filled in (rw e (kept-filler v))

      agree : (v : ℕ) → (o u : Bool) → few v ≡ o → many v ≡ u → (o ≡ true → u ≡ true)
          → cond u (cond o (f v) (kept_choice vs E t v)) (kept_choice vs E t v) ≡ cond o (f v) (kept_choice vs E t v)
      agree v o true p q h = refl
      agree v true false p q h = absurd (clashing (h refl) refl)
      agree v false false p q h = refl

      same : filled_head bs vs n E t many (filled few f (λ v. kept_choice vs E t v)) ≡ filled_head bs vs n E t few f
      same =
          unfold filled_head filled in (walk_same S (same_refl Block bs) (filled many (filled few f (λ v. kept_choice vs E t v)) (λ v. kept_choice vs E t v)) (filled few f (λ v. kept_choice vs E t v)) n
          (λ v l. agree v (few v) (many v) refl refl (inside v l)) (suc t))

  -- more silent voters: it stays or moves down its chain
  pub settled-more : (few many : ℕ → Bool) → ((v : ℕ) → v < n → few v ≡ true → many v ≡ true)
      → at_or_above bs (settled_block bs vs n E t few) (settled_block bs vs n E t many) ≡ true
  settled-more few many inside =
      settled-above S vs n E t few (settled_block bs vs n E t many)
      (fewer-certain few many inside (settled_block bs vs n E t many) (settled-farthest S vs n E t many).certain)

  -- one more
  pub settled-added : (silent : ℕ → Bool) (x : ℕ) → at_or_above bs (settled_block bs vs n E t silent) (settled_block bs vs n E t (λ v. silent v || eqb v x)) ≡ true
  settled-added silent x = settled-more silent (λ v. silent v || eqb v x) (λ v l h. or_left (silent v) (eqb v x) h)

  -- it is on the head's chain
  pub settled-head : (silent : ℕ → Bool) → at_or_above bs (head_block bs vs n E t) (settled_block bs vs n E t silent) ≡ true
  settled-head silent =
      rw (settled-none S vs n E t (λ v. false) (λ v l. refl)) at (settled-more (λ v. false) silent (λ v l h. absurd (clashing h refl)))
