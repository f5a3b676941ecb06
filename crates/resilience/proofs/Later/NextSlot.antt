-- If B leads after slot g and the honest votes of the slots between g and s stand on B, the walks for slot s of nodes that merged slot g or a later one
-- end on B: the honest heads and bases of slot s, up to g + E. Assumes nothing.
use Prim.Native.Nat.{ℕ, suc, ◌+◌, ◌*◌, ◌/◌, ◌≤◌, ◌<◌}
use mathlib.Core.Path.{◌≡◌, refl, sym, ap, ◌∙◌, subst}
use mathlib.Core.Logic.{inl, inr}
use mathlib.Core.Bool.{true}
use mathlib.Core.List.{List, Memᴰ}
use native.Mathlib.Nat.{le_refl}
use native.Mathlib.Omega.{arith}
use Rattle.protocol.specs.Entry.{Block, Vote}
use Rattle.protocol.specs.Chain.{at_or_above}
use Rattle.protocol.specs.Filters.{chosen, kept_choice}
use Rattle.protocol.specs.Walk.{weight, weight_at, walk, head_block, base_block}
use Rattle.protocol.specs.Store.{entries, view_of}
use Rattle.protocol.specs.Calls.Propose.{base_of}
use Rattle.protocol.specs.Calls.Vote.{head_of}
use Rattle.protocol.proofs.Basics.Counting.{count-witness}
use Rattle.protocol.proofs.Chain.Above.{above_holds, known-down}
use Rattle.protocol.proofs.Chain.Relations.{In, Known, Sound, Above}
use Rattle.protocol.proofs.Filters.Relations.{Cast, InWindow, IsLast}
use Rattle.protocol.proofs.Walk.Reorg.{stays}
use Rattle.protocol.proofs.Store.Sound.{store-sound, view-sound}
use Rattle.protocol.proofs.Store.Views.{view-stored}
use Rattle.resilience.specs.Run.{Network, settings, is_honest, built}
use Rattle.resilience.specs.Resilience.{AtOrAbove, DeliveredAt}
use Rattle.resilience.proofs.Runs.Execution.{Execution, world, log}
use Rattle.resilience.proofs.Invariants.Soundness.{sound-tables}
use Rattle.resilience.proofs.Invariants.Blocks.{OfRun, one-block, stored-of-run}
use Rattle.resilience.proofs.Invariants.Chains.{above-in-log, above-in-list}
use Rattle.resilience.proofs.Invariants.Votes.{ballot-of}
use Rattle.resilience.proofs.Invariants.Proposals.{built_of}
use Rattle.resilience.proofs.Delivery.MergedVotes.{ballot-in-view}
use Rattle.resilience.proofs.Later.Ballots.{ballot_in, ballot-voted, voted-votes}
use Rattle.resilience.proofs.Later.Leads.{votes-real, stored-ballot, AllOn, Harmless, Leads}

module _ {N : Network} (X : Execution N) where
  -- B leads after slot g, whose gossip arrives; s is a later slot, up to E later, and the honest votes of the slots between are on B
  module _ (g : ℕ) (del : DeliveredAt (3 * g + 1) (log X)) (B : Block) (of-B : OfRun X B) (early : B.slot ≤ g) (L : Leads X B.number g)
      (s : ℕ) (after : g < s) (near : s ≤ g + N.expiry) (between : (q : ℕ) → g < q → q < s → AllOn X B.number q) where
    -- ---- a node that merged slot g or a later one, and the blocks and votes that it walks over

    module _ (k : ℕ) (l : k ≤ X.end) (i : ℕ) (h : is_honest N i ≡ true) (since : g ≤ ((world X k).node i).clock.merged) (until : ((world X k).node i).clock.merged ≤ s)
        (bs : List Block) (vs : List Vote) (S : Sound bs) (of : (c : Block) → In c bs → OfRun X c) (known : (a : Vote) → Cast a vs → Known bs a.number)
        (stored : (a : Vote) → Cast a vs → Cast a (entries ((world X k).node i).votes)) (seen : (a : Vote) → Cast a (view_of ((world X k).node i).votes) → Cast a vs) where
      -- the honest votes of a slot up to g that counts for s are among them, if they arrive
      arrived : (r : ℕ) → r ≤ g → s ≤ r + N.expiry → DeliveredAt (3 * r + 1) (log X) → (v x : ℕ) → ballot_in (log X) v r ≡ chosen x
          → Cast (record { voter = v; slot = r; number = x }) vs
      arrived r o n d v x e =
          let c = ballot-voted (log X) v r x e in
          let A = ballot-of X c.0 v x c.2 in
          let b : 3 * r + 1 ≡ c.0 = omega (arith, A.beat, c.1) in
          seen (record { voter = v; slot = r; number = x }) (rw (sym c.1)
          (ballot-in-view X c.0 (subst (λ (z : ℕ). DeliveredAt z (log X)) b d) v x A k i l h (omega (arith, c.1)) (omega (arith, c.1))))

      cast : (v x : ℕ) → ballot_in (log X) v g ≡ chosen x → Cast (record { voter = v; slot = g; number = x }) vs
      cast = arrived g (le_refl g) near del

      over : (v x : ℕ) → ballot_in (log X) v g ≡ chosen x → AtOrAbove (log X) B.number x → Above bs B.number x
      over v x e = above-in-list X bs of S (known (record { voter = v; slot = g; number = x }) (cast v x e))

      -- some honest node votes in slot g for B or a block above it
      voter : (v x : ℕ) × (ballot_in (log X) v g ≡ chosen x) × AtOrAbove (log X) B.number x
      voter = let u = count-witness L.against L.for N.nodes L.more in let o = L.on u.0 u.1 u.2 in (u.0, o.1, o.2, o.3)

      inside : In B bs
      inside =
          let n = known (record { voter = voter.0; slot = g; number = voter.1 }) (cast voter.0 voter.1 voter.2) in
          let k = known-down S n (over voter.0 voter.1 voter.2 voter.3) in
          rw (one-block X k.0 B (of k.0 k.1) of-B k.2) at k.1

      positive : 0 < g
      positive = let c = ballot-voted (log X) voter.0 g voter.1 voter.2 in votes-real X voter.0 g (voted-votes (log X) c.0 voter.0 voter.1 g c.2 c.1)

      -- honest votes among them were cast
      genuine : (a : Vote) → Cast a vs → N.honest a.voter ≡ true → ballot_in (log X) a.voter a.slot ≡ chosen a.number
      genuine a m = stored-ballot X k l i h a (stored a m)

      -- and are on B if their slot is between g and s
      between-on : (a : Vote) → Cast a vs → N.honest a.voter ≡ true → g < a.slot → a.slot < s → at_or_above bs a.number B.number ≡ true
      between-on a m o p q =
          let c = ballot-voted (log X) a.voter a.slot a.number (genuine a m o) in
          above_holds S (above-in-list X bs of S (known a m) (between a.slot p q c.0 a.voter a.number c.2 c.1))

      -- who is for neither side keeps no vote beside B
      harmless : (v : ℕ) → (N.honest v ≡ true) × ((q x : ℕ) → InWindow N.expiry (suc g) q → ballot_in (log X) v q ≡ chosen x → Harmless X B.number g v q x)
          → (a : Vote) → IsLast vs N.expiry s v a → a.slot ≤ g → at_or_above bs a.number B.number ≡ true
      harmless v (o, f) a I u =
          go (f a.slot a.number (record { real = I.inside.real; past = omega arith; fresh = omega (arith, I.inside.fresh) })
          (sym (ap (λ z. ballot_in (log X) z a.slot) I.by) ∙ genuine a I.mem (ap N.honest I.by ∙ o)))
        where
          go : Harmless X B.number g v a.slot a.number → at_or_above bs a.number B.number ≡ true
          go (inl e) = above_holds S (above-in-list X bs of S (known a I.mem) e)
          go (inr (r, y, q, m, d, e)) =
              let n = I.inside.fresh in
              let t = I.top (record { voter = v; slot = r; number = y }) (arrived r m (omega arith) d v y e) refl
              (record { real = omega arith; past = omega arith; fresh = omega arith }) in
              absurd (omega (arith, t))

      pub walk-on : (lim : ℕ) → B.slot < lim → AtOrAbove (log X) B.number (walk (weight bs (λ v. kept_choice vs N.expiry s v) N.nodes) bs lim)
      walk-on lim soon =
          above-in-log X bs of
          (stays S vs N.nodes N.expiry g s B inside positive after near N.honest (ballot_in (log X)) genuine between-on L.for L.against
          (λ v n f. let o = L.on v n f in (o.0, o.1, cast v o.1 o.2, above_holds S (over v o.1 o.2 o.3))) (λ v n f u. let o = L.neutral v n f u in (o.0, harmless v o)) L.more lim soon)

    -- ---- heads and bases of slot s

    pub head-on : (k : ℕ) → k ≤ X.end → (i : ℕ) → is_honest N i ≡ true → g ≤ ((world X k).node i).clock.merged → ((world X k).node i).clock.merged ≤ s
        → AtOrAbove (log X) B.number (head_of (settings N i) ((world X k).node i) s)
    unfolding head_of head_block weight_at
    head-on k l i h since until =
        let G = sound-tables X k i h in
        walk-on k l i h since until (view_of ((world X k).node i).blocks) (view_of ((world X k).node i).votes) (view-sound G)
        (λ c n. stored-of-run X k l i h c (view-stored ((world X k).node i).blocks c n)) G.closed-votes
        (λ a n. view-stored ((world X k).node i).votes a n) (λ a n. n)
        (suc s) (omega arith)

    pub base_on : (k : ℕ) → k ≤ X.end → (i : ℕ) → is_honest N i ≡ true → g ≤ ((world X k).node i).clock.merged → ((world X k).node i).clock.merged ≤ s
        → AtOrAbove (log X) B.number (base_of (settings N i) ((world X k).node i) s)
    unfolding base_of base_block weight_at
    base_on k l i h since until =
        let G = sound-tables X k i h in
        walk-on k l i h since until (entries ((world X k).node i).blocks) (entries ((world X k).node i).votes) (store-sound G)
        (stored-of-run X k l i h) (λ a n. let o = (G.votes a n).on in (o.0, o.1, o.2)) (λ a n. n) (λ a n. view-stored ((world X k).node i).votes a n)
        s (omega arith)

    pub next-vote : AllOn X B.number s
    next-vote b i x m e =
        let A = ballot-of X b i x m in
        let t : (world X A.when).beat / 3 ≡ s = ap (λ z. z / 3) (sym A.by.beat) ∙ e in
        rw (A.by.value ∙ ap (head_of (settings N i) ((world X A.when).node i)) t)
        (head-on A.when (omega (arith, A.before)) i A.honest (omega (arith, A.by.tests.joined)) (omega (arith, A.by.tests.joined)))

    pub next-base : (b i x y : ℕ) → Memᴰ (built b i x y) (log X) → b / 3 ≡ s → AtOrAbove (log X) B.number y
    next-base b i x y m e =
        let P = built_of X b i x y m in
        let t : (world X P.when).beat / 3 ≡ s = ap (λ z. z / 3) (sym P.by.beat) ∙ e in
        rw (P.by.value ∙ ap (base_of (settings N i) ((world X P.when).node i)) t)
        (base_on P.when (omega (arith, P.before)) i P.honest (omega (arith, P.by.tests.joined)) (omega (arith, P.by.tests.joined)))
