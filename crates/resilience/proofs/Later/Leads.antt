-- When a block leads after a slot: its honest voters outnumber those who may stand elsewhere. Assumes nothing.
use Prim.Native.Nat.{ℕ, suc, ◌+◌, ◌*◌, ◌-◌, ◌/◌, ◌≤◌, ◌<◌}
use mathlib.Core.Path.{◌≡◌, refl, sym, ap, ◌∙◌}
use mathlib.Core.Logic.{◌⊎◌, inl, inr, ⊎_elim}
use mathlib.Core.Bool.{Bool, true, false, not, ◌&&◌, ◌||◌}
use mathlib.Core.List.{List, Memᴰ}
use native.Mathlib.Nat.{le_refl}
use native.Mathlib.Omega.{arith}
use lib.Dec.{ltb}
use borrow.Author.Tests.{lt-ltb, ltb-true, ltb-false, not-true, not-false}
use Rattle.protocol.specs.Entry.{Vote}
use Rattle.protocol.specs.Filters.{chosen, nothing}
use Rattle.protocol.specs.Walk.{count_below}
use Rattle.protocol.specs.Store.{entries}
use Rattle.protocol.proofs.Basics.Counting.{count-mono}
use Rattle.protocol.proofs.Basics.Tests.{and_left, and_right, or_left, or_right, both, either, neither, clashing, not-passes}
use Rattle.protocol.proofs.Filters.Kept.{not_chosen}
use Rattle.protocol.proofs.Filters.Relations.{Cast, InWindow}
use Rattle.resilience.specs.Run.{Network, Event, is_honest, voted}
use Rattle.resilience.specs.Resilience.{AtOrAbove, DeliveredAt, votes_in, votes_before, voters, opposed, MoreVote}
use Rattle.resilience.specs.Asynchrony.{opposed_since, MoreVoteSince}
use Rattle.resilience.proofs.Runs.Execution.{Execution, world, log}
use Rattle.resilience.proofs.Runs.History.{log-has}
use Rattle.resilience.proofs.Invariants.Soundness.{sound-tables}
use Rattle.resilience.proofs.Invariants.Votes.{stored-cast, ballot-of, once}
use Rattle.resilience.proofs.Later.Ballots.{ballot_in, ballot-voted, is_for, ballot-votes, voted-votes, some-ballot, votes-before, before-votes, no-ballot}

module _ {N : Network} (X : Execution N) where
  -- ---- the ballots of a run

  pub votes-real : (v q : ℕ) → votes_in (log X) q v ≡ true → 0 < q
  votes-real v q e =
      let x = some-ballot (ballot_in (log X) v q) (ballot-votes (log X) v q ∙ e) in
      let c = ballot-voted (log X) v q x.0 x.1 in
      let A = ballot-of X c.0 v x.0 c.2 in
      omega (arith, c.1, A.by.beat, A.by.tests.joined)

  ballot-is : (b v x : ℕ) → Memᴰ (voted b v x) (log X) → ballot_in (log X) v (b / 3) ≡ chosen x
  ballot-is b v x m =
      let y = some-ballot (ballot_in (log X) v (b / 3)) (ballot-votes (log X) v (b / 3) ∙ voted-votes (log X) b v x (b / 3) m refl) in
      let c = ballot-voted (log X) v (b / 3) y.0 y.1 in
      y.1 ∙ ap chosen (once X c.0 b v y.0 x c.2 m c.1)

  -- an honest voter's vote in a store is its ballot
  pub stored-ballot : (k : ℕ) → k ≤ X.end → (i : ℕ) → is_honest N i ≡ true → (a : Vote) → Cast a (entries ((world X k).node i).votes)
      → N.honest a.voter ≡ true → ballot_in (log X) a.voter a.slot ≡ chosen a.number
  stored-ballot k l i h a m g =
      let o = (sound-tables X k i h).votes a m in
      let p = stored-cast X k l i h a m (both (lt-ltb a.voter N.nodes o.voter) g) in
      rw (sym p.1) (ballot-is p.0 a.voter a.number (log-has X k X.end l (voted p.0 a.voter a.number) p.2))

  -- all honest votes of slot s are for B or a block above it
  abbrev pub AllOn : ℕ → ℕ → Type 0
  AllOn B s = (b i x : ℕ) → Memᴰ (voted b i x) (log X) → b / 3 ≡ s → AtOrAbove (log X) B x

  -- The vote x of voter v in slot q is no vote beside B after slot s: x is on B, or v voted later, in a slot up to s whose votes arrive.
  abbrev pub Harmless : ℕ → ℕ → ℕ → ℕ → ℕ → Type 0
  Harmless B s v q x =
      AtOrAbove (log X) B x ⊎ (r y : ℕ) × (q < r) × (r ≤ s) × DeliveredAt (3 * r + 1) (log X) × (ballot_in (log X) v r ≡ chosen y)

  -- B leads after slot s: some honest voters of the slot stand on it, and they are more than those who may stand elsewhere in slot s + 1.
  pub record Leads (B s : ℕ) : Type 0 where
    pub for : ℕ → Bool
    pub against : ℕ → Bool
    pub on : (v : ℕ) → v < N.nodes → for v ≡ true → (N.honest v ≡ true) × (x : ℕ) × (ballot_in (log X) v s ≡ chosen x) × AtOrAbove (log X) B x
    pub neutral : (v : ℕ) → v < N.nodes → for v ≡ false → against v ≡ false
        → (N.honest v ≡ true) × ((q x : ℕ) → InWindow N.expiry (suc s) q → ballot_in (log X) v q ≡ chosen x → Harmless B s v q x)
    pub more : count_below against N.nodes < count_below for N.nodes

  -- the voters of slot s, if all stand on B
  stands : (B s : ℕ) → AllOn B s → (v : ℕ) → voters N (log X) s v ≡ true
      → (N.honest v ≡ true) × (x : ℕ) × (ballot_in (log X) v s ≡ chosen x) × AtOrAbove (log X) B x
  stands B s on v h =
      let y = some-ballot (ballot_in (log X) v s) (ballot-votes (log X) v s ∙ and_right (N.honest v) _ h) in
      let c = ballot-voted (log X) v s y.0 y.1 in
      (and_left (N.honest v) _ h, y.0, y.1, on c.0 v y.0 c.2 c.1)

  -- B leads where all honest votes of the slot stand on it and the third demand's count holds
  pub all-lead : (B s : ℕ) → AllOn B s → MoreVote N s (log X) → Leads B s
  all-lead B s on more = record {
    for = voters N (log X) s;
    against = opposed N (log X) s;
    on = λ v l h. stands B s on v h;
    neutral = λ v l h k. let r = none v h k in (r.0, λ q x w e. absurd (not_chosen (sym (r.1 q w) ∙ e)));
    more = more;
  }
    where
      none : (v : ℕ) → voters N (log X) s v ≡ false → opposed N (log X) s v ≡ false
          → (N.honest v ≡ true) × ((q : ℕ) → InWindow N.expiry (suc s) q → ballot_in (log X) v q ≡ nothing)
      none v h k =
          let o = neither (not (N.honest v)) _ k in
          let g = not-false (N.honest v) o.0 in
          let now : votes_in (log X) s v ≡ false = not-passes (λ e. clashing (both g e) h) in
          (g, no-ballot (log X) N.expiry _ s v (omega arith) now (not-passes (λ e. clashing (both e (ap not now)) o.1)))

  -- who is not counted in the smaller count is honest, and if it voted in one of the k slots before t it voted in t or in s
  not-counted : (k t s v : ℕ) → (not (N.honest v) || (votes_before k (log X) t v && not (votes_in (log X) t v || votes_in (log X) s v))) ≡ false
      → (N.honest v ≡ true) × ((q : ℕ) → 0 < q → q < t → t ≤ q + k → votes_in (log X) q v ≡ true → (votes_in (log X) t v ≡ true) ⊎ (votes_in (log X) s v ≡ true))
  not-counted k t s v h =
      let o = neither (not (N.honest v)) _ h in (
        not-false (N.honest v) o.0,
        λ q z l n e. either (votes_in (log X) t v) _ (not-false _ (not-passes (λ f. clashing (both (votes-before k (log X) t v q z l n e) f) o.1))),
      )

  -- and where the honest votes of all slots from t on stand on it, those of slot t arrive, and the smaller count holds
  pub since-lead : (B t s : ℕ) → t ≤ s → DeliveredAt (3 * t + 1) (log X) → ((q : ℕ) → t ≤ q → q ≤ s → AllOn B q) → MoreVoteSince N t s (log X) → Leads B s
  unfolding is_for
  since-lead B t s l del on more = record {
    for = voters N (log X) s;
    against = opposed_since N (log X) t s;
    on = λ v n h. stands B s (on s l (le_refl s)) v h;
    neutral = λ v n h k. rest v h k;
    more = more;
  }
    where
      rest : (v : ℕ) → voters N (log X) s v ≡ false → opposed_since N (log X) t s v ≡ false
          → (N.honest v ≡ true) × ((q x : ℕ) → InWindow N.expiry (suc s) q → ballot_in (log X) v q ≡ chosen x → Harmless B s v q x)
      rest v h k =
          let o = not-counted _ t s v k in (
            o.0,
            λ q x w e. go q x w e (λ a. ⊎_elim (λ f. f) (λ f. absurd (clashing (both o.0 f) h)) (o.1 q w.real a (omega (arith, w.fresh)) (sym (ballot-votes (log X) v q) ∙ ap is_for e)))
                (ltb q t) refl,
          )
        where
          go : (q x : ℕ) → InWindow N.expiry (suc s) q → ballot_in (log X) v q ≡ chosen x → (q < t → votes_in (log X) t v ≡ true) → (b : Bool) → ltb q t ≡ b
              → Harmless B s v q x
          go q x w e in-t true f =
              let a = ltb-true q t f in
              let y = some-ballot (ballot_in (log X) v t) (ballot-votes (log X) v t ∙ in-t a) in
              inr (t, y.0, a, l, del, y.1)
          go q x w e in-t false f =
              let c = ballot-voted (log X) v q x e in
              inl (on q (ltb-false q t f) (omega (arith, w.past)) c.0 v x c.2 c.1)

-- the smaller count holds where the third demand's does
pub more-since : (N : Network) (log : List Event) (t g : ℕ) → t ≤ g → MoreVote N g log → MoreVoteSince N t g log
more-since N log t g l more =
    omega (arith, count-mono (opposed_since N log t g) (opposed N log g) N.nodes (λ v n h. counted _ v h (λ q a b. omega arith)), more)
  where
    counted : (k v : ℕ) → (not (N.honest v) || (votes_before k log t v && not (votes_in log t v || votes_in log g v))) ≡ true
        → ((q : ℕ) → q < t → t ≤ q + k → g ≤ q + (N.expiry - 1)) → opposed N log g v ≡ true
    counted k v h near = ⊎_elim (λ e. or_left (not (N.honest v)) _ e) (λ e. or_right (not (N.honest v)) _ (go e)) (either (not (N.honest v)) _ h)
      where
        go : (votes_before k log t v && not (votes_in log t v || votes_in log g v)) ≡ true → (votes_before (N.expiry - 1) log g v && not (votes_in log g v)) ≡ true
        go e =
            let a = before-votes k log t v (and_left (votes_before k log t v) _ e) in
            let b = neither (votes_in log t v) (votes_in log g v) (not-true _ (and_right (votes_before k log t v) _ e)) in
            both (votes-before (N.expiry - 1) log g v a.0 a.1 (omega (arith, a.2)) (near a.0 a.2 a.3) a.4) (ap not b.1)
