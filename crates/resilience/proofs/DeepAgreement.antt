-- Deep blocks agree: one of the K slots before slot a has an honest block B that lasts. The deep block for a is at or below B by its slot, and B is under
-- every later head. Assumes nothing.
use Prim.Native.Nat.{ℕ, ◌+◌, ◌*◌, ◌-◌, ◌/◌, ◌≤◌, ◌<◌}
use mathlib.Core.Path.{◌≡◌, refl, subst}
use mathlib.Core.Logic.{◌⊎◌, inl, inr}
use mathlib.Core.Bool.{true}
use mathlib.Core.List.{List, Memᴰ}
use native.Mathlib.Nat.{le_refl}
use native.Mathlib.Omega.{arith}
use Rattle.protocol.specs.Entry.{Block}
use Rattle.protocol.specs.Chain.{genesis}
use Rattle.protocol.specs.Store.{view_of}
use Rattle.protocol.specs.Calls.Vote.{head_of}
use Rattle.protocol.specs.Calls.Query.{deep_of}
use Rattle.protocol.proofs.Chain.Above.{above-trans, above-antisym, above-compare, above-level, above-start, known-down}
use Rattle.protocol.proofs.Chain.Relations.{In, Known, Sound, Above}
use Rattle.protocol.proofs.Confirm.Deep.{IsDeep, deep_is}
use Rattle.protocol.proofs.Walk.Ends.{head-early}
use Rattle.protocol.proofs.Store.Sound.{view-sound, ranges}
use Rattle.protocol.proofs.Store.Views.{view-stored}
use Rattle.protocol.proofs.Calls.Passed.{votes}
use Rattle.resilience.specs.Run.{Network, World, settings, is_honest, built}
use Rattle.resilience.specs.Resilience.{Opened, Gives, by-proposer, OneBlock, AtOrAbove, here, Unforged, EnoughForHonest, Delivered, Majority}
use Rattle.resilience.specs.DeepAgreement.{ConditionsFrom, OneOfEvery, HonestBlock, BlockEvery, Agreed, DeepAfterVote, DeepAgreement, DeepWhileJoined, JoinedAgreement}
use Rattle.resilience.specs.Flooding.{FloodAgreement}
use Rattle.resilience.specs.Asynchrony.{Good, Lasting, GoodSince, AsynchronyAgreement}
use Rattle.resilience.proofs.Steps.Allowed.{is_true}
use Rattle.resilience.proofs.Runs.Execution.{Execution, world, log, settings-sound, opened-ranges, by-passage}
use Rattle.resilience.proofs.Runs.History.{beat-mono}
use Rattle.resilience.proofs.Runs.Premises.{enough-for-honest}
use Rattle.resilience.proofs.Invariants.Soundness.{sound-tables}
use Rattle.resilience.proofs.Invariants.Clock.{seen-beat}
use Rattle.resilience.proofs.Invariants.Blocks.{OfRun, one-block, stored-of-run}
use Rattle.resilience.proofs.Invariants.Chains.{above-in-log, above-in-list}
use Rattle.resilience.proofs.Invariants.Proposals.{Built, built_of}
use Rattle.resilience.proofs.Slot.ProposerView.{block_of}
use Rattle.resilience.proofs.Asynchrony.{under-head, lasting-by, good-since}
use Rattle.resilience.proofs.Resilient.{each-lasts}
use Rattle.resilience.proofs.JustVoted.{while-joined}

-- the third demand's premises from slot s on are such conditions
pub conditions-from : (N : Network) (w : World) (s : ℕ) → Delivered (3 * s - 1) w.log → Majority N s w → ConditionsFrom N s w
unfolding Delivered Majority ConditionsFrom
conditions-from N w s del maj q l o = record { arrive = λ b from to. del b (omega arith); more = maj q l o }

-- an honest block of a slot from s on and before a that lasts
record Between (N : Network) (s a : ℕ) (w : World) : Type 0 where
  beat : ℕ
  number : ℕ
  lasting : Lasting N w (GoodSince N w) beat number
  from : s ≤ beat / 3
  past : beat / 3 < a

-- x names a block of the log, or block 0, that is early enough to be the deep block for slot a and is at or below such a block
record Backed (N : Network) (s : ℕ) (w : World) (a x : ℕ) : Type 0 where
  by : Between N s a w
  block : Block
  of : (block ≡ genesis) ⊎ Gives w.log block
  is : block.number ≡ x
  early : (block.slot + N.depth ≤ a) ⊎ (block.number ≡ 0)
  under : AtOrAbove w.log block.number by.number

-- also for later slots
later : {N : Network} {s : ℕ} {w : World} {a b x : ℕ} → a ≤ b → Backed N s w a x → Backed N s w b x
later {N} {a = a} {b = b} l K =
    let B = K.by in
    record {
      by = record { beat = B.beat; number = B.number; lasting = B.lasting; from = B.from; past = omega (arith, B.past) };
      block = K.block;
      of = K.of;
      is = K.is;
      early = go K.early;
      under = K.under;
    }
  where
    go : (K.block.slot + N.depth ≤ a) ⊎ (K.block.number ≡ 0) → (K.block.slot + N.depth ≤ b) ⊎ (K.block.number ≡ 0)
    go (inl e) = inl (omega arith)
    go (inr z) = inr z

-- an honest block is itself backed, K slots later
block-backed : (N : Network) (s : ℕ) (w : World) (a : ℕ) (B : Between N s a w) → B.beat / 3 + N.depth ≤ a → Backed N s w a B.number
block-backed N s w a B far = record {
  by = B;
  block = record { number = B.number; parent = B.lasting.block.parent; slot = B.beat / 3 };
  of = inr (by-proposer B.beat B.lasting.block.proposer B.lasting.block.proposed refl);
  is = refl;
  early = inl far;
  under = here;
}

-- ---- at a point of an execution: node i is joined for slot a, or has merged it

module _ {N : Network} (X : Execution N) (k : ℕ) (l : k ≤ X.end) (i : ℕ) (h : is_honest N i ≡ true) (a : ℕ)
    (since : a ≤ ((world X k).node i).clock.merged + 1) (until : ((world X k).node i).clock.merged ≤ a) where
  -- the merge beat of the slot before has begun
  begun : 3 * a ≤ (world X X.end).beat + 1
  begun = let t = (sound-tables X k i h).time in omega (arith, seen-beat X k i h, t.done-seen, t.merged-done, beat-mono X k X.end l)

  abbrev bs : List Block
  bs = view_of ((world X k).node i).blocks

  abbrev deep_now : ℕ
  deep_now = deep_of (settings N i) ((world X k).node i) a

  abbrev head_now : ℕ
  head_now = head_of (settings N i) ((world X k).node i) a

  S : Sound bs
  S = view-sound (sound-tables X k i h)

  of-run : (c : Block) → In c bs → OfRun X c
  of-run c n = stored-of-run X k l i h c (view-stored ((world X k).node i).blocks c n)

  head-known : Known bs head_now
  unfolding head_of
  head-known = let c = head-early S (view_of ((world X k).node i).votes) N.nodes N.expiry a in (c.0, c.1, c.2)

  deepest : (d : Block) × IsDeep bs head_now N.depth a d × (d.number ≡ deep_now)
  unfolding head_of deep_of
  deepest = deep_is S (view_of ((world X k).node i).votes) N.nodes N.expiry N.depth a

  -- a block of the run with the number of one in view is in view
  in-view : (c : Block) → OfRun X c → Known bs c.number → In c bs
  in-view c o n = rw (one-block X n.0 c (of-run n.0 n.1) o n.2) at n.1

  -- what is at or below the deep block and at or above it is the deep block
  both_ways : (x : ℕ) → AtOrAbove (log X) x deep_now → AtOrAbove (log X) deep_now x → x ≡ deep_now
  both_ways x p q =
      let known : Known bs deep_now = (deepest.0, deepest.1.mem, deepest.2) in
      let under = above-in-list X bs of-run S known p in
      above-antisym S under (above-in-list X bs of-run S (known-down S known under) q)

  module _ (s : ℕ) where
    -- an honest block of a slot from s on and before a
    module _ (B : Between N s a (world X X.end)) where
      Q : Built X B.beat B.lasting.block.proposer B.number B.lasting.block.parent
      Q = built_of X B.beat B.lasting.block.proposer B.number B.lasting.block.parent B.lasting.block.proposed

      -- is under the head
      on-head : Above bs B.number head_now
      on-head =
          above-in-list X bs of-run S head-known (under-head X B.beat B.number B.lasting a B.past begun k l i h (omega arith) until)

      B-known : Known bs B.number
      B-known = known-down S head-known on-head

      B-in : In (block_of Q) bs
      B-in = in-view (block_of Q) (inr (by-proposer B.beat B.lasting.block.proposer B.lasting.block.proposed refl)) B-known

      -- and at or above the deep block, unless its slot is too low
      deep-under : a ≤ B.beat / 3 + N.depth → Above bs deepest.0.number B.number
      deep-under near = go deepest.1.early (above-compare S deepest.1.under on-head)
        where
          go : (deepest.0.slot + N.depth ≤ a) ⊎ (deepest.0.number ≡ 0)
              → Above bs deepest.0.number B.number ⊎ Above bs B.number deepest.0.number → Above bs deepest.0.number B.number
          go e (inl o) = o
          go (inr z) (inr o) = rw z (above-start S (block_of Q) B-in)
          go (inl e) (inr o) = above-level S deepest.0 (block_of Q) deepest.1.mem B-in o (omega arith)

      deep-backed : a ≤ B.beat / 3 + N.depth → Backed N s (world X X.end) a deep_now
      deep-backed near = record {
        by = B;
        block = deepest.0;
        of = of-run deepest.0 deepest.1.mem;
        is = deepest.2;
        early = deepest.1.early;
        under = above-in-log X bs of-run (deep-under near);
      }

    -- what is backed is at or below the deep block
    backed-under : (x : ℕ) → Backed N s (world X X.end) a x → AtOrAbove (log X) x deep_now
    backed-under x K = rw (← K.is, ← deepest.2) (above-in-log X bs of-run (go K.early))
      where
        under : Above bs K.block.number head_now
        under = above-trans (on-head K.by) (above-in-list X bs of-run S (B-known K.by) K.under)

        go : (K.block.slot + N.depth ≤ a) ⊎ (K.block.number ≡ 0) → Above bs K.block.number deepest.0.number
        go (inl e) = deepest.1.top K.block (in-view K.block K.of (known-down S head-known under)) under e
        go (inr z) = rw z (above-start S deepest.0 deepest.1.mem)

-- ---- in a run: what holds at every such point holds of a deep block that a node had while it was joined

module _ {N : Network} (opened : Opened N) (w : World) (unforged : Unforged N w.log) (one_block : OneBlock w.log) (enough : EnoughForHonest w.log) where
  at-point : {i a d : ℕ} → DeepWhileJoined N w i a d → (P : World → ℕ → Type 0)
      → ((X : Execution N) (k : ℕ) → k ≤ X.end → is_honest N i ≡ true → a ≤ ((world X k).node i).clock.merged + 1 → ((world X k).node i).clock.merged ≤ a
      → P (world X X.end) (deep_of (settings N i) ((world X k).node i) a))
      → P w d
  at-point {i} {a} {d} H P f =
      subst (P w) H.deep
      (by-passage H.world w H.run H.onward opened unforged one_block enough
      (λ (o p : World). a ≤ (o.node i).clock.merged + 1 → (o.node i).clock.merged ≤ a → P p (deep_of (settings N i) (o.node i) a))
      (λ X k l. f X k l (is_true _ H.honest)) H.since H.until)

  -- a block is proposed at a propose beat
  beat-of : {i a d : ℕ} → DeepWhileJoined N w i a d → (beat B : ℕ) → HonestBlock w beat B → beat ≡ 3 * (beat / 3)
  beat-of H beat B m =
      at-point H (λ (p : World) d. Memᴰ (built beat m.proposer B m.parent) p.log → beat ≡ 3 * (beat / 3))
      (λ X k l h f g n. omega (arith, (built_of X beat m.proposer B m.parent n).beat)) m.proposed

pub asynchrony-agreement : AsynchronyAgreement
unfolding AsynchronyAgreement OneOfEvery
asynchrony-agreement N opened w unforged one_block enough s = (
  λ every a b i j d e far l H G. agree every a b i j d e (omega arith) l H G,
  (
    λ every a i j d e far H G. same every a i j d e (omega arith) H G,
    λ beat B b j e lasting from far G.
        under b j e B G (block-backed N s w b (record { beat = beat; number = B; lasting = lasting; from = from; past = omega (arith, (opened-ranges N opened j G.honest).depth) }) (omega arith)),
  ),
)
  where
    Every : World → Type 0
    Every p = BlockEvery N p (Lasting N p (GoodSince N p)) s

    backed : Every w → (a i d : ℕ) → s + N.depth ≤ a → DeepWhileJoined N w i a d → Backed N s w a d
    backed every a i d far H =
        at-point opened w unforged one_block enough H (λ (p : World) d. Every p → Backed N s p a d)
        (λ X k l h f g v.
        let o = begun X k l i h a f g in
        let z = (ranges (settings N i) (settings-sound X i h)).depth in
        let r = v (a - N.depth) (omega arith) (λ q m n. omega arith) in
        let t = r.3.2 in
        deep-backed X k l i h a f g s
        (record { beat = r.3.0; number = r.3.1; lasting = r.3.3; from = omega (arith, r.1, t); past = omega (arith, r.2, t) }) (omega (arith, r.1, t)))
        every

    under : (b j e x : ℕ) → DeepWhileJoined N w j b e → Backed N s w b x → AtOrAbove w.log x e
    under b j e x G K =
        at-point opened w unforged one_block enough G (λ (p : World) e. Backed N s p b x → AtOrAbove p.log x e)
        (λ X k l h f g. backed-under X k l j h b f g s x) K

    agree : Every w → (a b i j d e : ℕ) → s + N.depth ≤ a → a ≤ b → DeepWhileJoined N w i a d → DeepWhileJoined N w j b e → AtOrAbove w.log d e
    agree every a b i j d e far l H G = under b j e d G (later l (backed every a i d far H))

    same : Every w → (a i j d e : ℕ) → s + N.depth ≤ a → DeepWhileJoined N w i a d → DeepWhileJoined N w j a e → d ≡ e
    same every a i j d e far H G =
        at-point opened w unforged one_block enough G (λ (p : World) e. AtOrAbove p.log d e → AtOrAbove p.log e d → d ≡ e)
        (λ X k l h f g. both_ways X k l j h a f g d)
        (agree every a a i j d e far (le_refl a) H G) (agree every a a j i e d far (le_refl a) G H)

-- ---- what the customer asks for

-- where every slot from s on meets the conditions, every honest block of such a slot lasts
pub joined-agreement : JoinedAgreement
unfolding JoinedAgreement AsynchronyAgreement ConditionsFrom OneOfEvery
joined-agreement N opened w s conditions unforged one_block enough = (
  λ v a b i j d e far l H G. claim.0 (every i a d H v) a b i j d e (omega arith) l H G,
  (
    λ v a i j d e far H G. claim.1.0 (every i a d H v) a i j d e (omega arith) H G,
    λ beat B b j e m from far G. claim.1.1 beat B b j e (lasts j b e G beat B from (over j b e beat G far) m) from (omega arith) G,
  ),
)
  where
    claim : Agreed N w (DeepWhileJoined N w) (Lasting N w (GoodSince N w)) s
    claim = asynchrony-agreement N opened w unforged one_block enough s

    -- the vote beat of a slot K before a is over
    over : (i a d beat : ℕ) → DeepWhileJoined N w i a d → beat / 3 + N.depth ≤ a → 3 * (beat / 3) + 1 < w.beat
    over i a d beat H l =
        let o = at-point opened w unforged one_block enough H (λ (p : World) e. 3 * a ≤ p.beat + 1) (λ X k l h f g. begun X k l i h a f g) in
        omega (arith, (opened-ranges N opened i H.honest).depth, o)

    lasts : (i a d : ℕ) → DeepWhileJoined N w i a d → (beat B : ℕ) → s ≤ beat / 3 → 3 * (beat / 3) + 1 < w.beat → HonestBlock w beat B
        → Lasting N w (GoodSince N w) beat B
    lasts i a d H beat B from o m =
        let c = conditions (beat / 3) from o in
        let e = beat-of opened w unforged one_block enough H beat B m in
        lasting-by N w (λ t. Good N w) (GoodSince N w) beat B (good-since N w (beat / 3))
        (each-lasts N w (opened-ranges N opened i H.honest).expiry beat B m (c.arrive (beat - 1) (omega (arith, e)) (omega arith)) (c.arrive beat (omega (arith, e)) (omega (arith, e)))
        (λ q l o. let c = conditions q (omega arith) o in record { arrive = c.arrive (3 * q + 1) (omega arith) (le_refl (3 * q + 1)); more = c.more }))

    every : (i a d : ℕ) → DeepWhileJoined N w i a d → BlockEvery N w (HonestBlock w) s → BlockEvery N w (Lasting N w (GoodSince N w)) s
    every i a d H v r l o =
        let x = v r l o in
        let t = x.3.2 in
        let z = o x.0 x.1 x.2 in
        (x.0, x.1, x.2, (x.3.0, x.3.1, t, lasts i a d H x.3.0 x.3.1 (omega (arith, x.1, t)) (omega (arith, z, t)) x.3.3))

-- the claim on some deep blocks, from the claim on more of them
pub agreed-by : (N : Network) (w : World) (Had More : ℕ → ℕ → ℕ → Type 0) (Block : ℕ → ℕ → Type 0) (s : ℕ) → ((i a d : ℕ) → Had i a d → More i a d)
    → ((i a d : ℕ) → Had i a d → Agreed N w More Block s) → Agreed N w Had Block s
agreed-by N w Had More Block s f claim = (
  λ v a b i j d e far l H G. (claim i a d H).0 v a b i j d e far l (f i a d H) (f j b e G),
  (
    λ v a i j d e far H G. (claim i a d H).1.0 v a i j d e far (f i a d H) (f j a e G),
    λ beat B b j e m from far G. (claim j b e G).1.1 beat B b j e m from far (f j b e G),
  ),
)

pub flood-agreement : FloodAgreement
unfolding FloodAgreement JoinedAgreement
flood-agreement N opened w s conditions unforged one_block enough =
    agreed-by N w (DeepAfterVote N w) (DeepWhileJoined N w) (HonestBlock w) s (while-joined N w)
    (λ i a d H. joined-agreement N opened w s conditions unforged one_block enough)

pub deep-agreement : DeepAgreement
unfolding DeepAgreement FloodAgreement
deep-agreement N opened w s conditions unforged one_block enough = flood-agreement N opened w s conditions unforged one_block (enough-for-honest enough)
