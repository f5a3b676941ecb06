-- Tests on computed runs for the premises of asynchrony resilience, each of which may be replaced by another. Assumes nothing.
use Prim.Native.Nat.{ℕ, ◌+◌, ◌*◌, ◌-◌, ◌/◌}
use mathlib.Core.Path.{◌≡◌}
use mathlib.Core.Bool.{Bool, true, ◌&&◌}
use mathlib.Core.List.{List}
use lib.Dec.{ltb}
use borrow.Author.Tests.{ltb-true}
use Rattle.protocol.specs.Walk.{count_below}
use Rattle.protocol.proofs.Basics.Tests.{and_left, and_right}
use Rattle.resilience.specs.Run.{Network, World, Run, start}
use Rattle.resilience.specs.Resilience.{Opened, Unforged, OneBlock, Enough, DeliveredAt}
use Rattle.resilience.specs.DeepAgreement.{OneOfEvery, HonestBlock}
use Rattle.resilience.specs.Asynchrony.{Good, opposed_since, GoodSince}
use Rattle.resilience.proofs.Witness.Runs.{runs}
use Rattle.resilience.proofs.Witness.Acts.{Act, together}
use Rattle.resilience.proofs.Witness.Tests.{delivered_at_test, delivered-at-true, count_opposed, count_voters}
use Rattle.resilience.proofs.Witness.Premises.{proposed_test, proposed-true, fair_test, fair-true, needed_test}
use Rattle.resilience.proofs.Witness.OneOfEvery.{one_of_test, one-of-true}

-- ---- a premise with its test

-- what is said of a world in which a block was proposed at this beat
abbrev pub Condition : Type 1
Condition = Network → World → ℕ → Type 0

pub record Tested (P : Condition) : Type 0 where
  pub test : Network → World → ℕ → Bool
  pub sound : (N : Network) (w : World) (beat : ℕ) → test N w beat ≡ true → P N w beat

-- nothing is asked
abbrev pub Unasked : Condition
Unasked N w beat = Unit {0}

abbrev pub unasked : Tested Unasked
unasked = record { test = λ N w beat. true; sound = λ N w beat h. tt }

-- packets of the merge beat before arrive
abbrev pub Merged : Condition
Merged N w beat = DeliveredAt (beat - 1) w.log

abbrev pub merged : Tested Merged
merged = record { test = λ N w beat. delivered_at_test (beat - 1) w.log; sound = λ N w beat h. delivered-at-true (beat - 1) w.log h }

-- and those of the propose beat
abbrev pub Proposed : Condition
Proposed N w beat = DeliveredAt beat w.log

abbrev pub proposed : Tested Proposed
proposed = record { test = λ N w beat. delivered_at_test beat w.log; sound = λ N w beat h. delivered-at-true beat w.log h }

-- ---- good slots

-- packets of beat b arrive, and the count passes
pub slot-true : (b : ℕ) (w : World) (more : Bool) → (delivered_at_test b w.log && more) ≡ true → DeliveredAt b w.log × (more ≡ true)
slot-true b w more h = (delivered-at-true b w.log (and_left (delivered_at_test b w.log) _ h), and_right (delivered_at_test b w.log) _ h)

unfoldable pub good_test : Network → World → ℕ → Bool
unfolding delivered_at_test
good_test N w g = delivered_at_test (3 * g + 1) w.log && ltb (count_opposed N w g) (count_voters N w g)

pub good-true : (N : Network) (w : World) (g : ℕ) → good_test N w g ≡ true → Good N w g
unfolding good_test
good-true N w g h = let r = slot-true (3 * g + 1) w _ h in record { arrive = r.0; more = ltb-true _ _ r.1 }

unfoldable pub good_since_test : Network → World → ℕ → ℕ → Bool
unfolding delivered_at_test
good_since_test N w t g = delivered_at_test (3 * g + 1) w.log && ltb (count_below (opposed_since N w.log t g) N.nodes) (count_voters N w g)

pub good-since-true : (N : Network) (w : World) (t g : ℕ) → good_since_test N w t g ≡ true → GoodSince N w t g
unfolding good_since_test
good-since-true N w t g h = let r = slot-true (3 * g + 1) w _ h in record { arrive = r.0; more = ltb-true _ _ r.1 }

-- the slot of the block is good
abbrev pub First : Condition
First N w beat = Good N w (beat / 3)

abbrev pub first : Tested First
first = record { test = λ N w beat. good_test N w (beat / 3); sound = λ N w beat h. good-true N w (beat / 3) h }

-- of any k consecutive slots from it on one is such a slot
abbrev pub Every : (Network → World → ℕ → ℕ → Type 0) → (Network → ℕ) → Condition
Every Slot k N w beat = OneOfEvery (k N) (Slot N w (beat / 3)) (beat / 3) w

abbrev pub every : (Slot : Network → World → ℕ → ℕ → Type 0) (p : Network → World → ℕ → ℕ → Bool)
    → ((N : Network) (w : World) (t g : ℕ) → p N w t g ≡ true → Slot N w t g) → (k : Network → ℕ) → Tested (Every Slot k)
every Slot p f k = record {
  test = λ N w beat. ltb 0 (k N) && one_of_test (p N w (beat / 3)) (k N) (beat / 3) w;
  sound = λ N w beat h.
      one-of-true (p N w (beat / 3)) (Slot N w (beat / 3)) (f N w (beat / 3)) (k N) (beat / 3) w (ltb-true 0 (k N) (and_left (ltb 0 (k N)) _ h))
      (and_right (ltb 0 (k N)) _ h);
}

abbrev pub IsGood : Network → World → ℕ → ℕ → Type 0
IsGood N w t = Good N w

abbrev pub every-good : (k : Network → ℕ) → Tested (Every IsGood k)
every-good k = every IsGood (λ N w t. good_test N w) (λ N w t. good-true N w) k

abbrev pub every-good-since : Tested (Every GoodSince (λ N. N.expiry))
every-good-since = every GoodSince good_since_test good-since-true (λ N. N.expiry)

-- ---- a run that meets four such premises, and the rest

pub record Checked (A B C D : Condition) (N : Network) (w : World) (beat number : ℕ) : Type 0 where
  pub opened : Opened N
  pub run : Run N w
  pub block : HonestBlock w beat number
  pub a : A N w beat
  pub b : B N w beat
  pub c : C N w beat
  pub d : D N w beat
  pub unforged : Unforged N w.log
  pub one_block : OneBlock w.log
  pub enough : Enough w.log

module _ {A B C D : Condition} (a : Tested A) (b : Tested B) (c : Tested C) (d : Tested D) where
  unfoldable pub check_test : Network → List Act → ℕ → ℕ → ℕ → ℕ → Bool
  unfolding proposed_test fair_test needed_test one_of_test good_test good_since_test
  check_test N acts beat p number parent =
      let w = runs N (start N) (together acts) in
      proposed_test N acts beat p number parent
      && (a.test N w beat
      && (b.test N w beat
      && (c.test N w beat
      && (d.test N w beat && fair_test N w))))

  pub checked : (N : Network) (acts : List Act) (beat p number parent : ℕ) → check_test N acts beat p number parent ≡ true
      → Checked A B C D N (runs N (start N) (together acts)) beat number
  unfolding check_test
  checked N acts beat p number parent h =
      let w : World = runs N (start N) (together acts) in
      let P = proposed-true N acts beat p number parent (and_left (proposed_test N acts beat p number parent) _ h) in
      let ha = and_right (proposed_test N acts beat p number parent) _ h in
      let hb = and_right (a.test N w beat) _ ha in
      let hc = and_right (b.test N w beat) _ hb in
      let hd = and_right (c.test N w beat) _ hc in
      let f = fair-true N w (and_right (d.test N w beat) _ hd) in
      record {
        opened = P.started.opened;
        run = P.started.run;
        block = record { proposer = p; parent = parent; proposed = P.proposed };
        a = a.sound N w beat (and_left (a.test N w beat) _ ha);
        b = b.sound N w beat (and_left (b.test N w beat) _ hb);
        c = c.sound N w beat (and_left (c.test N w beat) _ hc);
        d = d.sound N w beat (and_left (d.test N w beat) _ hd);
        unforged = f.0;
        one_block = f.1.0;
        enough = f.1.1;
      }
