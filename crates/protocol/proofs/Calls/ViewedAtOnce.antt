-- When a packet brings its entries into view. Assumes nothing.
use Prim.Native.Nat.{ℕ, ◌+◌, ◌*◌, ◌≤◌}
use mathlib.Core.Path.{◌≡◌, ap}
use mathlib.Core.Logic.{⊎_elim}
use mathlib.Core.Bool.{true, false, not}
use native.Mathlib.Omega.{arith}
use lib.Dec.{eqb}
use borrow.Author.Tests.{eqb-true, eqb-false, eq-eqb, not-true}
use Rattle.protocol.specs.Store.{Node}
use Rattle.protocol.specs.Packet.{Packet, is_proposal}
use Rattle.protocol.specs.Calls.Receive.{viewed_at_once}
use Rattle.protocol.proofs.Basics.Tests.{facts, both, and_left, and_right, not-passes, clashing, split}

pub record Brings (x : Node) (beat : ℕ) (p : Packet) : Type 0 where
  pub kind : is_proposal p.kind ≡ true
  pub slot : p.slot * 3 ≡ beat
  pub new : x.clock.proposed ≡ p.slot → ⊥

pub viewed-at-once-true : (x : Node) (beat : ℕ) (p : Packet) → viewed_at_once x beat p ≡ true → Brings x beat p
unfolding viewed_at_once
viewed-at-once-true x beat p e =
    let r = and_right (is_proposal p.kind) _ e in
    let n : not (eqb x.clock.proposed p.slot) ≡ true = search facts in
    record { kind = and_left (is_proposal p.kind) _ e; slot = search facts; new = eqb-false x.clock.proposed p.slot (not-true (eqb x.clock.proposed p.slot) n) }

-- a proposal of the beat's slot that does not come into view at once comes after another
pub viewed-before : (x : Node) (beat : ℕ) (p : Packet) → viewed_at_once x beat p ≡ false → is_proposal p.kind ≡ true → p.slot * 3 ≡ beat → x.clock.proposed ≡ p.slot
unfolding viewed_at_once
viewed-before x beat p e k s =
    ⊎_elim (eqb-true x.clock.proposed p.slot) (λ h. absurd (clashing (both k (both (eq-eqb (p.slot * 3) beat s) (ap not h))) e)) (split (eqb x.clock.proposed p.slot))

-- none comes into view at once after one of slot t at a beat of slot t
pub viewed-at-once-once : (x : Node) (beat : ℕ) (p : Packet) (t : ℕ) → x.clock.proposed ≡ t → 3 * t ≤ beat → beat ≤ 3 * t + 1 → viewed_at_once x beat p ≡ false
viewed-at-once-once x beat p t e a b = not-passes (λ h. let r = viewed-at-once-true x beat p h in r.new (omega (arith, r.slot)))
