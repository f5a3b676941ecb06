-- The input of a question about packets, and the two parts of it that the code lends. Assumes nothing.
use Prim.Native.Nat.{ℕ, ◌+◌, ◌*◌, ◌-◌, ◌≤◌}
use mathlib.Core.Path.{◌≡◌, refl, ◌∙◌}
use mathlib.Core.Bool.{Bool, cond}
use mathlib.Core.List.{List}
use native.Mathlib.Omega.{arith}
use native.Mathlib.Nat.{le_of_eq}
use lib.ListN.{length, take, drop, length-drop}
use lib.Seq.{take_all}
use borrow.Author.Tests.{le-ltb}
use Rattle.protocol.specs.declared.Settings.{Settings}
use Rattle.protocol.specs.Refusal as rules
use Rattle.protocol.specs.Packet.{number_at}
use Rattle.asking.specs.Ask.{settings_in}
use Rattle.asking.specs.AskPackets.{PacketFindings, open_and_fit, open_and_compare, ask_two}

-- the code lends the bytes from one on to the last
rest-is : (n : ℕ) (bs : List ℕ) → take (length bs - n) (drop n bs) ≡ drop n bs
rest-is n bs = take_all (length bs - n) (drop n bs) (le_of_eq (length-drop n bs))

-- it lends the first packet's bytes, and those from its end on to the last
abbrev pub first_lent : ℕ → List ℕ → List ℕ
first_lent n bs = take (13 + n - 13) (drop 13 bs)

abbrev pub second_lent : ℕ → List ℕ → List ℕ
second_lent n bs = take (length bs - (13 + n)) (drop (13 + n) bs)

module _ (bs : List ℕ) {s : Settings} {t : ℕ} {r : rules.Answer PacketFindings} (S : s ≡ settings_in bs) (T : t ≡ number_at bs 5 4) where
  module _ {n : ℕ} (a : 13 ≤ length bs) (b : length bs ≤ 65536) (e : n ≡ number_at bs 9 4) (l : n ≤ length bs - 13) where
    pub two-within : (both : Bool) → r ≡ cond both (open_and_compare s t (first_lent n bs) (second_lent n bs)) (open_and_fit s t (first_lent n bs) (second_lent n bs))
        → r ≡ ask_two both bs
    unfolding ask_two
    two-within both h =
        let z : 13 + n - 13 ≡ n = omega arith in
        h ∙ rw (le-ltb _ _ a, le-ltb _ _ b, ← e, le-ltb _ _ l, rest-is (13 + n) bs, z, S, T) refl
