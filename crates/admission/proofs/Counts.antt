-- One turn of a loop that counts a packet's new entries, once for blocks and votes: k entries stood there, n more were new among the first i.
-- Assumes nothing.
use Prim.Native.Nat.{ℕ, ◌+◌, ◌≤◌, ◌<◌}
use mathlib.Core.Bool.{Bool, true, false, not, ◌&&◌, ◌||◌}
use mathlib.Core.List.{List}
use mathlib.Core.Path.{◌≡◌, refl, ap, sym, ◌∙◌}
use native.Mathlib.Omega.{arith}
use lib.ListN.{length, get_or, take}
use mir.Val.{bool_byte}
use Rattle.protocol.specs.Entry.{Vote}
use Rattle.protocol.specs.Lists.{any_pass}
use Rattle.protocol.specs.Store.{same_vote, since}
use Rattle.protocol.specs.Calls.Receive.{add_votes, add_since}
use Rattle.protocol.proofs.Store.New.{Adding}
use Rattle.protocol.proofs.Store.Since.{knows_since, knows-since}
use Rattle.protocol.proofs.Store.Added.{added-end, length-one}
use Rattle.rows.proofs.Words.{mark-word}
use Rattle.packets.proofs.Turns.{front-entry}

-- a flag counts at most one
pub flag_one : (b : Bool) → bool_byte b ≤ 1
flag_one true = omega arith
flag_one false = omega arith

-- a vote is new if it is neither old nor known
pub since-new : (from : ℕ) (old vs : List Vote) (a : Vote) → (since from a && not (any_pass (same_vote a) (add_votes old vs))) ≡ not (knows_since from (add_since from old vs) a)
since-new from old vs a = neither (since from a) (any_pass (same_vote a) (add_votes old vs)) ∙ ap not (sym (knows-since from old vs a))
  where
    neither : (a b : Bool) → (a && not b) ≡ not (not a || b)
    neither true b = refl
    neither false b = refl

-- `add` adds entries to a store that `has` does not find there
module _ {A : Type 0} (has : List A → A → Bool) (add : List A → List A → List A) (is : Adding has add) where
  module _ (old xs : List A) (k : ℕ) where
    pub count-begin : length old ≡ k → k + 0 ≡ length (add old (take 0 xs))
    count-begin e = omega (arith, e, ap length (is.none old))

    pub count_turn : (d : A) (n i : ℕ) {t : Bool} → i < length xs → k + n ≡ length (add old (take i xs))
        → t ≡ not (has (add old (take i xs)) (get_or xs i d)) → k + (n + bool_byte t) ≡ length (add old (take (i + 1) xs))
    count_turn d n i {t} h e q =
        rw (
          mark-word t,
          front-entry xs d i h refl,
          added-end has add is old (take i xs) (get_or xs i d),
          length-one has (add old (take i xs)) (get_or xs i d),
          ← q,
        ) (omega (arith, e))
