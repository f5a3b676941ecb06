-- Tables with zeros in a part of their words. Assumes nothing.
use Prim.Native.Nat.{ℕ, zero, suc, ◌+◌, ◌-◌, ◌≤◌}
use mathlib.Core.List.{List, ◌∷◌, ◌++◌}
use mathlib.Core.Path.{◌≡◌, ap}
use native.Mathlib.Omega.{arith}
use lib.ListN.{length, take, drop, replicate, length-drop}
use lib.Seq.{drop-drop, length-take-le}
use Rattle.protocol.specs.Chain.{genesis}
use Rattle.protocol.specs.Words.{lower_of, upper_of}
use Rattle.protocol.specs.Store.{in_view, fresh}
use Rattle.protocol.specs.Lent.{block_words, words_of, block_row}
use Rattle.rows.specs.Rows.{put_row}

-- the words from a up to the one at b
pub part-zeros : (a b : ℕ) (ws : List ℕ) → a ≤ b → b ≤ length ws
    → take a ws ++ (replicate (length (take (b - a) (drop a ws))) 0 ++ drop (b - a) (drop a ws)) ≡ take a ws ++ (replicate (b - a) 0 ++ drop b ws)
part-zeros a b ws h l =
    let e : a + (b - a) ≡ b = omega arith in
    let n : length (take (b - a) (drop a ws)) ≡ b - a = length-take-le (b - a) (drop a ws) (omega (arith, length-drop a ws)) in
    rw (n, drop-drop (b - a) a ws, e)

drop-zeros : (k n : ℕ) → drop {A = ℕ} k (replicate n 0) ≡ replicate (n - k) 0
drop-zeros zero n = let e : n - 0 ≡ n = omega arith in rw e
drop-zeros (suc k) zero = let e : 0 - suc k ≡ 0 = omega arith in rw e
drop-zeros (suc k) (suc n) = let e : suc n - suc k ≡ n - k = omega arith in rw e (drop-zeros k n)

-- block 0 put into zeros
pub put_first : (n : ℕ) → put_row block_words (replicate n 0) 0 (block_row (in_view genesis)) ≡ words_of block_row fresh.blocks ++ replicate (n - block_words) 0
unfolding put_row words_of lower_of upper_of
put_first n = ap (λ (l : List ℕ). 0 ∷ 0 ∷ 0 ∷ 0 ∷ 0 ∷ 1 ∷ l) (drop-zeros 6 n)
