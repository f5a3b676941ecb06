-- Where a reader stands after it was moved. Assumes nothing.
use Rattle.std.specs.Prelude.{ℕ, ◌+◌, cond, List, length, ltb}

-- the position n bytes on, or the end
unfoldable pub position_after : List ℕ → ℕ → ℕ → ℕ
position_after bs at n = cond (ltb (length bs) (at + n)) (length bs) (at + n)
