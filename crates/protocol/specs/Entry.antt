-- What tables hold: a block, and a vote. A block's number is one natural number here; `Words` says which one the words of a stored number are.
-- Assumes nothing.
use Rattle.std.specs.Prelude.{ℕ}

pub record Block : Type 0 where
  pub number : ℕ
  pub parent : ℕ
  pub slot : ℕ

-- a voter's vote of a slot for the block with this number
pub record Vote : Type 0 where
  pub voter : ℕ
  pub slot : ℕ
  pub number : ℕ
