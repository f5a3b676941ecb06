-- A set of small numbers in words: number i is bit i % 64 of word i / 64. Assumes nothing.
use Rattle.std.specs.Prelude.{ℕ, ◌/◌, ◌%◌, Bool, List, get_or, set}
use Rattle.protocol.specs.Words.{bit_of}
use Rattle.masks.specs.Masks.{mask_of, added}

unfoldable pub in_set : List ℕ → ℕ → Bool
in_set ws i = bit_of (get_or ws (i / 64) 0) (i % 64)

-- one number more
unfoldable pub inserted : List ℕ → ℕ → List ℕ
inserted ws i = set ws (i / 64) (mask_of 64 (added (bit_of (get_or ws (i / 64) 0)) (i % 64)))
