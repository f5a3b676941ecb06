-- Block numbers as two words, which number they are and which words a number has; which entry a struct of code is; a set of voters as a word. What a number's
-- words are is shut: no proof depends on it but those on words. Assumes nothing.
use Rattle.std.specs.Prelude.{ℕ, ◌+◌, ◌*◌, ◌/◌, ◌%◌, ◌^◌, Bool, not, eqb}
use Rattle.protocol.specs.declared.Number.{Number}
use Rattle.protocol.specs.declared.Block as code
use Rattle.protocol.specs.declared.Vote as code_vote
use Rattle.protocol.specs.Entry.{Block, Vote}

-- the number of a lower and an upper half, and the halves of a number
unfoldable pub from_halves : ℕ → ℕ → ℕ
from_halves lower upper = lower + 2 ^ 64 * upper

unfoldable pub lower_of : ℕ → ℕ
lower_of n = n % 2 ^ 64

unfoldable pub upper_of : ℕ → ℕ
upper_of n = n / 2 ^ 64

-- the upper half is not zero
unfoldable pub is_wide : ℕ → Bool
is_wide n = not (eqb (upper_of n) 0)

abbrev pub value : Number → ℕ
value n = from_halves n.lower n.upper

-- a number as it is stored
abbrev pub number_as : ℕ → Number
number_as n = record { lower = lower_of n; upper = upper_of n }

abbrev pub block_of : code.Block → Block
block_of b = record { number = value b.number; parent = value b.parent; slot = b.slot }

abbrev pub vote_of : code_vote.Vote → Vote
vote_of a = record { voter = a.voter; slot = a.slot; number = value a.number }

-- a set of voters is one word: voter v is in it if bit v is set
abbrev pub bit_of : ℕ → ℕ → Bool
bit_of m v = eqb (m / 2 ^ v % 2) 1
