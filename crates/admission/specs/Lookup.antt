-- What code answers when it looks a block up, the rules of an entry by such answers, and what a test of a section answers. Assumes nothing.
use Rattle.std.specs.Prelude.{ℕ, Bool, Option, Some, None, Result, Ok, Err, ◌&&◌, leb, ltb}
use Rattle.protocol.specs.declared.Block as code
use Rattle.protocol.specs.Words.{block_of}
use Rattle.protocol.specs.Entry.{Block, Vote}
use Rattle.protocol.specs.Chain.{Lookup, found, missing, found_with}
use Rattle.protocol.specs.Sound.{in_range}
use Rattle.protocol.specs.Calls.Receive.{known_as}

abbrev pub lookup_of : Option code.Block → Lookup
lookup_of (Some b) = found (block_of b)
lookup_of None = missing

-- `block_allowed`, by what was found by the parent's number and by the block's own
unfoldable pub block_passes : ℕ → Block → Lookup → Lookup → Bool
block_passes slot b parent old = in_range 1 slot b.slot && (found_with (λ p. ltb p.slot b.slot) parent && known_as b old)

-- `vote_allowed`, by what was found by the vote's number
unfoldable pub vote_passes : ℕ → ℕ → Vote → Lookup → Bool
vote_passes n slot a block = ltb a.voter n && (in_range 1 slot a.slot && found_with (λ b. leb b.slot a.slot) block)

-- the index of the first of n entries that is not allowed, or n
abbrev pub bad_of : {A : Type 0} → ℕ → Result A ℕ → ℕ
bad_of n (Ok x) = n
bad_of n (Err i) = i
