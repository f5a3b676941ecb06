-- The fast block's answer, and the last row with three quarters of the voters. Assumes nothing.
use Rattle.std.specs.Prelude.{ℕ, zero, suc, ◌*◌, ◌&&◌, cond, Option, Some, None, List, leb}
use Rattle.protocol.specs.declared.Number.{Number}
use Rattle.protocol.specs.Words.{value}
use Rattle.protocol.specs.Filters.{Choice, chosen, nothing}
use Rattle.protocol.specs.Lent.{make_block}
use Rattle.rows.specs.Rows.{row_at}
use Rattle.subtree_voters.specs.BlockRows.{block_at}
use Rattle.fork_choice.specs.Weights.{weight_at_row}

-- the answer of code: a block's number, or none
abbrev pub choice_in : Option Number → Choice
choice_in (Some x) = chosen (value x)
choice_in None = nothing

-- the last of the first k rows that is in view and has three quarters of n voters
unfoldable pub top_choice : List ℕ → List ℕ → ℕ → ℕ → Choice
top_choice ws masks n zero = nothing
top_choice ws masks n (suc k) =
    cond ((row_at make_block ws k).viewed && leb (3 * n) (4 * weight_at_row masks k)) (chosen (block_at ws k).number) (top_choice ws masks n k)
