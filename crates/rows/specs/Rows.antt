-- Rows by their number in lent words, and the structs of code as marked entries. Assumes nothing.
use Rattle.std.specs.Prelude.{ℕ, ◌+◌, ◌*◌, Bool, List, ◌++◌, take, drop}
use Rattle.protocol.specs.Entry.{Block, Vote}
use Rattle.protocol.specs.Words.{block_of, vote_of}
use Rattle.protocol.specs.Store.{Marked}
use Rattle.protocol.specs.Lent.{Make}
use Rattle.protocol.specs.declared.Block as code
use Rattle.protocol.specs.declared.Vote as code_vote
use Rattle.rows.specs.declared.Row.{Row}

-- row i, by its words
abbrev pub row_at : {A : Type 0} → Make A → List ℕ → ℕ → A
row_at make ws i = make.of (drop (make.words * i) ws)

-- whether row i is as its entry is written
abbrev pub clean_at : {A : Type 0} → Make A → List ℕ → ℕ → Bool
clean_at make ws i = make.clean (drop (make.words * i) ws)

-- a row of code, of which `of` tells what its entry is
abbrev pub marked : {E A : Type 0} → (E → A) → Row E → Marked A
marked of r = record { entry = of r.entry; viewed = r.viewed }

abbrev pub marked_block : Row code.Block → Marked Block
marked_block = marked block_of

abbrev pub marked_vote : Row code_vote.Vote → Marked Vote
marked_vote = marked vote_of

-- the words with row i replaced, in rows of w words
unfoldable pub put_row : ℕ → List ℕ → ℕ → List ℕ → List ℕ
put_row w ws i new = take (w * i) ws ++ (new ++ drop (w * i + w) ws)
