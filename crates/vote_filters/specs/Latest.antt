-- What the filters leave of a table of votes: the equivocators as one word, and each voter's latest vote in an array. Assumes nothing.
use Rattle.std.specs.Prelude.{ℕ, ◌<◌, Bool, cond, Option, Some, None, List, ◌≡◌, get_or}
use Rattle.protocol.specs.Limits.{loom}
use Rattle.protocol.specs.Entry.{Vote}
use Rattle.protocol.specs.declared.Vote as code
use Rattle.protocol.specs.Words.{vote_of}
use Rattle.protocol.specs.Filters.{equivocates, window, LatestVote, latest_is, no_latest, latest, choice_of, kept_choice}
use Rattle.protocol.specs.Store.{Marked, entries, view_of}
use Rattle.protocol.specs.Lent.{rows_of, make_vote}
use Rattle.rows.specs.Rows.{row_at}
use Rattle.masks.specs.Masks.{mask_of}

-- the whole store, or the view
unfoldable pub selected : {A : Type 0} → Bool → List (Marked A) → List A
selected whole ms = cond whole (entries ms) (view_of ms)

-- the votes of the first n rows
abbrev pub votes_of : Bool → List ℕ → ℕ → List Vote
votes_of whole ws n = selected whole (rows_of make_vote ws n)

-- every voter has a bit in a word
abbrev pub VotersFit : List ℕ → ℕ → Type 0
VotersFit ws n = (i : ℕ) → i < n → (row_at make_vote ws i).entry.voter < loom.nodes

-- the voters whom filter 1 drops for slot t
unfoldable pub equivocators_of : List Vote → ℕ → ℕ → ℕ
equivocators_of vs E t = mask_of 64 (λ v. equivocates (window E t) vs v)

-- the vote that is held, if there is one
abbrev pub held_vote : Option code.Vote → LatestVote
held_vote None = no_latest
held_vote (Some a) = latest_is (vote_of a)

-- the vote that the array holds for voter v
unfoldable pub last_at : List (Option code.Vote) → ℕ → LatestVote
last_at kept v = held_vote (get_or kept v None)

-- the array holds the latest vote of each voter
pub record Latest (vs : List Vote) (E t : ℕ) (kept : List (Option code.Vote)) : Type 0 where
  pub each : (v : ℕ) → v < loom.nodes → last_at kept v ≡ latest vs E t v

-- and the kept one, which an equivocator has not
pub record Kept (vs : List Vote) (E t : ℕ) (kept : List (Option code.Vote)) : Type 0 where
  pub each : (v : ℕ) → v < loom.nodes → choice_of (last_at kept v) ≡ kept_choice vs E t v
