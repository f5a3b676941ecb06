-- The walk that finds the settled block: it goes down as the head's walk does, by the weights without the silent voters, and stops where their number could
-- turn it aside. That it finds what specs/Settled says is proved, so this is not to be believed. Assumes nothing.
use Rattle.std.specs.Prelude.{ℕ, zero, suc, ◌+◌, Bool, true, false, not, ◌&&◌, ◌||◌, List, ltb, eqb}
use Rattle.protocol.specs.Entry.{Block, Vote}
use Rattle.protocol.specs.Lists.{any_pass}
use Rattle.protocol.specs.Chain.{Lookup, found, missing}
use Rattle.protocol.specs.Filters.{nothing, kept_choice}
use Rattle.protocol.specs.Walk.{count_below, weight, is_child, best_child}
use Rattle.protocol.specs.Settled.{filled}

-- ---- by any weights w, with a margin of k voters

-- with k voters more another block d goes before c
unfoldable pub overtakes : (ℕ → ℕ) → ℕ → Block → Block → Bool
overtakes w k d c =
    not (eqb d.number c.number)
    && (ltb (w c.number) (w d.number + k) || (eqb (w c.number) (w d.number + k) && ltb d.number c.number))

-- some child of a does, of a slot below t: no silent voter counts for a block of slot t
unfoldable pub rivalled : (ℕ → ℕ) → ℕ → List Block → ℕ → ℕ → Block → Bool
rivalled w k bs t a c = any_pass (λ d. is_child t a d && overtakes w k d c) bs

unfoldable pub margin_go : Bool → (ℕ → ℕ) → ℕ → ℕ → ℕ
margin_go true rec a x = a
margin_go false rec a x = rec x

unfoldable pub margin_step : (ℕ → ℕ) → (Block → Bool) → ℕ → Lookup → ℕ
margin_step rec p a missing = a
margin_step rec p a (found c) = margin_go (p c) rec a c.number

-- from a, by at most j steps: to the best child, until that has a rival or none is left
unfoldable pub margin_in : (ℕ → ℕ) → ℕ → List Block → ℕ → ℕ → ℕ → ℕ
margin_in w k bs t zero a = a
margin_in w k bs t (suc j) a = margin_step (λ y. margin_in w k bs t j y) (rivalled w k bs t a) a (best_child w (suc t) a bs)

unfoldable pub margin_walk : (ℕ → ℕ) → ℕ → List Block → ℕ → ℕ
margin_walk w k bs t = margin_in w k bs t (suc t) 0

-- ---- for slot t, of n voters with expiry period E

-- the weights where the silent count for nothing
unfoldable pub heard_at : List Block → List Vote → ℕ → ℕ → ℕ → (ℕ → Bool) → ℕ → ℕ
heard_at bs vs n E t silent b = weight bs (filled silent (λ v. nothing) (λ v. kept_choice vs E t v)) n b

-- the margin is the number of the silent
unfoldable pub settled_walk : List Block → List Vote → ℕ → ℕ → ℕ → (ℕ → Bool) → ℕ
settled_walk bs vs n E t silent = margin_walk (heard_at bs vs n E t silent) (count_below silent n) bs t
