-- `admit_vote` meets its contract. Assumes nothing.
use native.Mathlib.Omega.{arith}
use Prim.Native.Nat.{ℕ, ◌≤◌}
use mathlib.Core.Bool.{Bool, false, true}
use mathlib.Core.List.{List}
use mathlib.Core.Path.{◌≡◌, refl, ap, sym, ◌∙◌}
use lib.ListN.{length, take}
use lib.Seq.{take_all}
use Rattle.protocol.specs.Entry.{Block, Vote}
use Rattle.protocol.specs.Calls.Receive.{add_blocks, vote_allowed}
use Rattle.index.proofs.Firsts.{linked-within, first_found}
use Rattle.admission.proofs.FirstBad.{vote-told, vote-found}
use Rattle.admission.proofs.Links.{link-told}
use Rattle.admission.proofs.Seen.{voted-next}
use Rattle.admission.proofs.admit_vote.Goals as goal

-- the answer on a vote among the packet's first `known` blocks, where these are all
among-all : (nodes slot : ℕ) (old bs : List Block) (known : ℕ) → length bs ≤ known → {t : Bool} {a b : Vote}
    → t ≡ vote_allowed nodes slot (add_blocks old (take known bs)) a → a ≡ b → t ≡ vote_allowed nodes slot (add_blocks old bs) b
among-all nodes slot old bs known l {t} {a} e v =
    e ∙ ap (λ (xs : List Block). vote_allowed nodes slot (add_blocks old xs) a) (take_all known bs l) ∙ ap (vote_allowed nodes slot (add_blocks old bs)) v

pub found-block-requires : goal.found-block-requires
found-block-requires c = omega (arith, linked-within _ c.known_block-row.ensures)

pub returns-then-not-vote_allowed-clause-allowed : goal.returns-then-not-vote_allowed-clause-allowed
returns-then-not-vote_allowed-clause-allowed c =
    let t = vote-told _ _ _ _ (link-told _ _ _ c.args.known (omega arith) _ refl c.known_block-row.ensures c.found-block.ensures) c.vote_allowed.ensures in
    sym c.if-not-vote_allowed.true ∙ among-all c.args.nodes c.args.slot _ _ c.args.known (omega arith) t c.at-vote.ensures

pub note_first-requires : goal.note_first-requires
note_first-requires c =
    let found = vote-found _ _ _ _ _ c.found-block.ensures (sym c.if-not-vote_allowed.ensures) in
    omega (arith, first_found _ c.known_block-row.ensures found)

pub returns-clause-allowed : goal.returns-clause-allowed
returns-clause-allowed c =
    let t = vote-told _ _ _ _ (link-told _ _ _ c.args.known (omega arith) _ refl c.known_block-row.ensures c.found-block.ensures) c.vote_allowed.ensures in
    sym c.if-not-vote_allowed.false ∙ among-all c.args.nodes c.args.slot _ _ c.args.known (omega arith) t c.at-vote.ensures

pub returns-clause-seen : goal.returns-clause-seen
returns-clause-seen c =
    let found = vote-found _ _ _ _ _ c.found-block.ensures (sym c.if-not-vote_allowed.ensures) in
    λ z. voted-next _ _ _ c.requires.differ c.args.i _ c.args.known _ _ _ c.requires.within c.at-vote.ensures c.requires.known c.known_block-row.ensures found c.requires.places c.note_first.ensures c.requires.seen
