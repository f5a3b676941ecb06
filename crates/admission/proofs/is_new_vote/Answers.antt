-- `is_new_vote` meets its contract. Assumes nothing.
use native.Mathlib.Omega.{arith}
use Prim.Native.Nat.{ℕ}
use mathlib.Core.Bool.{Bool, true, false, ◌&&◌, and-true, and-false}
use mathlib.Core.Path.{◌≡◌, ap, sym, ◌∙◌}
use lib.Dec.{eqb, eqb-suc-zero, leb}
use Rattle.std.specs.Prelude.{Option}
use Rattle.search_tree.specs.Tree.{link_of}
use Rattle.protocol.specs.Entry.{Vote}
use Rattle.protocol.specs.Store.{since}
use Rattle.index.proofs.Firsts.{first-most}
use Rattle.admission.proofs.Links.{vote-new}
use Rattle.admission.proofs.Seen.{votes-next}
use Rattle.admission.proofs.is_new_vote.Goals as goal

slot-told : (from : ℕ) {a b : Vote} {t : Bool} → a ≡ b → t ≡ true → leb from a.slot ≡ (since from b && t)
unfolding since
slot-told from {a} {b} e q = ap (λ (v : Vote). leb from v.slot) e ∙ sym (ap (λ (t : Bool). leb from b.slot && t) q ∙ and-true (leb from b.slot))

known-told : (s : Bool) {t : Bool} → t ≡ false → false ≡ (s && t)
known-told s f = sym (ap (λ (t : Bool). s && t) f ∙ and-false s)

pub note_first-requires : goal.note_first-requires
note_first-requires c = omega (arith, first-most _ c.join_vote-row.ensures.0)

pub returns-in-None-clause-new : goal.returns-in-None-clause-new
returns-in-None-clause-new c =
    slot-told c.args.from c.at-vote.ensures
    (sym (vote-new _ _ _ c.args.i (omega arith) _ c.join_vote-row.ensures.0) ∙ ap (λ (r : Option ℕ). eqb (link_of r) 0) c.in-None.is)

pub returns-in-None-clause-seen : goal.returns-in-None-clause-seen
returns-in-None-clause-seen c =
    votes-next _ _ _ c.requires.differ c.args.i _ _ _ c.requires.within c.join_vote-row.ensures.0 c.requires.places c.note_first.ensures c.requires.seen

pub returns-in-Some-clause-new : goal.returns-in-Some-clause-new
returns-in-Some-clause-new c =
    known-told _ (sym (vote-new _ _ _ c.args.i (omega arith) _ c.join_vote-row.ensures.0) ∙ ap (λ (r : Option ℕ). eqb (link_of r) 0) c.in-Some.is ∙ eqb-suc-zero _)

pub returns-in-Some-clause-seen : goal.returns-in-Some-clause-seen
returns-in-Some-clause-seen c =
    votes-next _ _ _ c.requires.differ c.args.i _ _ _ c.requires.within c.join_vote-row.ensures.0 c.requires.places c.note_first.ensures c.requires.seen
