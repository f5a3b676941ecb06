-- A packet's blocks added to a store: what is looked up in the result is looked up in the store, and then in the packet. Assumes nothing.
use Prim.Native.Nat.{ℕ}
use mathlib.Core.Bool.{Bool, true, false, cond}
use mathlib.Core.List.{List, [], ◌∷◌, ◌++◌}
use mathlib.Core.Path.{◌≡◌, refl, ap, sym, ◌∙◌}
use lib.Dec.{eqb}
use borrow.Author.Tests.{eqb-true}
use Rattle.protocol.specs.Entry.{Block}
use Rattle.protocol.specs.Chain.{Lookup, found, missing, find, found_with}
use Rattle.protocol.specs.Calls.Receive.{add_block, add_blocks}

-- the first of two lookups that found something
unfoldable pub or_else : Lookup → Lookup → Lookup
or_else (found c) g = found c
or_else missing g = g

or_else-assoc : (f g h : Lookup) → or_else (or_else f g) h ≡ or_else f (or_else g h)
unfolding or_else
or_else-assoc (found c) g h = refl
or_else-assoc missing g h = refl

find-append : (bs cs : List Block) (x : ℕ) → find (bs ++ cs) x ≡ or_else (find bs x) (find cs x)
unfolding find or_else
find-append [] cs x = refl
find-append (b ∷ bs) cs x = go (eqb b.number x) (find-append bs cs x)
  where
    go : (t : Bool) → find (bs ++ cs) x ≡ or_else (find bs x) (find cs x)
        → cond t (found b) (find (bs ++ cs) x) ≡ or_else (cond t (found b) (find bs x)) (find cs x)
    go true e = refl
    go false e = e

find-one : (bs : List Block) (b : Block) (x : ℕ) → find (add_block bs b) x ≡ or_else (find bs x) (find (b ∷ []) x)
unfolding add_block found_with find or_else
find-one bs b x = go (find bs b.number) refl
  where
    old : (t : Bool) → eqb b.number x ≡ t → (c : Block) → find bs b.number ≡ found c → find bs x ≡ or_else (find bs x) (cond t (found b) missing)
    old true q c e = rw (sym (ap (find bs) (eqb-true b.number x q)) ∙ e) refl
    old false q c e = sym (no (find bs x))
      where
        no : (f : Lookup) → or_else f missing ≡ f
        no (found d) = refl
        no missing = refl

    go : (f : Lookup) → find bs b.number ≡ f → find (cond (found_with (λ c. true) (find bs b.number)) bs (bs ++ (b ∷ []))) x ≡ or_else (find bs x) (find (b ∷ []) x)
    go (found c) e = rw e (old (eqb b.number x) refl c e)
    go missing e = rw e (find-append bs (b ∷ []) x)

pub find-added : (bs cs : List Block) (x : ℕ) → find (add_blocks bs cs) x ≡ or_else (find bs x) (find cs x)
unfolding add_blocks find or_else
find-added bs [] x = none (find bs x)
  where
    none : (f : Lookup) → f ≡ or_else f missing
    none (found c) = refl
    none missing = refl
find-added bs (c ∷ cs) x =
    find-added (add_block bs c) cs x ∙ ap (λ (f : Lookup). or_else f (find cs x)) (find-one bs c x)
    ∙ or_else-assoc (find bs x) (find (c ∷ []) x) (find cs x) ∙ ap (or_else (find bs x)) (sym (find-append (c ∷ []) cs x))

-- a later block with a number that is known is not found, whether it is added or not
pub added-joined : (bs cs : List Block) (x : ℕ) → find (add_blocks bs cs) x ≡ find (bs ++ cs) x
added-joined bs cs x = find-added bs cs x ∙ sym (find-append bs cs x)

-- one more block of the packet
pub add_blocks-end : (bs cs : List Block) (c : Block) → add_blocks bs (cs ++ (c ∷ [])) ≡ add_block (add_blocks bs cs) c
unfolding add_blocks
add_blocks-end bs [] c = refl
add_blocks-end bs (d ∷ cs) c = add_blocks-end (add_block bs d) cs c
