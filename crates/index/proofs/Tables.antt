-- What an index says of the blocks and votes of a table. Assumes nothing.
use Prim.Native.Nat.{ℕ, ◌+◌, ◌≤◌}
use mathlib.Core.Bool.{Bool, true, not, cond}
use mathlib.Core.List.{List, []}
use mathlib.Core.Path.{◌≡◌, refl, ap, sym, ◌∙◌}
use native.Mathlib.Omega.{arith}
use borrow.Author.Tests.{eq-eqb, ne_eqb, eqb-true}
use lib.Dec.{eqb, leb}
use lib.ListN.{take, drop, take-append-drop}
use Rattle.protocol.specs.Entry.{Block, Vote}
use Rattle.protocol.specs.Words.{from_halves}
use Rattle.protocol.specs.Lists.{any_pass}
use Rattle.protocol.specs.Chain.{genesis}
use Rattle.protocol.specs.Store.{Marked, same_vote, in_view}
use Rattle.protocol.specs.Lent.{Make, rows_of, make_block, make_vote}
use Rattle.protocol.proofs.Words.{join-halves}
use Rattle.protocol.proofs.Basics.Tests.{not-passes, same_test}
use Rattle.protocol.proofs.Lent.Rows.{length-rows_of}
use Rattle.protocol.proofs.Store.Views.{vote-same, same-vote}
use Rattle.packets.specs.Header.{no_vote}
use Rattle.rows.specs.Rows.{row_at}
use Rattle.rows.proofs.Rows.{get_d-rows_of, rows-front, rows_more}
use Rattle.search_tree.specs.Lists.{link_to, distinct}
use Rattle.search_tree.specs.Tree.{Points}
use Rattle.search_tree.proofs.Lists.{link-front, any-linked, distinct-front}
use Rattle.index.specs.declared.Key.{Key}
use Rattle.index.specs.Keys.{number_key, vote_key, same_key}
use Rattle.index.specs.Index.{row_number, row_vote, keys_differ}
use Rattle.index.specs.Links.{link_to_number, numbers_differ, votes_differ}
use Rattle.index.proofs.Keys.{key-same, same_key_lem}
use Rattle.index.proofs.Links.{Table, Tells, linked, rows-differ}

table : {A : Type 0} (make : Make A) (d : A) (ws : List ℕ) → Table d (rows_of make ws) (row_at make ws)
table make d ws = record { size = length-rows_of make ws; read = λ n j l. get_d-rows_of make ws n j d l; more = rows_more make ws }

none : {A : Type 0} (make : Make A) (ws : List ℕ) → rows_of make ws 0 ≡ []
unfolding rows_of
none make ws = refl

-- ---- blocks

number-told : {x y : ℕ} → number_key x ≡ number_key y → x ≡ y
number-told {x} {y} e = sym (join-halves x) ∙ ap (λ (k : Key). from_halves k.a k.d) e ∙ join-halves y

pub number-tells : {A : Type 0} (of : A → ℕ) (x : ℕ) → Tells (λ a. number_key (of a)) (number_key x) (λ a. eqb (of a) x)
number-tells of x = record { yes = λ a e. eq-eqb (of a) x (number-told e); no = λ a f. ne_eqb (of a) x (λ e. f (ap number_key e)) }

-- keys are the same if and only if numbers are
pub number-keys : (x y : ℕ) → eqb x y ≡ same_key (number_key x) (number_key y)
number-keys x y = same_test _ _ (λ e. same_key_lem _ _ (ap number_key (eqb-true x y e))) (λ e. eq-eqb x y (number-told (key-same _ _ e)))

abbrev same_number : Marked Block → Marked Block → Bool
same_number a b = eqb a.entry.number b.entry.number

module _ (ws : List ℕ) where
  pub number-linked : (n x : ℕ) {k : Key} {link : ℕ} → k ≡ number_key x → Points (row_number ws) n k link → link ≡ link_to_number (rows_of make_block ws n) x
  unfolding link_to_number
  number-linked n x e s =
      let T = table make_block (in_view genesis) ws in
      linked (in_view genesis) (number-tells (λ m. m.entry.number) x) (rw e at s) (rows_of make_block ws n) (T.size n) (λ j l. ap (λ m. number_key m.entry.number) (T.read n j l))

  pub numbers-differ : (n : ℕ) → keys_differ (row_number ws) n ≡ numbers_differ (rows_of make_block ws n)
  unfolding numbers_differ
  numbers-differ n = rows-differ (λ m. number_key m.entry.number) same_number (λ a b. number-keys a.entry.number b.entry.number) (table make_block (in_view genesis) ws) (none make_block ws) n

-- the row among the first i, from the row among all: a number stands before row i if its row is at most i
pub link-before : (ws : List ℕ) (n i x : ℕ) → i ≤ n
    → link_to_number (rows_of make_block ws i) x ≡ cond (leb (link_to_number (rows_of make_block ws n) x) i) (link_to_number (rows_of make_block ws n) x) 0
unfolding link_to_number
link-before ws n i x h =
    let z : 0 + i ≡ i = omega arith in
    rw (← rows-front make_block ws n i h) (rw z at (link-front (λ m. eqb m.entry.number x) (rows_of make_block ws n) 0 i))

pub differ-before : (ws : List ℕ) (n i : ℕ) → i ≤ n → numbers_differ (rows_of make_block ws n) ≡ true → numbers_differ (rows_of make_block ws i) ≡ true
unfolding numbers_differ
differ-before ws n i h e =
    rw (← rows-front make_block ws n i h)
    (distinct-front same_number (take i (rows_of make_block ws n)) (drop i (rows_of make_block ws n)) (ap (distinct same_number) (take-append-drop i (rows_of make_block ws n)) ∙ e))

-- ---- votes

vote-told : {v w : Vote} → vote_key v ≡ vote_key w → v ≡ w
vote-told {v} {w} e =
    let n = sym (join-halves v.number) ∙ ap (λ (k : Key). from_halves k.a k.d) e ∙ join-halves w.number in
    λ i. record { voter = (e i).c; slot = (e i).b; number = n i }

pub vote-tells : {A : Type 0} (of : A → Vote) (v : Vote) → Tells (λ a. vote_key (of a)) (vote_key v) (λ a. same_vote (of a) v)
vote-tells of v =
    record { yes = λ a e. same-vote (of a) v (vote-told e); no = λ a f. not-passes (λ e. f (ap vote_key (vote-same (of a) v e))) }

pub vote-keys : (v w : Vote) → same_vote v w ≡ same_key (vote_key v) (vote_key w)
vote-keys v w = same_test _ _ (λ e. same_key_lem _ _ (ap vote_key (vote-same v w e))) (λ e. same-vote v w (vote-told (key-same _ _ e)))

abbrev same_entry : Marked Vote → Marked Vote → Bool
same_entry a b = same_vote a.entry b.entry

module _ (ws : List ℕ) where
  pub votes-differ : (n : ℕ) → keys_differ (row_vote ws) n ≡ votes_differ (rows_of make_vote ws n)
  unfolding votes_differ
  votes-differ n = rows-differ (λ m. vote_key m.entry) same_entry (λ a b. vote-keys a.entry b.entry) (table make_vote (in_view no_vote) ws) (none make_vote ws) n

-- either vote may be compared with the other
same-turned : (a b : Vote) → same_vote a b ≡ same_vote b a
same-turned a b = same_test (same_vote a b) (same_vote b a) (λ e. same-vote b a (sym (vote-same a b e))) (λ e. same-vote a b (sym (vote-same b a e)))

-- a vote is there if it has a row, where `of` takes a row's vote
pub has-link : {A : Type 0} (of : A → Vote) (xs : List A) (a : Vote) → any_pass (λ x. same_vote a (of x)) xs ≡ not (eqb (link_to (λ x. same_vote (of x) a) xs) 0)
has-link of xs a = ap (λ p. any_pass p xs) (λ i x. same-turned a (of x) i) ∙ any-linked (λ x. same_vote (of x) a) xs 0
