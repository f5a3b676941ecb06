-- Tables after the changes of a call. Assumes nothing.
use Prim.Native.Nat.{ℕ, suc, ◌+◌, ◌-◌, ◌≤◌}
use mathlib.Core.Bool.{Bool, true}
use mathlib.Core.List.{List, [], ◌∷◌, ◌++◌}
use mathlib.Core.Path.{◌≡◌, refl, ap, sym, ◌∙◌}
use native.Mathlib.Omega.{arith}
use lib.ListN.{length, drop, length-append, length-drop}
use Rattle.protocol.specs.Store.{Marked, all_waiting, view, view_all, Node}
use Rattle.protocol.specs.Lent.{Lent, Make, rows_of, stored, block_row, vote_row, marks_sound, emptied, store_node}
use Rattle.protocol.proofs.Store.Views.{length-viewing}
use Rattle.protocol.proofs.Lent.Rows.{Codec, stored-emptied, rows-stored, marks-stored, length-rows_of}
use Rattle.rows.proofs.Stored.{stored-longer}
use Rattle.verdicts.specs.Lent.{lent}

-- ---- a node stored, place by place

pub store_is : (x : Node) (m : Lent) {bw vw : List ℕ} {bu vu : ℕ} → bw ≡ stored block_row x.blocks m.blocks
    → vw ≡ stored vote_row x.votes (emptied m.votes_used m.votes) → bu ≡ length x.blocks → vu ≡ length x.votes → lent bw vw bu vu x.clock ≡ store_node x m
unfolding store_node
store_is x m b v bu vu = λ i. record { blocks = b i; votes = v i; blocks_used = bu i; votes_used = vu i; clock = x.clock }

-- where no vote left, no place became free
pub store-grown : (x : Node) (m : Lent) {bw vw : List ℕ} {bu vu : ℕ} → bw ≡ stored block_row x.blocks m.blocks → vw ≡ stored vote_row x.votes m.votes
    → bu ≡ length x.blocks → vu ≡ length x.votes → m.votes_used ≤ length x.votes → lent bw vw bu vu x.clock ≡ store_node x m
store-grown x m b v bu vu h = store_is x m b (v ∙ sym (stored-emptied x.votes m.votes_used m.votes h)) bu vu

-- ---- one row more

pub length_more : {A : Type 0} (make : Make A) (ws : List ℕ) (n : ℕ) (a : A) → n + 1 ≡ length (rows_of make ws n ++ (a ∷ []))
length_more make ws n a = omega (arith, length-append (rows_of make ws n) (a ∷ []), length-rows_of make ws n)

-- ---- new entries at the end

length-waiting : {A : Type 0} (xs : List A) → length (all_waiting xs) ≡ length xs
unfolding all_waiting
length-waiting [] = refl
length-waiting (a ∷ xs) = ap suc (length-waiting xs)

pub length-received : {A : Type 0} (q : A → Bool) (ms : List (Marked A)) (xs : List A)
    → length (view q (ms ++ all_waiting (drop (length ms) xs))) ≡ length ms + (length xs - length ms)
length-received q ms xs =
    let new = drop (length ms) xs in
    omega (arith, length-viewing q (ms ++ all_waiting new), length-append ms (all_waiting new), length-waiting new, length-drop (length ms) xs)

-- ---- all rows come into view

module _ {A : Type 0} {make : Make (Marked A)} {row : Marked A → List ℕ} (codec : Codec (Marked A) make row) (ws : List ℕ) (n : ℕ) where
  pub length-viewed : n ≡ length (view_all (rows_of make ws n))
  unfolding view_all
  length-viewed = sym (length-viewing _ (rows_of make ws n) ∙ length-rows_of make ws n)

  module _ {viewed : List ℕ} (e : viewed ≡ stored row (view_all (rows_of make ws n)) ws) where
    pub viewed-marks : marks_sound make viewed n ≡ true
    viewed-marks = rw e (marks-stored codec (view_all (rows_of make ws n)) ws n (sym length-viewed))

    -- and one row more
    pub append-viewed : (a : Marked A) {more : List ℕ} → more ≡ stored row (rows_of make viewed n ++ (a ∷ [])) viewed
        → more ≡ stored row (view_all (rows_of make ws n) ++ (a ∷ [])) ws
    append-viewed a f =
        let S = view_all (rows_of make ws n) in
        f ∙ rw (e, rows-stored codec S ws n (sym length-viewed)) (stored-longer codec (S ++ (a ∷ [])) S ws (omega (arith, length-append S (a ∷ []))))

  pub length-append-viewed : (a : Marked A) → n + 1 ≡ length (view_all (rows_of make ws n) ++ (a ∷ []))
  length-append-viewed a = omega (arith, length-append (view_all (rows_of make ws n)) (a ∷ []), length-viewed)
