-- Entries added to a table, once for blocks and votes: `has` says whether an entry is there already. Assumes nothing.
use Prim.Native.Nat.{ℕ, suc, ◌+◌, ◌<◌}
use mathlib.Core.Bool.{Bool, true, false, not, cond}
use mathlib.Core.List.{List, [], ◌∷◌, ◌++◌}
use mathlib.Core.Path.{◌≡◌, refl, ap, sym, ◌∙◌}
use native.Mathlib.Omega.{arith}
use lib.ListN.{length, get_or, take, drop}
use lib.Seq.{drop_at}
use Rattle.protocol.specs.Store.{Marked, all_waiting, entries}
use Rattle.protocol.proofs.Store.New.{new_of, Adding, adds-new}
use Rattle.protocol.proofs.Store.Views.{length-entries, entries-append, entries-waiting}
use Rattle.storing.specs.Grown.{grown, chosen}

module _ {A : Type 0} (has : List A → A → Bool) (add : List A → List A → List A) (is : Adding has add) where
  -- to a table, as the contracts say it
  pub grown-new : (ms : List (Marked A)) (xs : List A) → grown add ms xs ≡ ms ++ all_waiting (new_of has (entries ms) xs)
  unfolding grown
  grown-new ms xs =
      ap (λ (l : List A). ms ++ all_waiting l)
      (ap (drop (length ms)) (adds-new has add is (entries ms) xs) ∙ drop_at (entries ms) (new_of has (entries ms) xs) (length ms) (length-entries ms))

  pub entries-grown : (ms : List (Marked A)) (xs : List A) → entries (grown add ms xs) ≡ add (entries ms) xs
  entries-grown ms xs =
      ap entries (grown-new ms xs) ∙ entries-append ms (all_waiting (new_of has (entries ms) xs))
      ∙ ap (λ (l : List A). entries ms ++ l) (entries-waiting (new_of has (entries ms) xs)) ∙ sym (adds-new has add is (entries ms) xs)

  pub length-grown : (ms : List (Marked A)) (xs : List A) → length (grown add ms xs) ≡ length (add (entries ms) xs)
  length-grown ms xs = sym (length-entries (grown add ms xs)) ∙ ap length (entries-grown ms xs)

  -- those that pass with their number are the new ones, where each passes if it is not there yet
  pub chosen-new : (test : ℕ → A → Bool) (k : ℕ) (old xs : List A) (d : A)
      → ((i : ℕ) → i < length xs → test (k + i) (get_or xs i d) ≡ not (has (add old (take i xs)) (get_or xs i d))) → chosen test k xs ≡ new_of has old xs
  unfolding chosen new_of
  chosen-new test k old [] d f = refl
  chosen-new test k old (x ∷ xs) d f = go (has old x) refl (λ t e. chosen-new test (suc k) (cond t old (old ++ (x ∷ []))) xs d (later t e))
    where
      first : (t : Bool) → has old x ≡ t → test k x ≡ not t
      first t e =
          let z : k + 0 ≡ k = omega arith in
          ap (λ (n : ℕ). test n x) (sym z) ∙ f 0 (omega arith) ∙ ap (λ (l : List A). not (has l x)) (is.none old) ∙ ap not e

      later : (t : Bool) → has old x ≡ t → (i : ℕ) → i < length xs
          → test (suc k + i) (get_or xs i d) ≡ not (has (add (cond t old (old ++ (x ∷ []))) (take i xs)) (get_or xs i d))
      later t e i h =
          let s : suc k + i ≡ k + suc i = omega arith in
          ap (λ (n : ℕ). test n (get_or xs i d)) s ∙ f (suc i) (omega arith)
          ∙ ap (λ (l : List A). not (has l (get_or xs i d))) (is.one old x (take i xs) ∙ ap (λ (b : Bool). add (cond b old (old ++ (x ∷ []))) (take i xs)) e)

      go : (t : Bool) → has old x ≡ t → ((t : Bool) → has old x ≡ t → chosen test (suc k) xs ≡ new_of has (cond t old (old ++ (x ∷ []))) xs)
          → cond (test k x) (x ∷ chosen test (suc k) xs) (chosen test (suc k) xs) ≡ cond t (new_of has old xs) (x ∷ new_of has (old ++ (x ∷ [])) xs)
      go true e rec = rw (first true e) (rec true e)
      go false e rec = rw (first false e) (ap (λ (l : List A). x ∷ l) (rec false e))
