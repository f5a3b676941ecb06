-- One turn of the loop that adds those of a packet's entries that pass with their number to a table. Assumes nothing.
use Prim.Native.Nat.{ℕ, suc, ◌+◌, ◌*◌, ◌≤◌, ◌<◌}
use mathlib.Core.Bool.{Bool, true, false, cond}
use mathlib.Core.List.{List, [], ◌∷◌, ◌++◌, append_assoc, append-nil}
use mathlib.Core.Path.{◌≡◌, refl, ap, sym, ◌∙◌}
use native.Mathlib.Nat.{mul-le-mul_left}
use native.Mathlib.Omega.{arith}
use lib.ListN.{length, get_or, take, drop, length-append, take-append-drop}
use lib.Seq.{length-take-le}
use Rattle.protocol.specs.Store.{Marked, waiting, all_waiting}
use Rattle.protocol.specs.Lent.{Make, rows_of, stored, marks_sound}
use Rattle.protocol.proofs.Lent.Rows.{Codec, rows-stored, marks-stored, stored_same, length-rows_of}
use Rattle.rows.proofs.Stored.{stored-longer}
use Rattle.packets.proofs.Turns.{front-entry}
use Rattle.storing.specs.Grown.{chosen, Holds}

module _ {A : Type 0} (test : ℕ → A → Bool) where
  chosen-append : (k : ℕ) (xs ys : List A) → chosen test k (xs ++ ys) ≡ chosen test k xs ++ chosen test (k + length xs) ys
  unfolding chosen
  chosen-append k [] ys = let e : k + 0 ≡ k = omega arith in rw e
  chosen-append k (x ∷ xs) ys =
      let e : suc k + length xs ≡ k + suc (length xs) = omega arith in
      rw (chosen-append (suc k) xs ys, e) (go (test k x))
    where
      go : (t : Bool) → cond t (x ∷ (chosen test (suc k) xs ++ chosen test (k + suc (length xs)) ys)) (chosen test (suc k) xs ++ chosen test (k + suc (length xs)) ys)
          ≡ cond t (x ∷ chosen test (suc k) xs) (chosen test (suc k) xs) ++ chosen test (k + suc (length xs)) ys
      go true = refl
      go false = refl

  -- entry i is the last
  chosen-end : (xs : List A) (i : ℕ) (d : A) → i < length xs
      → chosen test 0 (take (i + 1) xs) ≡ chosen test 0 (take i xs) ++ cond (test i (get_or xs i d)) (get_or xs i d ∷ []) []
  unfolding chosen
  chosen-end xs i d h =
      let n : length (take i xs) ≡ i = length-take-le i xs (omega arith) in
      ap (chosen test 0) (front-entry xs d i h refl) ∙ chosen-append 0 (take i xs) (get_or xs i d ∷ [])
      ∙ ap (λ (m : ℕ). chosen test 0 (take i xs) ++ cond (test m (get_or xs i d)) (get_or xs i d ∷ []) []) (omega (arith, n))

  -- of a front no more pass
  chosen_front : (xs : List A) (i : ℕ) → length (chosen test 0 (take i xs)) ≤ length (chosen test 0 xs)
  chosen_front xs i =
      let e : length (chosen test 0 (take i xs ++ drop i xs)) ≡ length (chosen test 0 (take i xs)) + length (chosen test (0 + length (take i xs)) (drop i xs))
      = ap length (chosen-append 0 (take i xs) (drop i xs)) ∙ length-append (chosen test 0 (take i xs)) (chosen test (0 + length (take i xs)) (drop i xs)) in
      omega (arith, e, ap (λ (l : List A). length (chosen test 0 l)) (take-append-drop i xs))

length-waiting : {A : Type 0} (xs : List A) → length (all_waiting xs) ≡ length xs
unfolding all_waiting
length-waiting [] = refl
length-waiting (x ∷ xs) = ap suc (length-waiting xs)

waiting-append : {A : Type 0} (xs ys : List A) → all_waiting (xs ++ ys) ≡ all_waiting xs ++ all_waiting ys
unfolding all_waiting
waiting-append [] ys = refl
waiting-append (x ∷ xs) ys = ap (λ (l : List _). waiting x ∷ l) (waiting-append xs ys)

-- i of the entries xs were looked at, from the table in ws₀ on
module _ {A : Type 0} {make : Make (Marked A)} {row : Marked A → List ℕ} (codec : Codec (Marked A) make row) (ws₀ : List ℕ) (u₀ : ℕ) (test : ℕ → A → Bool) (xs : List A) where
  abbrev pub after : ℕ → List (Marked A)
  after i = rows_of make ws₀ u₀ ++ all_waiting (chosen test 0 (take i xs))

  abbrev Table : List (Marked A) → List ℕ → ℕ → Type 0
  Table rs ws u = Holds (Marked A) row rs ws₀ ws u

  length-after : (i : ℕ) → length (after i) ≡ u₀ + length (chosen test 0 (take i xs))
  length-after i = omega (
    arith,
    length-append (rows_of make ws₀ u₀) (all_waiting (chosen test 0 (take i xs))),
    length-rows_of make ws₀ u₀,
    length-waiting (chosen test 0 (take i xs)),
  )

  pub add_begin : make.words * u₀ ≤ length ws₀ → marks_sound make ws₀ u₀ ≡ true → Table (after 0) ws₀ u₀
  unfolding chosen all_waiting
  add_begin h k =
      rw (append-nil (rows_of make ws₀ u₀)) (record { words = sym (stored_same codec ws₀ u₀ k h); used = sym (length-rows_of make ws₀ u₀) })

  module _ (i : ℕ) {ws : List ℕ} {u : ℕ} (p : Table (after i) ws u) where
    pub add-marks : marks_sound make ws u ≡ true
    add-marks = ap (λ (w : List ℕ). marks_sound make w u) p.words ∙ marks-stored codec (after i) ws₀ u (sym p.used)

    -- entry i
    module _ (d : A) (h : i < length xs) where
      -- it does not pass
      pub turn-old : test i (get_or xs i d) ≡ false → Table (after (i + 1)) ws u
      turn-old e = rw (chosen-end test xs i d h, e, append-nil (chosen test 0 (take i xs))) p

      -- it goes to the end
      module _ (e : test i (get_or xs i d) ≡ true) where
        next : after (i + 1) ≡ after i ++ (waiting (get_or xs i d) ∷ [])
        unfolding all_waiting
        next =
            rw (chosen-end test xs i d h, e, waiting-append (chosen test 0 (take i xs)) (get_or xs i d ∷ []))
            (sym (append_assoc (rows_of make ws₀ u₀) (all_waiting (chosen test 0 (take i xs))) (waiting (get_or xs i d) ∷ [])))

        next-used : length (after (i + 1)) ≡ u + 1
        next-used = ap length next ∙ length-append (after i) (waiting (get_or xs i d) ∷ []) ∙ ap (λ (n : ℕ). n + 1) (sym p.used)

        -- where there is room for all
        pub turn-room : make.words * (u₀ + length (chosen test 0 xs)) ≤ length ws₀ → length ws ≡ length ws₀ → make.words * (u + 1) ≤ length ws
        turn-room l m =
            let n : u + 1 ≤ u₀ + length (chosen test 0 xs) = omega (arith, next-used, length-after (i + 1), chosen_front test xs (i + 1)) in
            omega (arith, l, m, mul-le-mul_left make.words n)

        pub turn-new : {a : A} {ws' : List ℕ} {u' : ℕ} → a ≡ get_or xs i d → ws' ≡ stored row (rows_of make ws u ++ (waiting a ∷ [])) ws → u' ≡ u + 1
            → Table (after (i + 1)) ws' u'
        turn-new {a} r q z =
            let rows : rows_of make ws u ≡ after i = ap (λ (w : List ℕ). rows_of make w u) p.words ∙ rows-stored codec (after i) ws₀ u (sym p.used) in
            let n : rows_of make ws u ++ (waiting a ∷ []) ≡ after (i + 1) = rw (rows, r) (sym next) in
            record {
              words = q ∙ ap (λ (o : List (Marked A)). stored row o ws) n ∙ ap (stored row (after (i + 1))) p.words
                  ∙ stored-longer codec (after (i + 1)) (after i) ws₀ (omega (arith, next-used, p.used));
              used = z ∙ sym next-used;
            }
