-- A test of each number below n by `all`, whose closure answers t at each. Assumes nothing.
use Rattle.std.proofs.Common.{ℕ, ◌+◌, ◌<◌, Bool, true, false, ◌&&◌, List, ◌≡◌, refl, sym, ap, ◌∙◌, arith, Option, Some, None}
use Rattle.std.specs.Fn.{Called, Mut}
use Rattle.std.specs.Option.{IfSome, IsSomeAnd, option_map}
use Rattle.std.specs.Iterator.Runs.{SomeRun, AllItemsGive, AnyItemGives, CallKeepsClosure}
use Rattle.std.specs.Bool.{MatchBool}
use Rattle.std.proofs.iter.Yields.{nat_range_steps}
use Rattle.std.proofs.iter.runs.Sources.{range_runs}
use Rattle.protocol.specs.Lists.{all_pass}
use Rattle.protocol.specs.Lent.{Make, rows_of, marks_sound}
use Rattle.ranges.specs.Rows.{row_passes}
use Rattle.ranges.proofs.Rows.{rows-pass, rows-fail}

-- the item at a place is j
if_item : (P : ℕ → Type 0) (j : ℕ) (o : Option ℕ) → option_map (λ y. y) o ≡ Some j → IfSome o P → P j
if_item P j None q h = absurd (cc)
if_item P j (Some x) q h = let e : x ≡ j = cc in rw (← e) h

and_item : (P : ℕ → Type 0) (j : ℕ) (o : Option ℕ) → option_map (λ y. y) o ≡ Some j → IsSomeAnd o P → P j
and_item P j None q h = absurd h
and_item P j (Some x) q h = let e : x ≡ j = cc in rw (← e) h

-- what `all` says of its run, in which `keeps` and `tells` are of the closure
module _ {F : Type 0} (g : Mut F (ℕ × Unit {0}) Bool) (f : F) (n : ℕ) (t : ℕ → Bool) {s : _} (result : Bool)
    (R : SomeRun nat_range_steps s (λ p. MatchBool result ((p.whole ≡ true) × AllItemsGive p g f true) (AnyItemGives p g f false)))
    (keeps : CallKeepsClosure g f) (tells : (i : ℕ) (r : Bool) → Called g f (i, tt) r f → r ≡ t i) (a : s.start ≡ 0) (z : s.end ≡ n) where
  item : (i : ℕ) → i < R.0.len → option_map (λ y. y) (R.0.at i) ≡ Some i
  item i h =
      let e : R.0.from.start + i ≡ i = omega (arith, ap (λ r. r.start) R.1, a) in
      (range_runs R.0 R.0.seen).3 i h ∙ ap Some e

  pub all-true : result ≡ true → (i : ℕ) → i < n → t i ≡ true
  all-true b i h =
      let M = rw b at R.2 in
      let l = (range_runs R.0 R.0.seen).1 M.0 in
      sym (tells i true (if_item (λ x. Called g f (x, tt) true f) i (R.0.at i) (item i (omega (arith, l, ap (λ r. r.start) R.1, ap (λ r. r.end) R.1, a, z))) (M.1 keeps i)))

  pub all-false : result ≡ false → (i : ℕ) × (i < n) × (t i ≡ false)
  all-false b =
      let M = (rw b at R.2) keeps in
      let l = (range_runs R.0 R.0.seen).0 in
      (M.0, omega (arith, l, M.1, ap (λ r. r.start) R.1, ap (λ r. r.end) R.1, a, z), sym (tells M.0 false (and_item (λ x. Called g f (x, tt) false f) M.0 (R.0.at M.0) (item M.0 M.1) M.2)))

-- of the rows of a table
pub all-rows : {A : Type 0} (make : Make A) (p : A → Bool) (ws : List ℕ) (n : ℕ) {F : Type 0} {g : Mut F (ℕ × Unit {0}) Bool} {f : F} {s : _} (result : Bool)
    → SomeRun nat_range_steps s (λ r. MatchBool result ((r.whole ≡ true) × AllItemsGive r g f true) (AnyItemGives r g f false)) → CallKeepsClosure g f
    → ((i : ℕ) (r : Bool) → Called g f (i, tt) r f → r ≡ row_passes make p ws i) → s.start ≡ 0 → s.end ≡ n → result ≡ (marks_sound make ws n && all_pass p (rows_of make ws n))
all-rows make p ws n {g = g} {f = f} result R keeps tells a z = go result refl
  where
    go : (b : Bool) → result ≡ b → b ≡ (marks_sound make ws n && all_pass p (rows_of make ws n))
    go true e = sym (rows-pass make p ws n (all-true g f n (row_passes make p ws) result R keeps tells a z e))
    go false e =
        let k = all-false g f n (row_passes make p ws) result R keeps tells a z e in
        sym (rows-fail make p ws n k.0 k.1 k.2)
