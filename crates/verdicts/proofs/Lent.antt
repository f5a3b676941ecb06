-- The verdict decides the call on lent memory: refused, all is as it was; passed, the call is carried out. Assumes nothing.
use Prim.Native.Nat.{ℕ}
use mathlib.Core.Path.{◌≡◌, refl, ◌∙◌}
use mathlib.Core.Bool.{Bool, true, false, cond}
use mathlib.Core.List.{List}
use lib.ListN.{length}
use Rattle.protocol.specs.declared.Settings.{Settings}
use Rattle.protocol.specs.Store.{Places, Node}
use Rattle.protocol.specs.Refusal.{Refusal, by, Test, Verdict, pass, refuse, first, refused, done, Outcome, unless, answer_unless}
use Rattle.protocol.specs.Calls.Open.{open_tests}
use Rattle.protocol.specs.Calls.Write.{over, write_unless}
use Rattle.protocol.specs.Lent.{Lent, places_of, node_of, lent_sound, store_node, cleared, open_verdict, open_lent, leave, on_lent, call_lent, ask_lent, write_lent}
use Rattle.verdicts.specs.Lent.{lent_verdict}

-- ---- Open

module _ (s : Settings) (m : Lent) where
  pub open-refused : (k : Refusal) → first (open_tests s (places_of m)) ≡ refuse k → open_lent s m ≡ record { answer = refused k; lent = m }
  unfolding open_lent open_verdict
  open-refused k e = rw e

  pub open_done : first (open_tests s (places_of m)) ≡ pass → open_lent s m ≡ record { answer = done tt; lent = cleared m }
  unfolding open_lent open_verdict
  open_done e = rw e

-- ---- the other calls, by their tests

module _ (s : Settings) (tests : Places → Node → List Test) (m : Lent) where
  -- Receive, Propose, Vote and Merge: answer a and node y
  module _ {A : Type 0} (a : Places → Node → A) (y : Places → Node → Node) where
    abbrev call : Places → Node → Outcome A
    call p x = unless (first (tests p x)) x (a p x) (y p x)

    call-verdict : call_lent s call m ≡ leave (answer_unless (lent_verdict s tests m) (a (places_of m) (node_of m))) (y (places_of m) (node_of m)) m
    unfolding call_lent lent_verdict on_lent
    call-verdict = go (lent_sound s m)
      where
        on-node : (v : Verdict) → let o = unless v (node_of m) (a (places_of m) (node_of m)) (y (places_of m) (node_of m)) in
            leave o.answer o.node m ≡ leave (answer_unless v (a (places_of m) (node_of m))) (y (places_of m) (node_of m)) m
        on-node pass = unfold unless answer_unless in refl
        on-node (refuse k) = unfold unless answer_unless leave in refl

        go : (b : Bool) → on_lent b call m
            ≡ leave (answer_unless (cond b (first (tests (places_of m) (node_of m))) (refuse (by 6))) (a (places_of m) (node_of m))) (y (places_of m) (node_of m)) m
        go true = unfold on_lent in (on-node (first (tests (places_of m) (node_of m))))
        go false = unfold on_lent answer_unless leave in refl

    pub call-refused : (k : Refusal) → lent_verdict s tests m ≡ refuse k → call_lent s call m ≡ record { answer = refused k; lent = m }
    unfolding answer_unless leave
    call-refused k e = call-verdict ∙ rw e

    pub call-done : lent_verdict s tests m ≡ pass
        → call_lent s call m ≡ record { answer = done (a (places_of m) (node_of m)); lent = store_node (y (places_of m) (node_of m)) m }
    unfolding answer_unless leave
    call-done e = call-verdict ∙ rw e

  -- Head, Deep and Fast: answer a
  module _ {A : Type 0} (a : Places → Node → A) where
    ask-verdict : ask_lent s (λ p x. answer_unless (first (tests p x)) (a p x)) m ≡ answer_unless (lent_verdict s tests m) (a (places_of m) (node_of m))
    unfolding ask_lent lent_verdict
    ask-verdict = go (lent_sound s m)
      where
        go : (b : Bool) → cond b (answer_unless (first (tests (places_of m) (node_of m))) (a (places_of m) (node_of m))) (refused (by 6))
            ≡ answer_unless (cond b (first (tests (places_of m) (node_of m))) (refuse (by 6))) (a (places_of m) (node_of m))
        go true = refl
        go false = unfold answer_unless in refl

    pub ask-refused : (k : Refusal) → lent_verdict s tests m ≡ refuse k → ask_lent s (λ p x. answer_unless (first (tests p x)) (a p x)) m ≡ refused k
    unfolding answer_unless
    ask-refused k e = ask-verdict ∙ rw e

    pub ask-done : lent_verdict s tests m ≡ pass → ask_lent s (λ p x. answer_unless (first (tests p x)) (a p x)) m ≡ done (a (places_of m) (node_of m))
    unfolding answer_unless
    ask-done e = ask-verdict ∙ rw e

  -- Write: these bytes
  module _ (bytes : Places → Node → List ℕ) (buffer : List ℕ) where
    written-verdict : write_lent s (λ p x. write_unless (first (tests p x)) (bytes p x) buffer) m buffer
        ≡ write_unless (lent_verdict s tests m) (bytes (places_of m) (node_of m)) buffer
    unfolding write_lent lent_verdict
    written-verdict = go (lent_sound s m)
      where
        go : (b : Bool) → cond b (write_unless (first (tests (places_of m) (node_of m))) (bytes (places_of m) (node_of m)) buffer) (record { answer = refused (by 6); buffer = buffer })
            ≡ write_unless (cond b (first (tests (places_of m) (node_of m))) (refuse (by 6))) (bytes (places_of m) (node_of m)) buffer
        go true = refl
        go false = unfold write_unless in refl

    pub written-refused : (k : Refusal) → lent_verdict s tests m ≡ refuse k
        → write_lent s (λ p x. write_unless (first (tests p x)) (bytes p x) buffer) m buffer ≡ record { answer = refused k; buffer = buffer }
    unfolding write_unless
    written-refused k e = written-verdict ∙ rw e

    pub written-done : lent_verdict s tests m ≡ pass → write_lent s (λ p x. write_unless (first (tests p x)) (bytes p x) buffer) m buffer
        ≡ record { answer = done (length (bytes (places_of m) (node_of m))); buffer = over (bytes (places_of m) (node_of m)) buffer }
    unfolding write_unless
    written-done e = written-verdict ∙ rw e
