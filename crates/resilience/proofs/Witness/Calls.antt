-- Tests on computed runs for a call that was carried out. Assumes nothing.
use Prim.Native.Nat.{ℕ}
use mathlib.Core.Path.{◌≡◌, refl, ap, ◌∙◌, subst}
use mathlib.Core.Bool.{Bool, true, false, ◌&&◌, false≢true}
use mathlib.Core.List.{List}
use lib.Dec.{eqb, T}
use borrow.Author.Tests.{eqb-true}
use Rattle.protocol.specs.declared.Settings.{Settings}
use Rattle.protocol.specs.Store.{Places, Node}
use Rattle.protocol.specs.Refusal.{Outcome}
use Rattle.protocol.proofs.Basics.Tests.{and_left, and_right}
use Rattle.resilience.specs.Run.{Network, World, start, opened, Step, Begin, Due, Gossip, Proposal, Receive, settings, step, carried, allowed, Onward, CarriedOut}
use Rattle.resilience.proofs.Witness.Runs.{runs, any_step, Made, step-made}
use Rattle.resilience.proofs.Witness.Acts.{Act, together}
use Rattle.resilience.proofs.Witness.Tests.{opened_test, carried-done}
use Rattle.resilience.proofs.Witness.Premises.{run_test}

module _ {A : Type 0} (N : Network) (call : Settings → Places → Node → ℕ → Outcome A) (i b : ℕ) (p : World → Bool) where
  -- the step is the call of node i at beat b, it is carried out, and the world that it leaves passes
  unfoldable pub called_test : World → Step → Bool
  called_test w Begin = false
  called_test w (Due j number) =
      eqb j i
      && (eqb w.beat b
      && (carried (call (settings N i) (N.places i) (w.node i) w.beat).answer
      && p (step N w (Due j number))))
  called_test w (Gossip j buffer) = false
  called_test w (Proposal j buffer) = false
  called_test w (Receive j bytes) = false

  -- the run that stands in w made this call
  pub record Called (w : World) : Type 0 where
    pub world : World
    pub carried_out : CarriedOut N call i b world
    pub passes : p world ≡ true
    pub onward : Onward N world w

  made-true : {w : World} → Made called_test N w → Called w
  unfolding called_test
  made-true {w} M = go M.by refl M.passes
    where
      go : (s : Step) → M.by ≡ s → called_test M.before s ≡ true → Called w
      go Begin e h = absurd (false≢true h)
      go (Gossip j buffer) e h = absurd (false≢true h)
      go (Proposal j buffer) e h = absurd (false≢true h)
      go (Receive j bytes) e h = absurd (false≢true h)
      go (Due j number) e h =
          let u = M.before in
          let is = eqb-true j i (and_left (eqb j i) _ h) in
          let r1 = and_right (eqb j i) _ h in
          let r2 = and_right (eqb u.beat b) _ r1 in
          let t = carried (call (settings N i) (N.places i) (u.node i) u.beat).answer in
          let c = carried-done _ (and_left t _ r2) in
          let by : M.by ≡ Due i number = e ∙ ap (λ o. Due o number) is in
          record {
            world = step N u M.by;
            carried_out = record {
              before = u;
              run = M.run;
              number = number;
              due = subst (λ (s : Step). T (allowed N u s)) by M.allowed;
              beat = eqb-true _ _ (and_left (eqb u.beat b) _ r1);
              value = c.0;
              answer = c.1;
              left = ap (step N u) by;
            };
            passes = rw e (and_right t _ r2);
            onward = M.onward;
          }

  pub called-true : (acts : List Act) → run_test N acts ≡ true → any_step called_test N (start N) (together acts) ≡ true → Called (runs N (start N) (together acts))
  unfolding run_test
  called-true acts r h = made-true (step-made called_test N (start N) (together acts) opened (and_right (opened_test N) _ r) h)
