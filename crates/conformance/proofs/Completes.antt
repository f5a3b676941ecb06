-- Every run of `resilience` over lent memory is a run of the code. Assumes nothing.
use Prim.Native.Nat.{ℕ, zero, suc, ◌/◌, ◌%◌, ◌<◌}
use mathlib.Core.Path.{◌≡◌, refl, sym, ap, subst, ◌∙◌}
use mathlib.Core.Bool.{Bool, true, false}
use native.Mathlib.Nat.{mod-lt}
use native.Mathlib.Omega.{arith}
use lib.Dec.{eqb, T}
use borrow.Author.Tests.{eqb-true, eqb-false}
use Rattle.std.specs.Prelude.{Ok}
use Rattle.protocol.specs.declared.Width.TheVariants.{Wide}
use Rattle.protocol.specs.Lent.{Lent, open_lent}
use Rattle.protocol.proofs.Lent.Open.{open-lent-answer}
use Rattle.answers.specs.Promises.{Opens}
use Rattle.resilience.specs.Run as model
use Rattle.resilience.specs.Run.{Step, Begin, Due, Gossip, Proposal, Receive, World, Run, settings, is_honest, allowed, step}
use Rattle.resilience.specs.Resilience.{Opened}
use Rattle.resilience.proofs.Steps.Allowed.{is_true}
use Rattle.conformance.specs.State.{Deployment, State, network, decoded}
use Rattle.conformance.specs.CodeRun.{CodeStep, begins, proposes, waits, votes, merges, gossips, sends_proposal, receives, CodeRun, opened, then_step}
use Rattle.conformance.specs.Conformance.{Completeness}
use Rattle.conformance.proofs.Promises.{receive-met, propose-met, vote-met, merge-met, write-met}
use Rattle.conformance.proofs.Steps.{follows}
use Rattle.conformance.proofs.Conforms.{conforming, start-world}

-- ---- every step can be made

module _ (D : Deployment) (w : State) where
  abbrev Made : Step → Type 0
  Made s = (v : State) × CodeStep D w s v

  due-made : (i number k : ℕ) → w.beat % 3 ≡ k → k < 3 → Made (Due i number)
  due-made i number zero e l = go (eqb (w.beat / 3 % D.nodes) i) refl
    where
      go : (b : Bool) → eqb (w.beat / 3 % D.nodes) i ≡ b → Made (Due i number)
      go true h =
          let f = propose-met (settings (network D) i) (w.memory i) w.beat number in
          (_, proposes i number f.0 f.1 e (eqb-true (w.beat / 3 % D.nodes) i h) f.2)
      go false h = (_, waits i number e (eqb-false (w.beat / 3 % D.nodes) i h))
  due-made i number (suc zero) e l =
      let f = vote-met (settings (network D) i) (w.memory i) w.beat in
      (_, votes i number f.0 f.1 e f.2)
  due-made i number (suc (suc zero)) e l =
      let f = merge-met (settings (network D) i) (w.memory i) w.beat in
      (_, merges i number f.0 f.1 e f.2)
  due-made i number (suc (suc (suc k))) e l = absurd (omega arith)

  made : (s : Step) → Made s
  made Begin = (_, begins)
  made (Due i number) = due-made i number (w.beat % 3) refl (mod-lt w.beat (omega arith))
  made (Gossip i old) = let f = write-met (settings (network D) i) (w.memory i) false Wide old in (_, gossips i old f.0 f.1 f.2)
  made (Proposal i old) = let f = write-met (settings (network D) i) (w.memory i) true Wide old in (_, sends_proposal i old f.0 f.1 f.2)
  made (Receive i bytes) = let f = receive-met (settings (network D) i) (w.memory i) w.beat bytes in (_, receives i bytes f.0 f.1 f.2)

-- ---- every run

module _ (D : Deployment) (O : Opened (network D)) where
  memory : ℕ → Lent
  memory i = (open_lent (settings (network D) i) (D.lent i)).lent

  opens : (i : ℕ) → T (is_honest (network D) i) → Opens (settings (network D) i) (D.lent i) (memory i) (Ok tt)
  unfolding memory Opened
  opens i h = record {
    memory = refl;
    answer = sym (open-lent-answer (settings (network D) i) (D.lent i) ∙ O i h);
  }

  completed : (v : World) → Run (network D) v → (w : State) × CodeRun D w × (decoded D w ≡ v)
  completed v model.opened = (_, opened memory opens, sym (start-world D memory opens))
  completed v (model.then_step {w = o} R s a) = next (completed o R)
    where
      next : (w : State) × CodeRun D w × (decoded D w ≡ o) → (w : State) × CodeRun D w × (decoded D w ≡ step (network D) o s)
      next C =
          let e = C.2 in
          let b = subst (λ (x : World). T (allowed (network D) x s)) (sym e) a in
          let c = made D C.0 s in
          let F = follows D C.0 (conforming D C.0 C.1).healthy s c.0 (is_true _ b) c.1 in
          (c.0, then_step C.1 s b c.1, sym F.world ∙ ap (λ (x : World). step (network D) x s) e)

pub completes : Completeness
unfolding Completeness
completes D O v R = completed D O v R
