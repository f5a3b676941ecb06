-- Deep blocks agree, said of what the code answers: a Vote of the code is a vote of `resilience`, and Deep answers its deep block. Assumes nothing.
use Prim.Native.Nat.{ℕ, ◌%◌}
use mathlib.Core.Path.{◌≡◌, sym, ap, ◌∙◌, subst}
use mathlib.Core.Bool.{true}
use native.Mathlib.Omega.{arith}
use Rattle.std.specs.Prelude.{Result, Ok, Err}
use Rattle.protocol.specs.declared.Number.{Number}
use Rattle.protocol.specs.Words.{value}
use Rattle.protocol.specs.Refusal.{done}
use Rattle.protocol.specs.Calls.Vote.{vote}
use Rattle.protocol.specs.Calls.Query.{deep_of, deep_query}
use Rattle.protocol.specs.Lent.{ask_lent}
use Rattle.protocol.proofs.Lent.Calls.{vote-lawful}
use Rattle.verdicts.specs.declared.Refusal.{Refusal}
use Rattle.answers.specs.Answers.{answered}
use Rattle.resilience.specs.Run.{settings, is_honest, Due}
use Rattle.resilience.specs.Resilience.{Opened}
use Rattle.resilience.specs.DeepAgreement.{HonestBlock, Agreed, JustVoted, DeepAfterVote, DeepAnswered, DeepWhileJoined}
use Rattle.resilience.specs.Flooding.{FloodAgreement}
use Rattle.resilience.specs.Asynchrony.{Lasting, GoodSince, AsynchronyAgreement}
use Rattle.resilience.proofs.Steps.Allowed.{is_true, due-honest}
use Rattle.resilience.proofs.Runs.Premises.{enough-for-honest}
use Rattle.resilience.proofs.DeepAgreement.{asynchrony-agreement, agreed-by, flood-agreement}
use Rattle.resilience.proofs.JustVoted.{deep-answered, while-joined}
use Rattle.conformance.specs.State.{Deployment, State, network, decoded}
use Rattle.conformance.specs.CodeRun.{votes}
use Rattle.conformance.specs.CodeDeepAgreement.{CodeJustVoted, CodeDeepAfterVote, CodeDeepAgreement, CodeDeepAnswered}
use Rattle.conformance.specs.CodeFlooding.{CodeFloodAgreement}
use Rattle.conformance.specs.CodeAsynchrony.{CodeAsynchronyAgreement}
use Rattle.conformance.proofs.Memory.{called}
use Rattle.conformance.proofs.Steps.{Follows, follows}
use Rattle.conformance.proofs.Conforms.{Conforming, conforming, going}
use Rattle.conformance.proofs.Questions.{holds, asked}

-- ---- a Vote of the code

module _ (D : Deployment) (i a : ℕ) (u : State) (A : CodeJustVoted D i a u) where
  C : Conforming D A.before
  C = conforming D A.before A.run

  honest : is_honest (network D) i ≡ true
  honest = (due-honest (network D) (decoded D A.before) i A.number (is_true _ A.due)).0

  phase : A.before.beat % 3 ≡ 1
  phase = omega (arith, A.beat)

  F : Follows D A.before (Due i A.number) u
  F =
      subst (λ (o : State). Follows D A.before (Due i A.number) o) (sym A.left)
      (follows D A.before C.healthy (Due i A.number) _ (is_true _ A.due) (votes i A.number A.memory (Ok A.block) phase A.vote))

  replied : (vote (settings (network D) i) ((network D).places i) ((decoded D A.before).node i) A.before.beat).answer ≡ done (value A.block)
  replied =
      let s = settings (network D) i in
      sym (called s ((network D).places i) ((decoded D A.before).node i) (A.before.memory i) (C.healthy i honest)
      (holds D A.before C.healthy i honest) value (λ p x. vote s p x A.before.beat) (vote-lawful s A.before.beat) A.memory (Ok A.block) A.vote).answer

  just-voted : JustVoted (network D) i a (decoded D u)
  just-voted = record {
    before = decoded D A.before;
    run = C.run;
    number = A.number;
    due = A.due;
    beat = A.beat;
    value = value A.block;
    answer = replied;
    left = sym F.world;
  }

  -- what Deep promises there
  deep-asked : ask_lent (settings (network D) i) (λ p x. deep_query (settings (network D) i) p x a) (u.memory i)
      ≡ deep_query (settings (network D) i) ((network D).places i) ((decoded D u).node i) a
  deep-asked = asked D u F.healthy i honest (λ p x. deep_query (settings (network D) i) p x a)

-- ---- the claims

answers-block : (r : Result Number Refusal) (d : ℕ) → answered value r ≡ done d → (e : Number) × (r ≡ Ok e)
answers-block (Ok b) d e = (b, λ i. Ok b)
answers-block (Err k) d e = let z : ◌≡◌ {A = ℕ} 0 1 = cc in absurd (omega arith)

pub code-deep-answered : CodeDeepAnswered
unfolding CodeDeepAnswered DeepAnswered
code-deep-answered D i a u A r P =
    answers-block r (deep_of (settings (network D) i) ((decoded D u).node i) a)
    (P ∙ deep-asked D i a u A ∙ deep-answered (network D) i a (decoded D u) (just-voted D i a u A))

decoded-deep : (D : Deployment) (w : State) (i a d : ℕ) → CodeDeepAfterVote D w i a d → DeepAfterVote (network D) (decoded D w) i a d
decoded-deep D w i a d H =
    let A = H.just_voted in
    let u = H.state in
    record {
      world = decoded D u;
      just_voted = just-voted D i a u A;
      deep = sym (deep-asked D i a u A) ∙ sym H.deep ∙ ap done (sym H.block);
      onward = (going D u w (F D i a u A).healthy H.onward).onward;
    }

-- the claim on what Deep answered, from the claim on deep blocks
by-decoded : (D : Deployment) (w : State) (Block : ℕ → ℕ → Type 0) (s : ℕ)
    → (Opened (network D) → Agreed (network D) (decoded D w) (DeepAfterVote (network D) (decoded D w)) Block s)
    → Agreed (network D) (decoded D w) (CodeDeepAfterVote D w) Block s
by-decoded D w Block s claim =
    agreed-by (network D) (decoded D w) (CodeDeepAfterVote D w) (DeepAfterVote (network D) (decoded D w)) Block s (decoded-deep D w)
    (λ i a d H. claim (C D i a H.state H.just_voted).opened)

pub code-flood-agreement : CodeFloodAgreement
unfolding CodeFloodAgreement FloodAgreement
code-flood-agreement D w s conditions unforged one_block enough =
    by-decoded D w (HonestBlock (decoded D w)) s (λ opened. flood-agreement (network D) opened (decoded D w) s conditions unforged one_block enough)

pub code-deep-agreement : CodeDeepAgreement
unfolding CodeDeepAgreement CodeFloodAgreement
code-deep-agreement D w s conditions unforged one_block enough = code-flood-agreement D w s conditions unforged one_block (enough-for-honest enough)

pub code-asynchrony-agreement : CodeAsynchronyAgreement
unfolding CodeAsynchronyAgreement AsynchronyAgreement
code-asynchrony-agreement D w unforged one_block enough s =
    let N = network D in
    by-decoded D w (Lasting N (decoded D w) (GoodSince N (decoded D w))) s (λ opened.
    agreed-by N (decoded D w) (DeepAfterVote N (decoded D w)) (DeepWhileJoined N (decoded D w)) (Lasting N (decoded D w) (GoodSince N (decoded D w))) s
    (while-joined N (decoded D w)) (λ i a d H. asynchrony-agreement N opened (decoded D w) unforged one_block enough s))
