-- Whoever has the proposer's view after Propose has its block as the head of the slot. Assumes nothing.
use Prim.Native.Nat.{ℕ, suc, ◌/◌, ◌%◌, ◌<◌}
use mathlib.Core.Path.{◌≡◌, refl, sym, ap, ◌∙◌, subst}
use mathlib.Core.Logic.{◌⊎◌, inl, inr}
use mathlib.Core.Bool.{true, false}
use mathlib.Core.List.Memᴰ
use mathlib.Core.List.{List, [], ◌∷◌, ◌++◌}
use native.Mathlib.Omega.{arith}
use lib.Dec.{ltb}
use borrow.Author.Tests.{ltb-true, ltb-false}
use Rattle.protocol.specs.Entry.{Block, Vote}
use Rattle.protocol.specs.Lists.{Same}
use Rattle.protocol.specs.Chain.{genesis}
use Rattle.protocol.specs.Walk.{head_block, base_block}
use Rattle.protocol.specs.Store.{entries}
use Rattle.protocol.specs.Calls.Propose.{base_of}
use Rattle.protocol.proofs.Basics.Tests.{split}
use Rattle.protocol.proofs.Chain.Relations.{In, Known, Sound}
use Rattle.protocol.proofs.Filters.Relations.{Cast}
use Rattle.protocol.proofs.Walk.Proposal.{Extends, proposal-seen}
use Rattle.protocol.proofs.Store.Sound.{store-sound, slot_seen}
use Rattle.protocol.proofs.Calls.Propose.{propose-extends}
use Rattle.resilience.specs.Run.{Network, settings, is_honest, built, given}
use Rattle.resilience.specs.Resilience.{Gives, by-packet, by-proposer}
use Rattle.resilience.proofs.Steps.Log.{BuiltBy}
use Rattle.resilience.proofs.Steps.Allowed.{truth}
use Rattle.resilience.proofs.Runs.Execution.{Execution, world}
use Rattle.resilience.proofs.Runs.History.{from-log}
use Rattle.resilience.proofs.Runs.Premises.{genuine}
use Rattle.resilience.proofs.Invariants.Soundness.{sound-tables}
use Rattle.resilience.proofs.Invariants.Blocks.{stored-given, OfRun, stored-of-run}
use Rattle.resilience.proofs.Invariants.Proposals.{Built, built-once}
use Rattle.resilience.proofs.Slot.ProposerView.{block_of, proposer, proposer_view, votes_of, new_is, stored-after}

module _ {N : Network} {X : Execution N} {b p n y : ℕ} (Q : Built X b p n y) where
  -- p is the proposer of the slot
  pub turn-of : b / 3 % N.nodes ≡ p
  turn-of = ap (λ z. z / 3 % N.nodes) Q.by.beat ∙ Q.by.tests.own

  -- ---- the view after Propose

  pub proposer-view-sound : Sound (proposer_view Q)
  proposer-view-sound = subst (λ (l : List Block). Sound l) (stored-after Q) (store-sound (sound-tables X (suc Q.when) p Q.honest))

  pub proposer-view-of-run : (c : Block) → In c (proposer_view Q) → OfRun X c
  proposer-view-of-run c m = stored-of-run X (suc Q.when) Q.before p Q.honest c (subst (λ (l : List Block). In c l) (sym (stored-after Q)) m)

  vote-known : (a : Vote) → Cast a (votes_of Q) → Known (entries (proposer Q).blocks) a.number
  vote-known a m = let o = ((sound-tables X Q.when p Q.honest).votes a m).on in (o.0, o.1, o.2)

  pub proposer-vote-known : (a : Vote) → Cast a (votes_of Q) → Known (proposer_view Q) a.number
  proposer-vote-known a m = let k = vote-known a m in (k.0, Memᴰ.append_left (block_of Q ∷ []) k.1, k.2)

  -- ---- no other block that p has is of the slot

  not-before : (j d i m z : ℕ) → j < Q.when → BuiltBy N (world X j) (X.steps j) d i m z → d / 3 ≡ b / 3 → i ≡ p → ⊥
  not-before j d i m z l R e q = built-once X Q j d m z l (subst (λ (o : ℕ). BuiltBy N (world X j) (X.steps j) d o m z) q R) e

  not-given : (c : Block) → c.slot ≡ b / 3 → (c ≡ genesis) ⊎ Gives (world X Q.when).log c → ⊥
  not-given c e (inl q) = omega (arith, ap (λ o. o.slot) q, Q.real)
  not-given c e (inr (by-packet d i bytes k u)) =
      let r = from-log X Q.when (given d i bytes true) k in
      let G = genuine X r.0 (omega (arith, r.1, Q.before)) i bytes (r.2.log refl) in
      let own : c.slot % N.nodes ≡ p = ap (λ o. o % N.nodes) e ∙ turn-of in
      let f = G.blocks c u (truth (ap (is_honest N) own ∙ Q.honest)) in
      let s = from-log X r.0 (built f.0 (c.slot % N.nodes) c.number c.parent) f.2 in
      not-before s.0 f.0 (c.slot % N.nodes) c.number c.parent (omega (arith, s.1, r.1)) s.2 (f.1 ∙ e) own
  not-given c e (inr (by-proposer d i k f)) =
      let r = from-log X Q.when (built d i c.number c.parent) k in
      let s : d / 3 ≡ b / 3 = sym f ∙ e in
      let o : i ≡ p = sym r.2.tests.own ∙ ap (λ z. z / 3 % N.nodes) (sym r.2.beat) ∙ ap (λ z. z % N.nodes) s ∙ turn-of in
      not-before r.0 d i c.number c.parent r.1 r.2 s o

  pub older : (c : Block) → In c (entries (proposer Q).blocks) → c.slot < b / 3
  older c m = go (split (ltb c.slot (b / 3)))
    where
      go : (ltb c.slot (b / 3) ≡ true) ⊎ (ltb c.slot (b / 3) ≡ false) → c.slot < b / 3
      go (inl h) = ltb-true c.slot (b / 3) h
      go (inr h) =
          let early = slot_seen (sound-tables X Q.when p Q.honest) c m in
          absurd (not-given c (omega (arith, ltb-false c.slot (b / 3) h, early, Q.by.tests.base.after, Q.by.beat))
          (stored-given X Q.when p Q.honest c m))

  -- ---- the head

  extends : Extends (entries (proposer Q).blocks) (proposer_view Q) (block_of Q)
  extends =
      subst (λ (c : Block). Extends (entries (proposer Q).blocks) (entries (proposer Q).blocks ++ (c ∷ [])) c) (new_is Q)
      (propose-extends (settings N p) (N.places p) (proposer Q) (world X Q.when).beat n Q.by.tests)

  parent_is : y ≡ base_block (entries (proposer Q).blocks) (votes_of Q) N.nodes N.expiry (b / 3)
  unfolding base_of
  parent_is = Q.by.value ∙ ap (λ z. base_of (settings N p) (proposer Q) (z / 3)) (sym Q.by.beat)

  pub head-is : (ys : List Block) (ws : List Vote) → Sound ys → Same Block ys (proposer_view Q) → Same Vote ws (votes_of Q)
      → head_block ys ws N.nodes N.expiry (b / 3) ≡ n
  head-is ys ws S s z =
      proposal-seen (store-sound (sound-tables X Q.when p Q.honest)) extends (votes_of Q) ws N.nodes N.expiry
      (b / 3) vote-known older parent_is refl S s z
