-- What Settled of the code answers is the settled block, with its laws: it is the head where no node is silent, a silent node more never moves it up, and it is
-- on the head's chain. Assumes nothing.
use Prim.Native.Nat.{ℕ, ◌%◌, ◌^◌}
use mathlib.Core.Path.{◌≡◌, refl, sym, ap, ◌∙◌}
use mathlib.Core.Bool.{Bool, true, false, cond}
use native.Mathlib.Nat.{zero-div, one-le-pow}
use native.Mathlib.Omega.{arith}
use lib.Dec.{eqb}
use borrow.Author.Tests.{lt-leb}
use Rattle.protocol.specs.declared.Settings.{Settings}
use Rattle.protocol.specs.Words.{bit_of}
use Rattle.protocol.specs.Store.{Places, Node}
use Rattle.protocol.specs.Refusal.{by, first, Answer, done, refused}
use Rattle.protocol.specs.Calls.Vote.{head_of}
use Rattle.protocol.specs.Calls.Query.{query_tests, settled_tests, settled_of, head_query, settled_query}
use Rattle.protocol.specs.Lent.{Lent, places_of, node_of, lent_sound, ask_lent}
use Rattle.protocol.proofs.Lent.Memory.{lent-true}
use Rattle.protocol.proofs.Removal.Unseen.{answered, answered-settled}
use Rattle.protocol.proofs.Settled.Nodes.{node-farthest, node-none, node-more, node-head}
use Rattle.protocol.proofs.Store.Sound.{IsSound, sound-true}
use Rattle.conformance.specs.CodeSettled.{Settles, Heads, CodeSettled}

-- the empty set has nobody
nobody : (v : ℕ) → bit_of 0 v ≡ false
nobody v = ap (λ (x : ℕ). eqb (x % 2) 1) (zero-div (2 ^ v))

module _ (s : Settings) (m : Lent) where
  -- a question that is answered was asked on sound memory
  asked : {A : Type 0} (ask : Places → Node → Answer A) (a : A) → ask_lent s ask m ≡ done a → IsSound s (places_of m) (node_of m) × (ask (places_of m) (node_of m) ≡ done a)
  unfolding ask_lent
  asked {A} ask a e = at (lent_sound s m) refl e
    where
      at : (b : Bool) → lent_sound s m ≡ b → cond b (ask (places_of m) (node_of m)) (refused (by 6)) ≡ done a → IsSound s (places_of m) (node_of m) × (ask (places_of m) (node_of m) ≡ done a)
      at true q h = (sound-true s (places_of m) (node_of m) (lent-true s m q).node, h)
      at false q h = let z : ◌≡◌ {A = ℕ} 0 1 = cc in absurd (omega arith)

  module _ (t : ℕ) where
    settles : (silent r : ℕ) → Settles s m t silent r → IsSound s (places_of m) (node_of m) × (r ≡ settled_of s (node_of m) t silent)
    settles silent r (a, P, e) =
        let q = asked (λ p x. settled_query s p x t silent) r (sym P ∙ e) in
        (q.0, (answered-settled s (places_of m) (node_of m) t silent r q.1).1)

    heads : (h : ℕ) → Heads s m t h → h ≡ head_of s (node_of m) t
    unfolding head_query
    heads h (a, P, e) =
        let q = asked (λ p x. head_query s p x t) h (sym P ∙ e) in
        (answered s (places_of m) (node_of m) t (head_of s (node_of m) t) h q.1).1

    -- without a silent node Settled is Head
    none_alike : ask_lent s (λ p x. settled_query s p x t 0) m ≡ ask_lent s (λ p x. head_query s p x t) m
    unfolding ask_lent
    none_alike = at (lent_sound s m) refl
      where
        same : IsSound s (places_of m) (node_of m) → settled_query s (places_of m) (node_of m) t 0 ≡ head_query s (places_of m) (node_of m) t
        same G =
            unfold settled_query head_query settled_tests query_tests first in (
            rw (lt-leb (2 ^ s.nodes) 0 (one-le-pow s.nodes 2 (omega arith)), node-none G t 0 (λ v l. nobody v)))

        at : (b : Bool) → lent_sound s m ≡ b → cond b (settled_query s (places_of m) (node_of m) t 0) (refused (by 6)) ≡ cond b (head_query s (places_of m) (node_of m) t) (refused (by 6))
        at true q = same (sound-true s (places_of m) (node_of m) (lent-true s m q).node)
        at false q = refl

pub code-settled : CodeSettled
unfolding CodeSettled
code-settled s m t = (
  λ silent r S. let q = settles s m t silent r S in rw q.1 (node-farthest q.0 t silent),
  λ a a' P P'. P ∙ none_alike s m t ∙ sym P',
  λ few many r q inside S T.
      let x = settles s m t few r S in
      let y = settles s m t many q T in
      rw (x.1, y.1) (node-more x.0 t few many inside),
  λ silent r h S H. let x = settles s m t silent r S in rw (x.1, heads s m t h H) (node-head x.0 t silent),
)
