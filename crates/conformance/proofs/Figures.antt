-- The figures of Fit are what Receive and then a wide Write find, said of the code. Assumes nothing.
use Prim.Native.Nat.{ℕ}
use mathlib.Core.Path.{◌≡◌, refl, sym, ap, ◌∙◌}
use mathlib.Core.Bool.{Bool, true, false, cond}
use mathlib.Core.List.{List}
use native.Mathlib.Omega.{arith}
use Rattle.protocol.specs.declared.Settings.{Settings}
use Rattle.protocol.specs.declared.Width.TheVariants.{Wide}
use Rattle.protocol.specs.Store.{kept_from}
use Rattle.protocol.specs.Packet.{packet_of}
use Rattle.protocol.specs.Limits.{keeping_to}
use Rattle.protocol.specs.Refusal as rules
use Rattle.protocol.specs.Calls.Receive.{Received, receive}
use Rattle.protocol.specs.Calls.Fit.{figures_of, fit_query}
use Rattle.protocol.specs.Lent.{Lent, make_block, make_vote, places_of, node_of, lent_sound, leave, on_lent, call_lent, ask_lent}
use Rattle.protocol.specs.Figures.{in_place_of_ten, figures_in, receive_then_write, FiguresFound}
use Rattle.protocol.proofs.Lent.Rows.{length-rows_of}
use Rattle.protocol.proofs.Lent.Memory.{lent-true}
use Rattle.protocol.proofs.Lent.Calls.{receive-lawful, ask-lent}
use Rattle.protocol.proofs.Store.Sound.{sound-true}
use Rattle.protocol.proofs.Figures.{figures-found}
use Rattle.answers.specs.Answers.{received_of}
use Rattle.conformance.specs.CodeFigures.{CodeFiguresFound}
use Rattle.conformance.proofs.Memory.{called, wrote}

-- Receive's answer on lent memory, sound or not
module _ (s : Settings) (m : Lent) (beat : ℕ) (bytes : List ℕ) where
  taken : rules.Answer Received
  taken = (call_lent s (λ p x. receive s p x beat bytes) m).answer

  on-own : ask_lent s (λ p x. fit_query s p x beat bytes) m ≡ in_place_of_ten (figures_of (kept_from s m.clock.merged) (node_of m) (packet_of bytes)) taken
  unfolding taken ask_lent call_lent FiguresFound node_of
  on-own = go (lent_sound s m)
    where
      left : (o : rules.Answer Received) (x : _) → (leave o x m).answer ≡ o
      left (rules.refused k) x = unfold leave in refl
      left (rules.done a) x = unfold leave in refl

      go : (b : Bool) → cond b (fit_query s (places_of m) (node_of m) beat bytes) (rules.refused (rules.by 6))
          ≡ in_place_of_ten (figures_of (kept_from s m.clock.merged) (node_of m) (packet_of bytes)) (on_lent b (λ p x. receive s p x beat bytes) m).answer
      go true = (figures-found s (places_of m) (node_of m) beat bytes).0 ∙ ap (in_place_of_ten _) (sym (unfold on_lent in (left _ _)))
      go false = unfold on_lent in_place_of_ten in refl

pub code-figures-found : CodeFiguresFound
unfolding CodeFiguresFound FiguresFound receive_then_write node_of taken
code-figures-found s m beat bytes r F = (
  λ y a R. (taken s m beat bytes, R.answer, F ∙ on-own s m beat bytes),
  λ S.
      let G = (figures-found s (places_of m) (node_of m) beat bytes).1 (lent-true s m S).node in
      let fit = F ∙ ask-lent s (λ p x. fit_query s p x beat bytes) m S in (
        λ profile m' S' holds alike b v y a R old new w room W.
            let s' = keeping_to profile s in
            let N = sound-true s' (places_of m') (node_of m') (lent-true s' m' S').node in
            let C = called s' (places_of m') (node_of m) m' (record { places = refl; sound = S' }) (sym holds) received_of (λ p x. receive s' p x beat bytes) (receive-lawful s' beat bytes) y a R in
            let e = wrote s' (places_of m') (receive s' (places_of m') (node_of m) beat bytes).node y C.healthy (sym C.node) false Wide old in
            let kb = length-rows_of make_block m.blocks m.blocks_used in
            let kv = length-rows_of make_vote m.votes m.votes_used in
            let found = G.0 profile (places_of m') old N.settings N.places alike (omega (arith, b, kb)) (omega (arith, v, kv)) room in
            let o = (receive s' (places_of m') (node_of m) beat bytes).answer in
            (o, C.answer, fit ∙ found ∙ ap (figures_in o) (sym (W.answer ∙ ap (λ q. q.answer) e))),
        fit ∙ G.1,
      ),
)
