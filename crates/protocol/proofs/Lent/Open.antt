-- Open on lent memory: a fresh node in the same places, every other word zero; refused, the memory is as it was. Assumes nothing.
use Prim.Native.Nat.{ℕ, ◌*◌, ◌-◌, ◌≤◌}
use mathlib.Core.Path.{◌≡◌, refl, sym, ◌∙◌}
use mathlib.Core.Bool.{true}
use mathlib.Core.List.{[]}
use native.Mathlib.Omega.{arith}
use lib.ListN.{length, drop, replicate, length-append, length-replicate}
use Rattle.protocol.specs.declared.Settings.{Settings}
use Rattle.protocol.specs.Limits.{limits_of}
use Rattle.protocol.specs.Store.{fresh}
use Rattle.protocol.specs.Sound.{in_range, places_sound}
use Rattle.protocol.specs.Refusal.{Refusal, first, Verdict, pass, refuse, refused, done, unless, answer_unless}
use Rattle.protocol.specs.Calls.Open.{open_tests, open_node}
use Rattle.protocol.specs.Lent.{Lent, rows_of, words_of, block_row, places_in, places_of, node_of, marks_sound, lent_sound, cleared, open_verdict, open_lent, block_words, vote_words}
use Rattle.protocol.proofs.Basics.Tests.{facts}
use Rattle.protocol.proofs.Store.Sound.{fresh-sound, sound-holds}
use Rattle.protocol.proofs.Calls.Passed.{Opens, opens}
use Rattle.protocol.proofs.Calls.Refusal.{answer-done, answer-refused, unless-answer}
use Rattle.protocol.proofs.Lent.Rows.{block-codec, rows_words, marks-words, blocks-fit, places_same}
use Rattle.protocol.proofs.Lent.Memory.{lent-holds}

-- the memory y after an Open of m that was carried out
pub record OpenedLent (s : Settings) (m y : Lent) : Type 0 where
  pub node : node_of y ≡ fresh
  pub places : places_of y ≡ places_of m
  pub length-blocks : length y.blocks ≡ length m.blocks
  pub length-votes : length y.votes ≡ length m.votes
  pub zero-blocks : drop (block_words * y.blocks_used) y.blocks ≡ replicate (length m.blocks - block_words) 0
  pub zero-votes : drop (vote_words * y.votes_used) y.votes ≡ replicate (length m.votes) 0
  pub sound : lent_sound s y ≡ true

module _ (s : Settings) (m : Lent) where
  cleared-node : node_of (cleared m) ≡ fresh
  unfolding node_of cleared rows_of
  cleared-node = λ i. record { blocks = rows_words block-codec fresh.blocks (replicate (length m.blocks - block_words) 0) i; votes = []; clock = fresh.clock }

  module _ (O : Opens s (places_of m)) where
    room : block_words ≤ length m.blocks
    unfolding places_sound in_range places_of
    room =
        let e : places_sound (limits_of s.profile) (places_of m) ≡ true = O.places in
        let h : 1 ≤ places_in block_words m.blocks = search facts in
        blocks-fit m.blocks 1 h

    cleared-blocks : length (cleared m).blocks ≡ length m.blocks
    unfolding cleared words_of
    cleared-blocks =
        let h = room in
        omega (arith, length-append (words_of block_row fresh.blocks) (replicate (length m.blocks - block_words) 0), length-replicate {A = ℕ} (length m.blocks - block_words) 0)

    cleared-votes : length (cleared m).votes ≡ length m.votes
    unfolding cleared
    cleared-votes = length-replicate (length m.votes) 0

    cleared-places : places_of (cleared m) ≡ places_of m
    unfolding places_of
    cleared-places =
        let b = places_same block_words (cleared m).blocks m.blocks cleared-blocks in
        let v = places_same vote_words (cleared m).votes m.votes cleared-votes in
        λ i. record { blocks = b i; votes = v i }

    opened-lent : OpenedLent s m (cleared m)
    unfolding cleared words_of marks_sound rows_of
    opened-lent = record {
      node = cleared-node;
      places = cleared-places;
      length-blocks = cleared-blocks;
      length-votes = cleared-votes;
      zero-blocks = refl;
      zero-votes = refl;
      sound = lent-holds s (cleared m) (record {
        mark-blocks = marks-words block-codec fresh.blocks (replicate (length m.blocks - block_words) 0);
        mark-votes = refl;
        node = rw (cleared-places, cleared-node) (sound-holds (fresh-sound s (places_of m) O.settings O.places));
      });
    }

-- ---- the call

open-answer : (v : Verdict) (m : Lent) → (open_verdict v m).answer ≡ answer_unless v tt
unfolding open_verdict answer_unless
open-answer pass m = refl
open-answer (refuse k) m = refl

module _ (s : Settings) (m : Lent) where
  pub open_lent_lem : (open_lent s m).answer ≡ done tt → OpenedLent s m (open_lent s m).lent
  unfolding open_lent open_verdict
  open_lent_lem d =
      let p = answer-done (first (open_tests s (places_of m))) tt tt (sym (open-answer (first (open_tests s (places_of m))) m) ∙ d) in
      rw p.0 (opened-lent s m (opens s (places_of m) p.0))

  pub open-lent-refused : (k : Refusal) → (open_lent s m).answer ≡ refused k → (open_lent s m).lent ≡ m
  unfolding open_lent open_verdict
  open-lent-refused k d = rw (answer-refused (first (open_tests s (places_of m))) tt k (sym (open-answer (first (open_tests s (places_of m))) m) ∙ d))

  -- as Open on the node that it holds
  pub open-lent-answer : (open_lent s m).answer ≡ (open_node s (places_of m) (node_of m)).answer
  unfolding open_lent open_node
  open-lent-answer = open-answer (first (open_tests s (places_of m))) m ∙ sym (unless-answer (first (open_tests s (places_of m))) (node_of m) tt fresh)

  pub open-lent-node : node_of (open_lent s m).lent ≡ (open_node s (places_of m) (node_of m)).node
  unfolding open_lent open_node
  open-lent-node = go (first (open_tests s (places_of m)))
    where
      go : (v : Verdict) → node_of (open_verdict v m).lent ≡ (unless {A = Unit {0}} v (node_of m) tt fresh).node
      go pass = unfold open_verdict unless in (cleared-node s m)
      go (refuse k) = unfold open_verdict unless in refl
