-- Write's tests by what code computes: the bytes need no clock, and the proposer no votes. Assumes nothing.
use Prim.Native.Nat.{ℕ, ◌<◌, ◌≤◌}
use mathlib.Core.Path.{◌≡◌, ap, sym, ◌∙◌}
use mathlib.Core.Logic.{◌⊎◌, ⊎_elim}
use mathlib.Core.Bool.{Bool, true, false, not, ◌&&◌, cond}
use mathlib.Core.List.{List, [], ◌∷◌}
use native.Mathlib.Omega.{arith}
use lib.Dec.{ltb}
use lib.ListN.{length}
use Rattle.std.specs.Prelude.{Result, Ok}
use borrow.Author.Tests.{lt-ltb, le-ltb}
use Rattle.protocol.specs.declared.Settings.{Settings}
use Rattle.protocol.specs.declared.Width.{Width}
use Rattle.protocol.specs.Entry.{Block}
use Rattle.protocol.specs.Chain.{genesis}
use Rattle.protocol.specs.Store.{view_of, Node}
use Rattle.protocol.specs.Refusal.{by, test, pass, refuse, first, unsound}
use Rattle.protocol.specs.Calls.Write.{last_block, gossip_of, proposal_of, sent_of, proposed_now, too_wide, packet_out, write_tests}
use Rattle.protocol.specs.Lent.{Lent, rows_of, make_block, node_of}
use Rattle.writer.specs.Sent.{node_in, RowsReadable}
use Rattle.verdicts.specs.declared.Refusal.{Refusal}
use Rattle.verdicts.specs.Verdict.{verdict_of}
use Rattle.verdicts.specs.Lent.{lent_verdict}
use Rattle.verdicts.proofs.Passed.{Ready}
use Rattle.verdicts.proofs.Sequence.{passed-before, write-front}

pub readable : (s : Settings) (m : Lent) → Ready s m → RowsReadable m.blocks m.blocks_used m.votes m.votes_used
readable s m R = record {
  block_rows = R.memory.block_words;
  vote_rows = R.memory.vote-words;
  block_count = omega (arith, R.few-blocks);
  vote_count = omega (arith, R.few-votes);
  first = R.first-mark;
}

-- the header's block, by the packet that the tables give
pub header-fields : (proposal : Bool) (width : Width) (x : Node) {b : Block} → b ≡ cond proposal (last_block (view_of x.blocks)) genesis
    → (b.slot ≡ (sent_of proposal width x).slot) × (b.number ≡ (sent_of proposal width x).number)
unfolding sent_of proposal_of gossip_of
header-fields true width x e = (ap (λ o. o.slot) e, ap (λ o. o.number) e)
header-fields false width x e = (ap (λ o. o.slot) e, ap (λ o. o.number) e)

-- whether the own node proposes now, of the clock and the blocks alone
abbrev pub proposer : Settings → Lent → Bool
proposer s m = proposed_now s (record { blocks = rows_of make_block m.blocks m.blocks_used; votes = []; clock = m.clock })

-- what code knows: the memory is sound, by v; and its answers u, w and n
module _ (s : Settings) (m : Lent) (proposal : Bool) (width : Width) (buffer : List ℕ) {A : Type 0} {v : Result A Refusal} {a : A} (told : verdict_of v ≡ lent_verdict s (λ p x. unsound s p x ∷ []) m) (is : v ≡ Ok a) where
  -- the node, without its clock
  abbrev held : Node
  held = node_in m.blocks m.blocks_used m.votes m.votes_used

  rest : lent_verdict s (λ p x. write_tests s p x proposal width buffer) m
      ≡ first (test 19 (proposal && not (proposer s m))
      ∷ test 23 (too_wide width (sent_of proposal width held))
      ∷ test 18 (ltb (length buffer) (length (packet_out proposal width held)))
      ∷ [])
  unfolding write_tests proposed_now packet_out sent_of gossip_of proposal_of node_in node_of
  rest = passed-before s _ (λ p x. write_tests s p x proposal width buffer) m 1 (write-front s proposal width buffer) told is

  pub no-proposal : {u : Bool} → proposal ≡ true → u ≡ proposer s m → u ≡ false → refuse (by 19) ≡ lent_verdict s (λ p x. write_tests s p x proposal width buffer) m
  no-proposal q r e = sym (rest ∙ unfold first in (rw (q, sym r ∙ e)))

  -- a proposal is wanted of the proposer, or gossip
  module _ (may : ((proposal ≡ true) × (proposer s m ≡ true)) ⊎ (proposal ≡ false)) {w : Bool} (wide : w ≡ too_wide width (sent_of proposal width held)) where
    allowed : (proposal && not (proposer s m)) ≡ false
    allowed = ⊎_elim (λ w. rw (w.0, w.1)) (λ w. rw w) may

    pub met-wide : w ≡ true → refuse (by 23) ≡ lent_verdict s (λ p x. write_tests s p x proposal width buffer) m
    met-wide e = sym (rest ∙ unfold first in (rw (allowed, sym wide ∙ e)))

    module _ (narrow : w ≡ false) {n : ℕ} (size : n ≡ length (packet_out proposal width held)) where
      pub short : length buffer < n → refuse (by 18) ≡ lent_verdict s (λ p x. write_tests s p x proposal width buffer) m
      short h = sym (rest ∙ unfold first in (rw (allowed, sym wide ∙ narrow, sym size, lt-ltb (length buffer) n h)))

      pub enough : n ≤ length buffer → pass ≡ lent_verdict s (λ p x. write_tests s p x proposal width buffer) m
      enough h = sym (rest ∙ unfold first in (rw (allowed, sym wide ∙ narrow, sym size, le-ltb (length buffer) n h)))
