-- The packet that two tables give, section by section from what is taken of them. Assumes nothing.
use Prim.Native.Nat.{ℕ, zero, suc, ◌+◌}
use mathlib.Core.Path.{◌≡◌, refl, sym, ap, ◌∙◌}
use mathlib.Core.Bool.{Bool, true, false}
use mathlib.Core.List.{List, ◌++◌, append_assoc}
use native.Mathlib.Omega.{arith}
use lib.ListN.{length, drop, length-append}
use Rattle.protocol.specs.declared.Width.{Width}
use Rattle.protocol.specs.declared.Width.TheVariants.{Narrow, Wide}
use Rattle.protocol.specs.Entry.{Block, Vote}
use Rattle.protocol.specs.Store.{entries, view_of, Node}
use Rattle.protocol.specs.Packet.{Packet, bytes_of, section, size_of, width_of, head_bytes, block_bytes, vote_bytes, packet_as, packet_bytes}
use Rattle.protocol.specs.Calls.Write.{bytes_in, kind_of, after_genesis, gossip_of, proposal_of, sent_of, packet_out}
use Rattle.protocol.specs.Lent.{rows_of, make_block, make_vote}
use Rattle.protocol.proofs.Packet.Numbers.{le-length}
use Rattle.protocol.proofs.Packet.Bytes.{packet-length}
use Rattle.writer.specs.Rows.{taken}
use Rattle.writer.specs.Sent.{node_in, RowsReadable}

sent-parts : (proposal : Bool) (width : Width) (x : Node)
    → sent_of proposal width x
    ≡ record {
      kind = kind_of proposal width;
      slot = (sent_of proposal width x).slot;
      number = (sent_of proposal width x).number;
      blocks = after_genesis (taken proposal x.blocks);
      votes = taken proposal x.votes;
    }
unfolding sent_of proposal_of gossip_of
sent-parts true width x = refl
sent-parts false width x = refl

-- the first row is taken, and left out
after_first : (proposal : Bool) (ws : List ℕ) (n : ℕ) → (make_block.of ws).viewed ≡ true
    → after_genesis (taken proposal (rows_of make_block ws n)) ≡ taken proposal (drop 1 (rows_of make_block ws n))
unfolding after_genesis view_of entries rows_of
after_first true ws zero h = refl
after_first false ws zero h = refl
after_first true ws (suc n) h = rw h refl
after_first false ws (suc n) h = refl

width-of-kind : (proposal : Bool) (width : Width) → width_of (kind_of proposal width) ≡ bytes_in width
width-of-kind true Narrow = refl
width-of-kind true Wide = refl
width-of-kind false Narrow = refl
width-of-kind false Wide = refl

module _ (proposal : Bool) (width : Width) (blocks : List ℕ) (blocks_used : ℕ) (votes : List ℕ) (votes_used : ℕ) (ok : RowsReadable blocks blocks_used votes votes_used) where
  abbrev x : Node
  x = node_in blocks blocks_used votes votes_used

  abbrev pub bs : List Block
  bs = taken proposal (drop 1 (rows_of make_block blocks blocks_used))

  abbrev pub vs : List Vote
  vs = taken proposal (rows_of make_vote votes votes_used)

  pub blocks-taken : (sent_of proposal width x).blocks ≡ bs
  unfolding node_in
  blocks-taken = ap (λ (p : Packet). p.blocks) (sent-parts proposal width x) ∙ after_first proposal blocks blocks_used ok.first

  pub votes-taken : (sent_of proposal width x).votes ≡ vs
  unfolding node_in
  votes-taken = ap (λ (p : Packet). p.votes) (sent-parts proposal width x)

  sent-width : width_of (sent_of proposal width x).kind ≡ bytes_in width
  sent-width = ap (λ (p : Packet). width_of p.kind) (sent-parts proposal width x) ∙ width-of-kind proposal width

  pub sent-size : length (packet_out proposal width x) ≡ size_of (bytes_in width) (length bs) (length vs)
  unfolding packet_out
  sent-size = packet-length (sent_of proposal width x) ∙ rw (sent-width, blocks-taken, votes-taken) refl

  -- ---- as bytes

  module _ (w : ℕ) (u : w ≡ bytes_in width) where
    pub sent-sections : (kind slot number : ℕ) → kind ≡ kind_of proposal width → slot ≡ (sent_of proposal width x).slot → number ≡ (sent_of proposal width x).number
        → packet_out proposal width x ≡ bytes_of 1 kind ++ (bytes_of 4 slot ++ bytes_of w number) ++ section (block_bytes w) bs ++ section (vote_bytes w) vs
    unfolding packet_out packet_bytes packet_as head_bytes
    sent-sections kind slot number e f g =
        let k : (sent_of proposal width x).kind ≡ kind = ap (λ (p : Packet). p.kind) (sent-parts proposal width x) ∙ sym e in
        let n : width_of (sent_of proposal width x).kind ≡ w = sent-width ∙ sym u in
        (λ i. packet_as (n i) (record { kind = k i; slot = sym f i; number = sym g i; blocks = blocks-taken i; votes = votes-taken i }))
        ∙ sym (append_assoc (bytes_of 1 kind ++ (bytes_of 4 slot ++ bytes_of w number)) (section (block_bytes w) bs) (section (vote_bytes w) vs))

    -- the header, and the sections
    pub sent-room : length (packet_out proposal width x) ≡ 5 + w + length (section (block_bytes w) bs) + length (section (vote_bytes w) vs)
    sent-room =
        let p = sent_of proposal width x in
        rw (sent-sections (kind_of proposal width) p.slot p.number refl refl refl) (simp (length-append, le-length) (omega arith))
