-- What a link into the table's entries and the packet's says: the block found by a number, and whether the packet's next entry is new.
-- Assumes nothing.
use Prim.Native.Nat.{ℕ, ◌+◌, ◌≤◌}
use mathlib.Core.Bool.{Bool, true, false, not, not-not}
use mathlib.Core.List.{List, ◌++◌}
use mathlib.Core.Path.{◌≡◌, refl, ap, sym, ◌∙◌}
use native.Mathlib.Omega.{arith}
use lib.Dec.{eqb, eqb-suc-zero}
use lib.ListN.{length, get_or, take}
use Rattle.std.specs.Prelude.{Option, Some, None, is_some}
use Rattle.protocol.specs.Entry.{Block, Vote}
use Rattle.protocol.specs.Chain.{Lookup, find, found_with, genesis}
use Rattle.protocol.specs.Store.{entries, same_vote}
use Rattle.protocol.specs.Packet.{packet_of}
use Rattle.protocol.specs.Lent.{rows_of, make_block, make_vote}
use Rattle.protocol.specs.Calls.Receive.{add_blocks}
use Rattle.protocol.proofs.Basics.Members.{any_append}
use Rattle.protocol.proofs.Store.New.{any-added}
use Rattle.packets.specs.Header.{no_vote}
use Rattle.rows.proofs.Find.{known-any}
use Rattle.search_tree.specs.Tree.{link_of, Points}
use Rattle.search_tree.proofs.Lists.{any-linked}
use Rattle.index.specs.declared.Key.{Key}
use Rattle.index.specs.Keys.{number_key, vote_key}
use Rattle.index.specs.Links.{block_keys, vote_keys, known_blocks, link_to_block, link_to_vote, lookup_at}
use Rattle.index.specs.Firsts.{block_new, vote_new}
use Rattle.index.proofs.Known.{known-front, known_next}
use Rattle.index.proofs.Joined.{block-linked, vote-linked, vote-among, link-found}
use Rattle.admission.proofs.Known.{added-joined}

-- a row was found if its link is not 0
pub no-row : (row : Option ℕ) (none : Bool) → is_some row ≡ not none → none ≡ eqb (link_of row) 0
no-row None true e = refl
no-row None false e = e
no-row (Some j) true e = e ∙ sym (eqb-suc-zero j)
no-row (Some j) false e = sym (eqb-suc-zero j)

no-link : (link : ℕ) {t : Bool} → not (eqb link 0) ≡ t → eqb link 0 ≡ not t
no-link link e = sym (not-not (eqb link 0)) ∙ ap not e

module _ (ws : List ℕ) (used : ℕ) (bytes : List ℕ) (i : ℕ) where
  -- the keys of the packet's next entries
  pub block-key : block_keys ws used bytes (used + i) ≡ number_key (get_or (packet_of bytes).blocks i genesis).number
  block-key = ap (λ (b : Block). number_key b.number) (known_next make_block ws used (packet_of bytes).blocks i genesis)

  pub vote-key : vote_keys ws used bytes (used + i) ≡ vote_key (get_or (packet_of bytes).votes i no_vote)
  vote-key = ap vote_key (known_next make_vote ws used (packet_of bytes).votes i no_vote)

  -- what was read at the row of x, where the packet's first i blocks are known
  module _ (l : i ≤ length (packet_of bytes).blocks) where
    pub link-told : (x : ℕ) {k : Key} {link : ℕ} {f : Lookup} → k ≡ number_key x → Points (block_keys ws used bytes) (used + i) k link
        → f ≡ lookup_at (known_blocks ws used bytes) link → f ≡ find (add_blocks (entries (rows_of make_block ws used)) (take i (packet_of bytes).blocks)) x
    link-told x e s r =
        let known = known_blocks ws used bytes in
        let bs = (packet_of bytes).blocks in
        let p = block-linked ws used bytes (used + i) x (omega arith) e s in
        r ∙ ap (lookup_at known) p ∙ link-found known (used + i) x
        ∙ ap (λ l. find l x) (known-front make_block ws used bs i) ∙ sym (added-joined (entries (rows_of make_block ws used)) (take i bs) x)

    pub block_new_lem : (link : ℕ) → Points (block_keys ws used bytes) (used + i) (block_keys ws used bytes (used + i)) link
        → eqb link 0 ≡ block_new ws used bytes i
    unfolding link_to_block
    block_new_lem link s =
        let old = entries (rows_of make_block ws used) in
        let bs = (packet_of bytes).blocks in
        let x = (get_or bs i genesis).number in
        let f : link ≡ link_to_block (old ++ take i bs) x
        = block-linked ws used bytes (used + i) x (omega arith) block-key s ∙ ap (λ (l : List Block). link_to_block l x) (known-front make_block ws used bs i) in
        no-link link (ap (λ (k : ℕ). not (eqb k 0)) f
        ∙ sym (ap (found_with (λ c. true)) (added-joined old (take i bs) x) ∙ known-any (old ++ take i bs) x ∙ any-linked (λ b. eqb b.number x) (old ++ take i bs) 0))

  pub vote-new : i ≤ length (packet_of bytes).votes → (link : ℕ)
      → Points (vote_keys ws used bytes) (used + i) (vote_keys ws used bytes (used + i)) link → eqb link 0 ≡ vote_new ws used bytes i
  vote-new l link s =
      let old = entries (rows_of make_vote ws used) in
      let vs = (packet_of bytes).votes in
      let a = get_or vs i no_vote in
      let f : link ≡ link_to_vote (old ++ take i vs) a
      = vote-linked ws used bytes (used + i) a (omega arith) vote-key s ∙ ap (λ (l : List Vote). link_to_vote l a) (known-front make_vote ws used vs i) in
      no-link link (vote-among (old ++ take i vs) a f ∙ any_append (same_vote a) old (take i vs) ∙ sym (any-added old (take i vs) a))
