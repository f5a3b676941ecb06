-- The tables after Receive: entries added, and in view if the packet comes into view. Assumes nothing.
use Prim.Native.Nat.{ℕ}
use mathlib.Core.Bool.{true, false}
use mathlib.Core.List.{List, ◌++◌}
use mathlib.Core.Path.{◌≡◌, refl, ap, sym, ◌∙◌}
use lib.ListN.{length, drop}
use Rattle.protocol.specs.Entry.{Block, Vote}
use Rattle.protocol.specs.Lists.{any_pass}
use Rattle.protocol.specs.Chain.{known}
use Rattle.protocol.specs.Store.{Marked, entries, view_of, all_waiting, view, same_vote}
use Rattle.protocol.specs.Packet.{Packet}
use Rattle.protocol.specs.Lent.{rows_of, stored, make_block, block_row}
use Rattle.protocol.specs.Calls.Receive.{add_blocks, add_since, blocks_after, votes_after, stood_on, receive_into}
use Rattle.protocol.proofs.Store.FirstBad.{votes-allowed}
use Rattle.protocol.proofs.Store.Growth.{Added, added-blocks, table-grow}
use Rattle.protocol.proofs.Store.New.{new_blocks_of, knows_block, adding-blocks}
use Rattle.protocol.proofs.Store.Sound.{vote-true}
use Rattle.protocol.proofs.Store.Follow.{found-known}
use Rattle.protocol.proofs.Store.Tables.{Table, Closed, table-true, table-holds, table-sound}
use Rattle.protocol.proofs.Basics.Members.{all-holds}
use Rattle.protocol.proofs.Store.Views.{entries-waiting, viewing-none, grown-none}
use Rattle.protocol.proofs.Lent.Rows.{block-codec}
use Rattle.storing.specs.Grown.{grown, Holds}
use Rattle.storing.proofs.Adding.{grown-new, entries-grown}
use Rattle.receiving.specs.Accepted.{Carried, Accepted, only_blocks, only_votes}
use Rattle.receiving.proofs.Held.{rows-held, viewed-held}

-- ---- an accepted packet is carried by the table that it was added to

module _ (ms : List (Marked Block)) (p : Packet) (K : Accepted ms p) where
  abbrev later : ℕ
  later = K.later

  abbrev new : List (Marked Block)
  new = grown add_blocks ms p.blocks

  old : Table K.slot ms × Closed (view_of ms)
  old = table-true K.slot ms K.sound

  A : Added later (entries ms) p.blocks
  A = added-blocks later (entries ms) p.blocks (table-sound old.0) K.blocks

  abbrev extra : List Block
  extra = new_blocks_of (entries ms) p.blocks

  new_is : new ≡ ms ++ all_waiting extra
  new_is = grown-new knows_block add_blocks adding-blocks ms p.blocks

  entries-new : entries new ≡ add_blocks (entries ms) p.blocks
  entries-new = entries-grown knows_block add_blocks adding-blocks ms p.blocks

  view-new : view_of new ≡ view_of ms
  view-new =
      ap view_of (new_is ∙ sym (viewing-none (λ b. false) (λ b. refl) (ms ++ all_waiting extra))) ∙ grown-none (λ b. false) ms extra (λ b. refl)

  table-new : Table later new
  table-new =
      rw (new_is ∙ ap (λ (l : List (Marked Block)). l ++ all_waiting extra) (sym (viewing-none (λ b. false) (λ b. refl) ms)))
      (table-grow K.slot later K.order (λ b. false) ms (all_waiting extra) old.0 (rw (entries-waiting extra) A.follow))

  pub accepted-carried : Carried new p
  accepted-carried = record {
    slot = later;
    sound = table-holds later new table-new (rw view-new old.1);
    blocks = rw entries-new (all-holds (λ c. known (add_blocks (entries ms) p.blocks) c.number) p.blocks
        (λ c m. found-known (add_blocks (entries ms) p.blocks) c.number (c, A.has c m, refl)));
    votes = rw entries-new (all-holds (λ a. known (add_blocks (entries ms) p.blocks) a.number) p.votes
        (λ a m. let o = (vote-true K.nodes later (add_blocks (entries ms) p.blocks) a (votes-allowed K.nodes later (add_blocks (entries ms) p.blocks) p.votes K.votes a m)).on in
        found-known (add_blocks (entries ms) p.blocks) a.number (o.0, o.1, o.2)));
  }

-- ---- what Receive leaves

module _ (ms : List (Marked Block)) (p : Packet) where
  pub blocks-kept : (receive_into 0 false 0 (only_blocks ms) p).blocks ≡ grown add_blocks ms p.blocks
  unfolding receive_into blocks_after grown
  blocks-kept = viewing-none (λ b. false) (λ b. refl) (ms ++ all_waiting (drop (length ms) (add_blocks (entries ms) p.blocks)))

  blocks-viewed : (receive_into 0 true 0 (only_blocks ms) p).blocks
      ≡ view (λ b. stood_on (entries (grown add_blocks ms p.blocks)) p b) (grown add_blocks ms p.blocks)
  blocks-viewed =
      unfold receive_into blocks_after grown in (
      ap (λ (bs : List Block). view (λ b. stood_on bs p b) (grown add_blocks ms p.blocks)) (sym (entries-grown knows_block add_blocks adding-blocks ms p.blocks)))

module _ (from : ℕ) (ms : List (Marked Vote)) (p : Packet) where
  pub votes-kept : (receive_into from false 0 (only_votes ms) p).votes ≡ grown (add_since from) ms p.votes
  unfolding receive_into votes_after grown
  votes-kept = viewing-none (λ a. false) (λ a. refl) (ms ++ all_waiting (drop (length ms) (add_since from (entries ms) p.votes)))

  pub votes-viewed : (receive_into from true 0 (only_votes ms) p).votes ≡ view (λ a. any_pass (same_vote a) p.votes) (grown (add_since from) ms p.votes)
  unfolding receive_into votes_after grown
  votes-viewed = refl

pub blocks-stood-on : (ms : List (Marked Block)) (p : Packet) (ws₀ : List ℕ) {ws ws' : List ℕ} {u : ℕ} → Holds (Marked Block) block_row (grown add_blocks ms p.blocks) ws₀ ws u
    → ws' ≡ stored block_row (view (λ b. stood_on (entries (rows_of make_block ws u)) p b) (rows_of make_block ws u)) ws
    → Holds (Marked Block) block_row (receive_into 0 true 0 (only_blocks ms) p).blocks ws₀ ws' u
blocks-stood-on ms p ws₀ {ws} {ws'} {u} h e =
    let new = grown add_blocks ms p.blocks in
    rw (blocks-viewed ms p)
    (viewed-held block-codec new ws₀ h (λ b. stood_on (entries new) p b)
    (e ∙ ap (λ (r : List (Marked Block)). stored block_row (view (λ b. stood_on (entries r) p b) (rows_of make_block ws u)) ws) (rows-held block-codec new ws₀ h)))
