-- What is known of tables and packet where a packet's entries are received. Assumes nothing.
use Rattle.std.specs.Prelude.{ℕ, ◌≤◌, true, List, [], ◌≡◌, length}
use Rattle.protocol.specs.declared.Clock.{Clock}
use Rattle.protocol.specs.Entry.{Block, Vote}
use Rattle.protocol.specs.Chain.{known}
use Rattle.protocol.specs.Lists.{all_pass}
use Rattle.protocol.specs.Store.{Marked, Node, entries, fresh_clock}
use Rattle.protocol.specs.Sound.{blocks_sound}
use Rattle.protocol.specs.Packet.{Packet}
use Rattle.protocol.specs.Calls.Receive.{add_blocks, first_bad_block, first_bad_vote}

-- the blocks are sound, and those of the packet and of its votes are among them
pub record Carried (ms : List (Marked Block)) (p : Packet) : Type 0 where
  pub slot : ℕ
  pub sound : blocks_sound slot ms ≡ true
  pub blocks : all_pass (λ c. known (entries ms) c.number) p.blocks ≡ true
  pub votes : all_pass (λ a. known (entries ms) a.number) p.votes ≡ true

-- the blocks are sound at a slot, and no block or vote of the packet breaks a rule at a beat of this or a later slot
pub record Accepted (ms : List (Marked Block)) (p : Packet) : Type 0 where
  pub slot : ℕ
  pub later : ℕ
  pub order : slot ≤ later
  pub sound : blocks_sound slot ms ≡ true
  pub nodes : ℕ
  pub blocks : first_bad_block later (entries ms) p.blocks ≡ length p.blocks
  pub votes : first_bad_vote nodes later (add_blocks (entries ms) p.blocks) p.votes ≡ length p.votes

-- a node that is its blocks alone
abbrev pub only_blocks : List (Marked Block) → Node
only_blocks ms = record { blocks = ms; votes = []; clock = fresh_clock }

-- a node that is its votes alone
abbrev pub only_votes : List (Marked Vote) → Node
only_votes ms = record { blocks = []; votes = ms; clock = fresh_clock }

-- a node that is its clock alone
abbrev pub only_clock : Clock → Node
only_clock c = record { blocks = []; votes = []; clock = c }
