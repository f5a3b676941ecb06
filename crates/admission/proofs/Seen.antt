-- The sets of first rows, an entry of the packet more; and what they are after all of them. Assumes nothing.
use Prim.Native.Nat.{ℕ, ◌+◌, ◌*◌, ◌≤◌, ◌<◌}
use mathlib.Core.Bool.{Bool, true, false, ◌||◌, or_assoc, or-false}
use mathlib.Core.List.{List, [], ◌∷◌}
use mathlib.Core.Path.{◌≡◌, refl, ap, sym, ◌∙◌}
use native.Mathlib.Omega.{arith}
use lib.Dec.{eqb}
use lib.ListN.{length, get_or, take, replicate}
use lib.Seq.{take_all}
use Rattle.protocol.specs.Entry.{Vote}
use Rattle.protocol.specs.Lists.{any_pass}
use Rattle.protocol.specs.Chain.{genesis}
use Rattle.protocol.specs.Store.{same_vote}
use Rattle.protocol.specs.Packet.{packet_of}
use Rattle.protocol.specs.Lent.{rows_of, make_block, make_vote}
use Rattle.protocol.proofs.Basics.Members.{any_append}
use Rattle.packets.specs.Header.{no_vote}
use Rattle.packets.proofs.Turns.{front-entry}
use Rattle.rows.specs.Rows.{row_at}
use Rattle.search_tree.specs.Tree.{Points}
use Rattle.bitset.specs.Bitset.{inserted}
use Rattle.bitset.proofs.Bitset.{none_in}
use Rattle.index.specs.declared.Key.{Key}
use Rattle.index.specs.Keys.{number_key, vote_key, same_key}
use Rattle.index.specs.Links.{block_keys, vote_keys, numbers_differ, votes_differ}
use Rattle.index.specs.Firsts.{first_row, block_new, vote_new, is_block, is_voted, is_vote, named, BlocksNew, BlocksNamed, VotesNew, VotesNamed}
use Rattle.index.proofs.Tables.{number-keys, vote-keys}
use Rattle.index.proofs.Joined.{block_row, vote-row, blocks-apart, votes-apart}
use Rattle.index.proofs.Firsts.{first-most, first_found, names-next, news-none, news-next, news-named}
use Rattle.admission.specs.Seen.{BlocksSeen, VotedSeen, VotesSeen}
use Rattle.admission.proofs.Links.{block-key, vote-key, block_new_lem, vote-new}

-- a test of some of the first i + 1 entries
any-more : {A : Type 0} (p : A → Bool) (xs : List A) (d : A) (i : ℕ) → i < length xs → any_pass p (take (i + 1) xs) ≡ (any_pass p (take i xs) || p (get_or xs i d))
unfolding any_pass
any-more p xs d i h =
    ap (any_pass p) (front-entry xs d i h refl) ∙ any_append p (take i xs) (get_or xs i d ∷ []) ∙ ap (λ (b : Bool). any_pass p (take i xs) || b) (or-false (p (get_or xs i d)))

any_none : {A : Type 0} (p : A → Bool) (xs : List A) → any_pass p (take 0 xs) ≡ false
unfolding any_pass
any_none p xs = refl

module _ (ws : List ℕ) (used : ℕ) (bytes : List ℕ) where
  -- ---- blocks

  module _ (differ : numbers_differ (rows_of make_block ws used) ≡ true) where
    abbrev key : ℕ → Key
    key = block_keys ws used bytes

    -- row j has the number x
    row_number : (j x : ℕ) → j < used → eqb (row_at make_block ws j).entry.number x ≡ same_key (key j) (number_key x)
    row_number j x h = number-keys (row_at make_block ws j).entry.number x ∙ ap (λ (k : Key). same_key k (number_key x)) (block_row ws used bytes j h)

    pub blocks-next : (i link : ℕ) (set set' : List ℕ) → i < length (packet_of bytes).blocks → Points key (used + i) (key (used + i)) link
        → used + i < 64 * length set → set' ≡ inserted set (first_row (used + i) link) → BlocksSeen ws used bytes i set → BlocksSeen ws used bytes (i + 1) set'
    blocks-next i link set set' h s l e x =
        let bs = (packet_of bytes).blocks in
        record {
          rows = names-next used (used + i) (key (used + i)) s (omega arith) (blocks-apart ws used bytes differ)
              (λ j k. any-more (λ c. eqb (row_at make_block ws j).entry.number c.number) bs genesis i h
              ∙ ap (λ (b : Bool). is_block ws used bytes i j || b) (row_number j (get_or bs i genesis).number k ∙ ap (same_key (key j)) (sym (block-key ws used bytes i))))
              set set' (omega (arith, first-most link s, l)) e x.rows;
          news = news-next key used (length bs) (block_new ws used bytes) (λ m p k q. block_new_lem ws used bytes m (omega arith) p q) x.news h link s l e;
        }

    pub voted-next : (i : ℕ) (v : Vote) (n link : ℕ) (set set' : List ℕ) → i < length (packet_of bytes).votes → v ≡ get_or (packet_of bytes).votes i no_vote
        → n ≡ length (packet_of bytes).blocks → Points key (used + n) (number_key v.number) link → (link ≡ 0 → ⊥)
        → used + n ≤ 64 * length set → set' ≡ inserted set (first_row (used + n) link) → VotedSeen ws used bytes i set → VotedSeen ws used bytes (i + 1) set'
    voted-next i v n link set set' h r z s f l e x =
        let vs = (packet_of bytes).votes in
        let bs = (packet_of bytes).blocks in
        record {
          rows = names-next used (used + n) (number_key v.number) s (omega arith) (blocks-apart ws used bytes differ)
              (λ j k. ap (λ (b : Bool). is_block ws used bytes (length bs) j || b)
              (any-more (λ a. eqb (row_at make_block ws j).entry.number a.number) vs no_vote i h
              ∙ ap (λ (b : Bool). is_voted ws used bytes i j || b) (ap (λ (a : Vote). eqb (row_at make_block ws j).entry.number a.number) (sym r) ∙ row_number j v.number k))
              ∙ sym (or_assoc (is_block ws used bytes (length bs) j) (is_voted ws used bytes i j) (same_key (key j) (number_key v.number))))
              set set' (omega (arith, first_found link s f, l)) e x.rows;
          news = news-named key used (length bs) (block_new ws used bytes) (λ m p k q. block_new_lem ws used bytes m (omega arith) p q) x.news (omega arith) (number_key v.number) link
              (rw z at s) f (omega arith) (e ∙ ap (λ (m : ℕ). inserted set (first_row (used + m) link)) z);
        }

  pub blocks-begin : (w : ℕ) → BlocksSeen ws used bytes 0 (replicate w 0)
  blocks-begin w =
      record {
        rows = λ j h. none_in w j ∙ sym (any_none (λ c. eqb (row_at make_block ws j).entry.number c.number) (packet_of bytes).blocks);
        news = news-none (block_keys ws used bytes) used (length (packet_of bytes).blocks) (block_new ws used bytes) (λ m p k q. block_new_lem ws used bytes m (omega arith) p q) w;
      }

  pub voted-begin : (set : List ℕ) → BlocksSeen ws used bytes (length (packet_of bytes).blocks) set → VotedSeen ws used bytes 0 set
  voted-begin set x =
      record {
        rows = λ j h. x.rows j h ∙ sym (ap (λ (b : Bool). is_block ws used bytes (length (packet_of bytes).blocks) j || b)
            (any_none (λ a. eqb (row_at make_block ws j).entry.number a.number) (packet_of bytes).votes) ∙ or-false (is_block ws used bytes (length (packet_of bytes).blocks) j));
        news = x.news;
      }

  -- after all entries
  module _ (set : List ℕ) (x : VotedSeen ws used bytes (length (packet_of bytes).votes) set) where
    pub blocks-new : BlocksNew ws used bytes set
    blocks-new = x.news.seen

    pub blocks-named : BlocksNamed ws used bytes set
    unfolding named
    blocks-named j h =
        let bs = (packet_of bytes).blocks in
        let vs = (packet_of bytes).votes in
        x.rows j h ∙ rw (take_all (length bs) bs (omega arith), take_all (length vs) vs (omega arith))

  -- ---- votes

  module _ (differ : votes_differ (rows_of make_vote ws used) ≡ true) where
    pub votes-next : (i link : ℕ) (set set' : List ℕ) → i < length (packet_of bytes).votes
        → Points (vote_keys ws used bytes) (used + i) (vote_keys ws used bytes (used + i)) link
        → used + i < 64 * length set → set' ≡ inserted set (first_row (used + i) link) → VotesSeen ws used bytes i set → VotesSeen ws used bytes (i + 1) set'
    votes-next i link set set' h s l e x =
        let key = vote_keys ws used bytes in
        let vs = (packet_of bytes).votes in
        record {
          rows = names-next used (used + i) (key (used + i)) s (omega arith) (votes-apart ws used bytes differ)
              (λ j k. any-more (same_vote (row_at make_vote ws j).entry) vs no_vote i h
              ∙ ap (λ (b : Bool). is_vote ws used bytes i j || b)
              (vote-keys (row_at make_vote ws j).entry (get_or vs i no_vote) ∙ ap (λ (m : Key). same_key m (vote_key (get_or vs i no_vote))) (vote-row ws used bytes j k) ∙ ap (same_key (key j)) (sym (vote-key ws used bytes i))))
              set set' (omega (arith, first-most link s, l)) e x.rows;
          news = news-next key used (length vs) (vote_new ws used bytes) (λ m p k q. vote-new ws used bytes m (omega arith) p q) x.news h link s l e;
        }

  pub votes-begin : (w : ℕ) → VotesSeen ws used bytes 0 (replicate w 0)
  votes-begin w =
      record {
        rows = λ j h. none_in w j ∙ sym (any_none (same_vote (row_at make_vote ws j).entry) (packet_of bytes).votes);
        news = news-none (vote_keys ws used bytes) used (length (packet_of bytes).votes) (vote_new ws used bytes) (λ m p k q. vote-new ws used bytes m (omega arith) p q) w;
      }

  module _ (set : List ℕ) (x : VotesSeen ws used bytes (length (packet_of bytes).votes) set) where
    pub votes-new : VotesNew ws used bytes set
    votes-new = x.news.seen

    pub votes-named : VotesNamed ws used bytes set
    votes-named j h = let vs = (packet_of bytes).votes in x.rows j h ∙ rw (take_all (length vs) vs (omega arith))
