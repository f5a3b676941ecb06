-- What a sound node's tables give: its blocks by rows, voters that fit a word, votes for known blocks; and what the words of the pass are and weigh. Assumes nothing.
use Prim.Native.Nat.{ℕ, ◌+◌, ◌/◌, ◌≤◌, ◌<◌}
use mathlib.Core.Bool.{Bool, true, false, not, ◌&&◌}
use Rattle.std.specs.Prelude.{Option}
use mathlib.Core.List.{List}
use mathlib.Core.Path.{◌≡◌, refl, ap, sym, ◌∙◌}
use native.Mathlib.Numerals.{add-one}
use native.Mathlib.Omega.{arith}
use lib.Dec.{leb}
use lib.ListN.{get_or}
use borrow.Author.Tests.{leb-true}
use Rattle.protocol.proofs.Basics.Tests.{and_left, and_right}
use Rattle.protocol.specs.Limits.{loom, limits_of}
use Rattle.protocol.specs.declared.Profile.{Profile}
use Rattle.protocol.specs.declared.Profile.TheVariants.{Loom, Rack}
use Rattle.protocol.specs.declared.Settings.{Settings}
use Rattle.protocol.specs.declared.Vote as code
use Rattle.protocol.specs.Entry.{Block, Vote}
use Rattle.protocol.specs.Store.{entries, view_of, Places, Node}
use Rattle.protocol.specs.Sound.{in_range, places_sound}
use Rattle.protocol.specs.Lent.{Lent, BlocksFit, VotesFit, rows_of, make_block, make_vote, places_of, node_of, lent_sound}
use Rattle.protocol.specs.Chain.{genesis}
use Rattle.protocol.specs.Filters.{chosen, kept_choice}
use Rattle.protocol.specs.SettledWalk.{heard_at}
use Rattle.protocol.specs.Words.{bit_of}
use Rattle.protocol.specs.Walk.{walk, weight_at, head_block, base_block}
use Rattle.protocol.proofs.Basics.Members.{same_refl}
use Rattle.protocol.proofs.Chain.Relations.{In, Known, Sound}
use Rattle.protocol.proofs.Filters.Kept.{kept-is}
use Rattle.protocol.proofs.Filters.Relations.{Cast}
use Rattle.protocol.proofs.Store.Sound.{IsSound, VoteSound, vote-later, sound-true, sound-holds, ranges, places-few}
use Rattle.protocol.proofs.Store.Growth.{table-later}
use Rattle.protocol.proofs.Store.Tables.{table-holds}
use Rattle.protocol.proofs.Store.Views.{view-stored}
use Rattle.protocol.proofs.Walk.Best.{walk_is, walk-one, walk-known}
use Rattle.protocol.proofs.Walk.Sameness.{walk-to}
use Rattle.protocol.proofs.Settled.Sameness.{heard-without}
use Rattle.protocol.proofs.Lent.Memory.{lent-true, lent-used}
use Rattle.protocol.proofs.Lent.Rows.{length-rows_of, blocks-fit, votes-fit}
use Rattle.rows.specs.Rows.{row_at}
use Rattle.vote_filters.specs.Latest.{selected, votes_of, VotersFit, Kept}
use Rattle.subtree_voters.specs.BlockRows.{block_at, blocks_of, BlocksSound}
use Rattle.subtree_voters.specs.Subtrees.{Subtrees}
use Rattle.fork_choice.specs.Walks.{weight_in}
use Rattle.fork_choice.specs.declared.Tables.{Tables}
use Rattle.fork_choice.specs.Tables.{TablesSound, most_places, latest_clock, AreSound}
use Rattle.fork_choice.specs.Weights.{Supporters, heard_at_row, Counted}
use Rattle.vote_filters.proofs.Selected.{entry_in}
use Rattle.fork_choice.proofs.Held.{Held, held, is_in, Stands, listed, row_is, by_number}
use Rattle.fork_choice.proofs.Weights.{Weighed, row-voters, word_count, word-weight, all-heard}

module _ {s : Settings} {bw : List ℕ} {bu : ℕ} {vw : List ℕ} {vu : ℕ} (T : TablesSound s bw bu vw vu) where
  abbrev node : Node
  node = record { blocks = rows_of make_block bw bu; votes = rows_of make_vote vw vu; clock = T.clock }

  good : IsSound s T.places node
  good = sound-true s T.places node T.is-sound

  -- ---- blocks

  pub blocks-sound : BlocksSound bw bu
  blocks-sound = (T.clock.seen / 3, table-holds (T.clock.seen / 3) (rows_of make_block bw bu) good.blocks good.closed-blocks)

  pub blocks-held : (w : Bool) → Held w bw bu
  blocks-held w = held w bw bu blocks-sound

  pub few : (bu ≤ loom.blocks) × (s.nodes ≤ loom.nodes) × (1 ≤ s.nodes)
  few =
      let r = ranges s good.settings in
      let p = places-few s.profile T.places good.places in
      let l = good.fit-blocks in
      let e = length-rows_of make_block bw bu in
      (omega (arith, p.0), r.few, r.some)

  -- ---- votes

  pub few-votes : vu ≤ loom.votes
  few-votes =
      let p = places-few s.profile T.places good.places in
      let l = good.fit-votes in
      let e = length-rows_of make_vote vw vu in
      omega (arith, p.1)

  vote-sound : (w : Bool) (a : Vote) → Cast a (votes_of w vw vu) → VoteSound s.nodes (T.clock.seen / 3) (entries (rows_of make_block bw bu)) a
  unfolding selected
  vote-sound true a m = good.votes a m
  vote-sound false a m = good.votes a (view-stored (rows_of make_vote vw vu) a m)

  -- votes are for selected blocks
  vote-known : (w : Bool) (a : Vote) → Cast a (votes_of w vw vu) → Known (blocks_of w bw bu) a.number
  unfolding selected
  vote-known true a m = let o = (good.votes a m).on in (o.0, o.1, o.2)
  vote-known false a m = good.closed-votes a m

  pub vote-real : (w : Bool) (a : Vote) → Cast a (votes_of w vw vu) → 0 < a.slot
  vote-real w a m = (vote-sound w a m).real

  pub voters-fit : VotersFit vw vu
  voters-fit i l = omega (arith, (vote-sound true (row_at make_vote vw i).entry (entry_in make_vote true vw vu i l refl)).voter, few.1)

  kept-known : (w : Bool) (E t v x : ℕ) → kept_choice (votes_of w vw vu) E t v ≡ chosen x → Known (blocks_of w bw bu) x × (v < s.nodes)
  kept-known w E t v x e =
      let k = kept-is (votes_of w vw vu) E t v x e in
      let a = k.1 in
      let n = vote-known w a.0 a.1.mem in
      ((n.0, n.1, n.2 ∙ a.2), omega (arith, (vote-sound w a.0 a.1.mem).voter, a.1.by))

  -- ---- the words, and their weights

  pub words_are : (w : Bool) (E t : ℕ) {kept : List (Option code.Vote)} {masks : List ℕ} → Kept (votes_of w vw vu) E t kept → Subtrees bw bu kept 1 masks
      → Supporters w bw bu vw vu E t masks
  words_are w E t K S = record {
    each = λ j l. row-voters (blocks-held w) (λ v. kept_choice (votes_of w vw vu) E t v) S (λ v h. K.each v h) (λ v x e. (kept-known w E t v x e).0) j l;
  }

  pub words-weigh : (w : Bool) (E t : ℕ) {masks : List ℕ} → Supporters w bw bu vw vu E t masks → Weighed w bw bu vw vu s.nodes E t masks
  unfolding weight_at
  words-weigh w E t W = record {
    each = λ j l. word-weight (blocks_of w bw bu) (λ v. kept_choice (votes_of w vw vu) E t v) s.nodes (block_at bw j).number (W.each j l) few.1 (λ v x e. (kept-known w E t v x e).1);
  }

  -- without the silent
  pub words-heard : (w : Bool) (E t silent : ℕ) {masks : List ℕ} → Supporters w bw bu vw vu E t masks → (j : ℕ) → j < bu
      → heard_at_row silent masks j ≡ heard_at (blocks_of w bw bu) (votes_of w vw vu) s.nodes E t (bit_of silent) (block_at bw j).number
  words-heard w E t silent W j l =
      word_count (blocks_of w bw bu) (λ v. kept_choice (votes_of w vw vu) E t v) s.nodes (block_at bw j).number (λ v. not (bit_of silent v)) (W.each j l) few.1
      (λ v x e. (kept-known w E t v x e).1)
      ∙ sym (heard-without (blocks_of w bw bu) (votes_of w vw vu) s.nodes E t (bit_of silent) (block_at bw j).number)

  -- weights by rows are the weights of the blocks
  pub rows-weigh : (w : Bool) (u : ℕ → ℕ) (weights : List ℕ) → ((j : ℕ) → j < bu → get_or weights j 0 ≡ u (block_at bw j).number)
      → (c : Block) → In c (blocks_of w bw bu) → weight_in bw bu weights c.number ≡ u c.number
  rows-weigh w u weights f c m = at (listed w bw bu c m)
    where
      at : Stands w bw bu c → weight_in bw bu weights c.number ≡ u c.number
      at (i, l, q, e) = rw e (ap (λ (j : ℕ). get_or weights j 0) (row_is (blocks-held w) i l) ∙ f i l)

  -- the walk by the weights of the words is the walk by the weights of the blocks
  pub walk-weighed : (w : Bool) (E t lim : ℕ) {masks weights : List ℕ} → Supporters w bw bu vw vu E t masks → Counted 0 masks bu weights
      → walk (weight_in bw bu weights) (blocks_of w bw bu) lim ≡ walk (weight_at (blocks_of w bw bu) (votes_of w vw vu) s.nodes E t) (blocks_of w bw bu) lim
  walk-weighed w E t lim {masks} {weights} W C =
      walk-one (weight_at (blocks_of w bw bu) (votes_of w vw vu) s.nodes E t) S lim
      (walk-to (same_refl Block (blocks_of w bw bu))
      (rows-weigh w (weight_at (blocks_of w bw bu) (votes_of w vw vu) s.nodes E t) weights (λ j l. C.each j l ∙ all-heard (get_or masks j 0) ∙ (words-weigh w E t W).each j l))
      (walk_is (weight_in bw bu weights) S lim))
      (walk_is (weight_at (blocks_of w bw bu) (votes_of w vw vu) s.nodes E t) S lim)
    where
      S : Sound (blocks_of w bw bu)
      S = (blocks-held w).sound

-- the leaf of a walk is selected
pub leaf-in : {w : Bool} {ws : List ℕ} {n : ℕ} → Held w ws n → (W : ℕ → ℕ) (lim a : ℕ) → a < n → (block_at ws a).number ≡ walk W (blocks_of w ws n) lim → is_in w ws a ≡ true
leaf-in H W lim a h e =
    let k = walk-known (genesis, H.sound.start, refl) (walk_is W H.sound lim) in
    (by_number H k.0 a k.1 h (k.2 ∙ sym e)).1

-- ---- as the definitions have it

pub head-number : (bw : List ℕ) (bu : ℕ) (vw : List ℕ) (vu n E t : ℕ) {r : ℕ} → r ≡ walk (weight_at (blocks_of false bw bu) (votes_of false vw vu) n E t) (blocks_of false bw bu) (t + 1)
    → r ≡ head_block (view_of (rows_of make_block bw bu)) (view_of (rows_of make_vote vw vu)) n E t
unfolding selected head_block
head-number bw bu vw vu n E t e = e ∙ rw (add-one t)

pub base-number : (bw : List ℕ) (bu : ℕ) (vw : List ℕ) (vu n E t : ℕ) {r : ℕ} → r ≡ walk (weight_at (blocks_of true bw bu) (votes_of true vw vu) n E t) (blocks_of true bw bu) t
    → r ≡ base_block (entries (rows_of make_block bw bu)) (entries (rows_of make_vote vw vu)) n E t
unfolding selected base_block
base-number bw bu vw vu n E t e = e

-- ---- from the test that the node makes

pub lent-tables : (s : Settings) (m : Lent) → lent_sound s m ≡ true → TablesSound s m.blocks m.blocks_used m.votes m.votes_used
unfolding node_of places_of
lent-tables s m e =
    let u = lent-used s m e in
    record {
      places = places_of m;
      clock = m.clock;
      blocks-fit = blocks-fit m.blocks m.blocks_used u.0;
      votes-fit = votes-fit m.votes m.votes_used u.1;
      is-sound = (lent-true s m e).node;
    }

-- ---- with the most places and the latest clock

tables-sound : {s : Settings} {bw : List ℕ} {bu : ℕ} {vw : List ℕ} {vu : ℕ} → BlocksFit bu bw → VotesFit vu vw → AreSound s bw bu vw vu → TablesSound s bw bu vw vu
tables-sound {s} f g e = record { places = most_places s.profile; clock = latest_clock; blocks-fit = f; votes-fit = g; is-sound = e }

pub sound-of : (t : Tables) → TablesSound t.settings t.blocks.words.now t.blocks.used t.votes.words.now t.votes.used
sound-of t = tables-sound t.blocks.fit t.votes.fit t.sound

most : (p : Profile) → places_sound (limits_of p) (most_places p) ≡ true
unfolding places_sound in_range limits_of
most Loom = refl
most Rack = refl

within-most : (p : Profile) (pl : Places) → places_sound (limits_of p) pl ≡ true → (pl.blocks ≤ (limits_of p).blocks) × (pl.votes ≤ (limits_of p).votes)
unfolding places_sound in_range
within-most p pl e =
    let l = limits_of p in
    let b = and_left (leb 1 pl.blocks && leb pl.blocks l.blocks) _ e in
    let v = and_right (leb 1 pl.blocks && leb pl.blocks l.blocks) _ e in
    (leb-true pl.blocks l.blocks (and_right (leb 1 pl.blocks) _ b), leb-true pl.votes l.votes (and_right (leb 1 pl.votes) _ v))

pub are-sound : {s : Settings} {bw : List ℕ} {bu : ℕ} {vw : List ℕ} {vu : ℕ} → TablesSound s bw bu vw vu → AreSound s bw bu vw vu
are-sound {s} {bw} {bu} {vw} {vu} T = sound-holds {s = s} {pl = most_places s.profile} {x = x} (record {
  settings = G.settings;
  places = most s.profile;
  fit-blocks = omega (arith, G.fit-blocks, m.0);
  fit-votes = omega (arith, G.fit-votes, m.1);
  time = record { limited = omega arith; done-seen = omega arith; merged-done = omega arith; proposed-seen = omega arith };
  blocks = table-later (latest_clock.seen / 3) late G.blocks;
  votes = λ a c. vote-later late (λ b q. q) (G.votes a c);
  apart = G.apart;
  closed-blocks = G.closed-blocks;
  closed-votes = G.closed-votes;
})
  where
    G : IsSound s T.places (record { blocks = rows_of make_block bw bu; votes = rows_of make_vote vw vu; clock = T.clock })
    G = good T

    x : Node
    x = record { blocks = rows_of make_block bw bu; votes = rows_of make_vote vw vu; clock = latest_clock }

    m : (T.places.blocks ≤ (limits_of s.profile).blocks) × (T.places.votes ≤ (limits_of s.profile).votes)
    m = within-most s.profile T.places G.places

    late : T.clock.seen / 3 ≤ latest_clock.seen / 3
    late = omega (arith, G.time.limited)
