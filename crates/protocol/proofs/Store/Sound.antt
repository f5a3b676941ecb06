-- A sound node as a record of facts, and back. Assumes nothing.
use Rattle.protocol.proofs.Store.New.{apart}
use Prim.Native.Nat.{ℕ, ◌+◌, ◌*◌, ◌/◌, ◌≤◌, ◌<◌}
use mathlib.Core.Path.{◌≡◌, refl, sym, ap}
use mathlib.Core.Logic.{◌⊎◌, inl, inr}
use mathlib.Core.Bool.{Bool, true, false, not, ◌||◌}
use mathlib.Core.List.Memᴰ
use mathlib.Core.List.{List, [], ◌∷◌}
use native.Mathlib.Omega.{arith}
use lib.Dec.{leb, ltb}
use lib.ListN.{length}
use borrow.Author.Tests.{leb-true, lt-ltb, le-leb}
use Rattle.protocol.specs.Entry.{Block, Vote}
use Rattle.protocol.specs.declared.Clock.{Clock}
use Rattle.protocol.specs.declared.Profile.{Profile}
use Rattle.protocol.specs.declared.Settings.{Settings}
use Rattle.protocol.specs.Limits.{max_slot, loom, limits_of, keeping_to}
use Rattle.protocol.specs.Lists.{any_pass}
use Rattle.protocol.specs.Chain.{genesis, find, found_with}
use Rattle.protocol.specs.Store.{Marked, entries, view_of, same_vote, Places, Node, fresh}
use Rattle.protocol.specs.Sound.{in_range, blocks_sound, vote_sound, votes_sound, settings_sound, places_sound, clock_sound, sound}
use Rattle.protocol.specs.Calls.Receive.{vote_allowed}
use Rattle.protocol.proofs.Limits.{within-loom}
use Rattle.protocol.proofs.Basics.Tests.{facts, both, and_left, and_right}
use Rattle.protocol.proofs.Chain.Relations.{In, Known, Sound}
use Rattle.protocol.proofs.Filters.Relations.{Cast}
use Rattle.protocol.proofs.Store.Growth.{distinct}
use Rattle.protocol.proofs.Store.Follow.{all_follow, found-true, found-known, known-found, found-holds}
use Rattle.protocol.proofs.Store.Tables.{Table, table-true, table-holds, table-sound, table-slot, closed-sound}
use Rattle.protocol.proofs.Store.Views.{view-cases, view-here, view-there}

-- vote a is for a known block of no later slot
pub record VoteSound (n slot : ℕ) (bs : List Block) (a : Vote) : Type 0 where
  pub voter : a.voter < n
  pub real : 0 < a.slot
  pub early : a.slot ≤ slot
  pub on : (b : Block) × In b bs × (b.number ≡ a.number) × (b.slot ≤ a.slot)

pub vote-true : (n slot : ℕ) (bs : List Block) (a : Vote) → vote_allowed n slot bs a ≡ true → VoteSound n slot bs a
unfolding vote_allowed in_range
vote-true n slot bs a e =
    let y : found_with (λ b. leb b.slot a.slot) (find bs a.number) ≡ true = search facts in
    let r = found-true (λ b. leb b.slot a.slot) bs a.number y in
    let z : 1 ≤ a.slot = search facts in
    record { voter = search facts; real = z; early = search facts; on = (r.0, r.1, r.2, leb-true r.0.slot a.slot r.3) }

pub vote-holds : (n slot : ℕ) (bs : List Block) (a : Vote) → ((b c : Block) → In b bs → In c bs → b.number ≡ c.number → b ≡ c) → VoteSound n slot bs a → vote_allowed n slot bs a ≡ true
unfolding vote_allowed in_range
vote-holds n slot bs a unique v =
    let p = v.on in
    both (lt-ltb a.voter n v.voter) (both (both (le-leb 1 a.slot v.real) (le-leb a.slot slot v.early))
    (rw (sym p.2) (found-holds (λ c. leb c.slot a.slot) bs p.0 p.1 (λ d m q. le-leb d.slot a.slot (rw (ap (λ o. o.slot) (unique d p.0 m p.1 q)) p.3)))))

pub vote-later : {n slot later : ℕ} {bs cs : List Block} {a : Vote} → slot ≤ later → ((c : Block) → In c bs → In c cs) → VoteSound n slot bs a → VoteSound n later cs a
vote-later l f v = let p = v.on in record { voter = v.voter; real = v.real; early = omega (arith, v.early); on = (p.0, f p.0 p.1, p.2, p.3) }

pub record ClockSound (c : Clock) : Type 0 where
  pub limited : c.seen / 3 ≤ max_slot
  pub done-seen : c.done ≤ c.seen
  pub merged-done : c.merged * 3 + 2 ≤ c.done
  pub proposed-seen : c.proposed ≤ c.seen / 3

pub record Ranges (s : Settings) : Type 0 where
  pub some : 1 ≤ s.nodes
  pub few : s.nodes ≤ loom.nodes
  pub own : s.own < s.nodes
  pub expiry : 1 ≤ s.expiry
  pub depth : 1 ≤ s.depth

pub ranges : (s : Settings) → settings_sound s ≡ true → Ranges s
unfolding settings_sound in_range
ranges s e =
    let n : s.nodes ≤ (limits_of s.profile).nodes = search facts in
    record {
      some = search facts;
      few = omega (arith, (within-loom s.profile).nodes);
      own = search facts;
      expiry = search facts;
      depth = search facts;
    }

pub places-few : (p : Profile) (pl : Places) → places_sound (limits_of p) pl ≡ true → (pl.blocks ≤ loom.blocks) × (pl.votes ≤ loom.votes)
unfolding places_sound in_range
places-few p pl e =
    let a : pl.blocks ≤ (limits_of p).blocks = search facts in
    let b : pl.votes ≤ (limits_of p).votes = search facts in
    let w = within-loom p in
    (omega (arith, w.blocks), omega (arith, w.votes))

pub record IsSound (s : Settings) (pl : Places) (x : Node) : Type 0 where
  pub settings : settings_sound s ≡ true
  pub places : places_sound (limits_of s.profile) pl ≡ true
  pub fit-blocks : length x.blocks ≤ pl.blocks
  pub fit-votes : length x.votes ≤ pl.votes
  pub time : ClockSound x.clock
  pub blocks : Table (x.clock.seen / 3) x.blocks
  pub votes : (a : Vote) → Cast a (entries x.votes) → VoteSound s.nodes (x.clock.seen / 3) (entries x.blocks) a
  pub apart : distinct (entries x.votes) ≡ true
  pub closed-blocks : (c : Block) → In c (view_of x.blocks) → Known (view_of x.blocks) c.parent
  pub closed-votes : (a : Vote) → Cast a (view_of x.votes) → Known (view_of x.blocks) a.number

time-true : (c : Clock) → clock_sound c ≡ true → ClockSound c
unfolding clock_sound
time-true c e = record { limited = search facts; done-seen = search facts; merged-done = search facts; proposed-seen = search facts }

time-holds : (c : Clock) → ClockSound c → clock_sound c ≡ true
unfolding clock_sound
time-holds c t =
    both (le-leb (c.seen / 3) max_slot t.limited)
    (both (le-leb c.done c.seen t.done-seen) (both (le-leb (c.merged * 3 + 2) c.done t.merged-done) (le-leb c.proposed (c.seen / 3) t.proposed-seen)))

-- the votes, with their marks
pub record VotesSound (n slot : ℕ) (bs : List (Marked Block)) (ms : List (Marked Vote)) : Type 0 where
  pub each : (a : Vote) → Cast a (entries ms) → VoteSound n slot (entries bs) a
  pub apart : distinct (entries ms) ≡ true
  pub closed : (a : Vote) → Cast a (view_of ms) → Known (view_of bs) a.number

votes-true : (n slot : ℕ) (bs : List (Marked Block)) (ms : List (Marked Vote)) → votes_sound n slot bs ms ≡ true → VotesSound n slot bs ms
unfolding votes_sound entries apart
votes-true n slot bs [] e = unfold view_of in (record { each = λ a m. absurd (Memᴰ.not-nil m); apart = refl; closed = λ a m. absurd (Memᴰ.not-nil m) })
votes-true n slot bs (m ∷ ms) e =
    let V0 = votes-true n slot bs ms (and_right (not (any_pass (same_vote m.entry) (entries ms))) _ (and_right (vote_sound n slot bs m) _ e)) in
    record {
      each = λ a k. each V0 a (Memᴰ.cases_cons k);
      apart = both (and_left (not (any_pass (same_vote m.entry) (entries ms))) _ (and_right (vote_sound n slot bs m) _ e)) V0.apart;
      closed = λ a k. closed V0 a (view-cases m ms a k);
    }
  where
    each : VotesSound n slot bs ms → (a : Vote) → (a ≡ m.entry) ⊎ Cast a (entries ms) → VoteSound n slot (entries bs) a
    each o a (inl q) = rw q (vote-true n slot (entries bs) m.entry (allowed (and_left (vote_sound n slot bs m) _ e)))
      where
        allowed : vote_sound n slot bs m ≡ true → vote_allowed n slot (entries bs) m.entry ≡ true
        allowed h = unfold vote_sound vote_allowed in (
            let x : ltb m.entry.voter n ≡ true = search facts in
            let y : in_range 1 slot m.entry.slot ≡ true = search facts in
            let z : found_with (λ b. leb b.slot m.entry.slot) (find (entries bs) m.entry.number) ≡ true = search facts in
            both x (both y z))
    each o a (inr k) = o.each a k

    seen : m.viewed ≡ true → Known (view_of bs) m.entry.number
    seen s = unfold vote_sound in (
        let h : vote_sound n slot bs m ≡ true = and_left (vote_sound n slot bs m) _ e in
        let q : (not m.viewed || found_with (λ b. true) (find (view_of bs) m.entry.number)) ≡ true = search facts in
        known-found (view_of bs) m.entry.number (rw s at q))

    closed : VotesSound n slot bs ms → (a : Vote) → ((a ≡ m.entry) × (m.viewed ≡ true)) ⊎ Cast a (view_of ms) → Known (view_of bs) a.number
    closed o a (inl q) = rw q.0 (seen q.1)
    closed o a (inr k) = o.closed a k

pub votes-holds : (n slot : ℕ) (bs : List (Marked Block)) → Sound (entries bs) → (ms : List (Marked Vote)) → VotesSound n slot bs ms → votes_sound n slot bs ms ≡ true
unfolding votes_sound entries apart
votes-holds n slot bs S [] o = refl
votes-holds n slot bs S (m ∷ ms) o =
    both one (both (and_left (not (any_pass (same_vote m.entry) (entries ms))) _ o.apart)
    (votes-holds n slot bs S ms (record { each = λ a k. o.each a (Memᴰ.tail k); apart = and_right (not (any_pass (same_vote m.entry) (entries ms))) _ o.apart; closed = λ a k. o.closed a (view-there m ms a k) })))
  where
    mark : (t : Bool) → m.viewed ≡ t → (not t || found_with (λ b. true) (find (view_of bs) m.entry.number)) ≡ true
    mark false s = refl
    mark true s = found-known (view_of bs) m.entry.number (o.closed m.entry (view-here m ms m.entry refl s))

    one : vote_sound n slot bs m ≡ true
    one = unfold vote_sound vote_allowed in (
        let h : vote_allowed n slot (entries bs) m.entry ≡ true = vote-holds n slot (entries bs) m.entry S.unique (o.each m.entry (Memᴰ.head refl)) in
        let x : ltb m.entry.voter n ≡ true = search facts in
        let y : in_range 1 slot m.entry.slot ≡ true = search facts in
        let z : found_with (λ b. leb b.slot m.entry.slot) (find (entries bs) m.entry.number) ≡ true = search facts in
        both x (both y (both z (mark m.viewed refl))))

module _ (s : Settings) (pl : Places) (x : Node) where
  pub sound-true : sound s pl x ≡ true → IsSound s pl x
  unfolding sound
  sound-true e =
      let c : clock_sound x.clock ≡ true = search (and_left, and_right) depth 12 in
      let b : blocks_sound (x.clock.seen / 3) x.blocks ≡ true = search (and_left, and_right) depth 12 in
      let v : votes_sound s.nodes (x.clock.seen / 3) x.blocks x.votes ≡ true = search (and_left, and_right) depth 12 in
      let t = table-true (x.clock.seen / 3) x.blocks b in
      let o = votes-true s.nodes (x.clock.seen / 3) x.blocks x.votes v in
      record {
        settings = and_left (settings_sound s) _ e;
        places = search (and_left, and_right);
        fit-blocks = search facts depth 12;
        fit-votes = search facts depth 12;
        time = time-true x.clock c;
        blocks = t.0;
        votes = o.each;
        apart = o.apart;
        closed-blocks = t.1;
        closed-votes = o.closed;
      }

module _ {s : Settings} {pl : Places} {x : Node} (G : IsSound s pl x) where
  pub store-sound : Sound (entries x.blocks)
  store-sound = table-sound G.blocks

  pub start-viewed : In genesis (view_of x.blocks)
  start-viewed = G.blocks.viewed

  pub view-sound : Sound (view_of x.blocks)
  view-sound = closed-sound G.blocks G.closed-blocks

  pub sound-votes : VotesSound s.nodes (x.clock.seen / 3) x.blocks x.votes
  sound-votes = record { each = G.votes; apart = G.apart; closed = G.closed-votes }

  pub slot_seen : (c : Block) → In c (entries x.blocks) → c.slot ≤ x.clock.seen / 3
  slot_seen c m = table-slot G.blocks c m

  pub sound-holds : sound s pl x ≡ true
  unfolding sound
  sound-holds =
      both G.settings (both G.places (both (le-leb (length x.blocks) pl.blocks G.fit-blocks) (both (le-leb (length x.votes) pl.votes G.fit-votes)
      (both (time-holds x.clock G.time) (both (table-holds (x.clock.seen / 3) x.blocks G.blocks G.closed-blocks)
      (votes-holds s.nodes (x.clock.seen / 3) x.blocks store-sound x.votes sound-votes))))))

-- a fresh node is sound
pub fresh-sound : (s : Settings) (pl : Places) → settings_sound s ≡ true → places_sound (limits_of s.profile) pl ≡ true → IsSound s pl fresh
unfolding places_sound in_range entries view_of all_follow apart
fresh-sound s pl a b =
    let x : 1 ≤ pl.blocks = search facts in
    record {
      settings = a;
      places = b;
      fit-blocks = omega arith;
      fit-votes = omega arith;
      time = record { limited = omega arith; done-seen = omega arith; merged-done = omega arith; proposed-seen = omega arith };
      blocks = record { rest = []; is = refl; follow = refl; viewed = Memᴰ.head refl };
      votes = λ v m. absurd (Memᴰ.not-nil m);
      apart = refl;
      closed-blocks = λ c m. (genesis, Memᴰ.head refl, ap (λ o. o.parent) (sym (Memᴰ.eq_of_singleton m)));
      closed-votes = λ v m. absurd (Memᴰ.not-nil m);
    }

-- so it is sound with another profile's limits and other places too, where these are in range and it fits
pub sound-keeping-to : {s : Settings} {pl : Places} {x : Node} → IsSound s pl x → (profile : Profile) (pl' : Places) → settings_sound (keeping_to profile s) ≡ true
    → places_sound (limits_of profile) pl' ≡ true → length x.blocks ≤ pl'.blocks → length x.votes ≤ pl'.votes → IsSound (keeping_to profile s) pl' x
sound-keeping-to G profile pl' settings places b v = record {
  settings = settings;
  places = places;
  fit-blocks = b;
  fit-votes = v;
  time = G.time;
  blocks = G.blocks;
  votes = G.votes;
  apart = G.apart;
  closed-blocks = G.closed-blocks;
  closed-votes = G.closed-votes;
}
