-- The premises of reorg resilience as tests of a world, which a concrete run passes by computation. Each test comes with
-- the law that what passes it meets the premise. Assumes nothing.
use Prim.Native.Nat.{ℕ, zero, suc, ◌+◌, ◌*◌, ◌/◌, ◌%◌, ◌≤◌, ◌<◌}
use mathlib.Core.Path.{◌≡◌, refl, sym, ap, ◌∙◌}
use mathlib.Core.Logic.{◌⊎◌, inl, inr, ⊎_elim}
use mathlib.Core.Bool.{Bool, true, false, not, ◌&&◌, ◌||◌, cond, false≢true}
use mathlib.Core.List.Memᴰ
use mathlib.Core.List.{List, [], ◌∷◌, ◌++◌, Memᴰ}
use native.Mathlib.Omega.{arith}
use lib.Dec.{eqb, leb, ltb, T}
use borrow.Author.Tests.{eqb-true, eqb-false, ne_eqb, eq-eqb, not-true, lt-ltb, le-leb, ltb-true}
use Rattle.protocol.specs.Entry.{Block, Vote}
use Rattle.protocol.specs.Lists.{any_pass, all_pass, Same}
use Rattle.protocol.specs.Store.{same_block, same_vote}
use Rattle.protocol.specs.Walk.{count_below}
use Rattle.protocol.specs.Packet.{Packet, packet_of, is_proposal}
use Rattle.protocol.specs.Refusal.{Answer, refused, done}
use Rattle.protocol.specs.Calls.Open.{open_node}
use Rattle.protocol.proofs.Basics.Tests.{facts, both, and_left, and_right, clashing}
use Rattle.protocol.proofs.Basics.Members.{any-true, any-holds, all_true}
use Rattle.protocol.proofs.Store.Views.{block_same, vote-same}
use Rattle.resilience.specs.Run.{Network, World, Event, woke, voted, built, sent, given, lacked, turned_away, is_honest, settings, all_below, carried}
use Rattle.resilience.specs.Resilience.{Opened, Gives, by-packet, by-proposer, OneBlock, AtOrAbove, here, on_parent, Unforged, Enough, EnoughForHonest, Delivered, DeliveredAt, Majority, voters, opposed}
use Rattle.resilience.proofs.Witness.Events.{row, is-kind, same_bytes, bytes_same, same_bytes_lem, only, only-in}

-- ---- "if a then b" as a test

abbrev pub implies : Bool → Bool → Bool
implies a b = not a || b

pub implied : (a b : Bool) → implies a b ≡ true → a ≡ true → b ≡ true
implied true b h e = h
implied false b h e = absurd (false≢true e)

holds-true : (b : Bool) → T b → b ≡ true
holds-true true h = refl
holds-true false h = absurd h

pub below_true : (p : ℕ → Bool) (m : ℕ) → all_below p m ≡ true → (i : ℕ) → i < m → p i ≡ true
unfolding all_below
below_true p zero h i l = absurd (omega arith)
below_true p (suc m) h i l = go (eqb i m) refl (λ k. below_true p m (and_right (p m) (all_below p m) h) i k)
  where
    go : (t : Bool) → eqb i m ≡ t → (i < m → p i ≡ true) → p i ≡ true
    go true e rec = ap p (eqb-true i m e) ∙ and_left (p m) (all_below p m) h
    go false e rec = let ne = eqb-false i m e in rec (omega (arith, ne))

-- ---- freshly opened nodes

unfoldable pub opened_test : Network → Bool
opened_test N = all_below (λ i. implies (is_honest N i) (carried (open_node (settings N i) (N.places i) (N.before i)).answer)) N.nodes

pub carried-done : {A : Type 0} (r : Answer A) → carried r ≡ true → (a : A) × (r ≡ done a)
carried-done (refused k) h = absurd (false≢true h)
carried-done (done a) h = (a, refl)

pub opened-true : (N : Network) → opened_test N ≡ true → Opened N
unfolding opened_test Opened
opened-true N h i honest =
    let b = holds-true (is_honest N i) honest in
    (carried-done _ (implied (is_honest N i) _ (below_true _ N.nodes h i (ltb-true i N.nodes (and_left _ _ b))) b)).1

-- ---- nothing forged

-- what holds of each accepted packet and of the events before it
abbrev pub Accepted : (List Event → Packet → Type 0) → List Event → Type 0
Accepted P log =
    (newer older : List Event) (beat i : ℕ) (bytes : List ℕ) → log ≡ newer ++ (given beat i bytes true ∷ older) → P older (packet_of bytes)

unfoldable pub accepted_test : (List Event → Packet → Bool) → List Event → Bool
accepted_test test [] = true
accepted_test test (e ∷ older) =
    implies (eqb (row e).kind 4 && (row e).accepted) (test older (packet_of (row e).bytes)) && accepted_test test older

accepted-at : (test : List Event → Packet → Bool) (newer older : List Event) (beat i : ℕ) (bytes : List ℕ) →
    accepted_test test (newer ++ (given beat i bytes true ∷ older)) ≡ true → test older (packet_of bytes) ≡ true
unfolding accepted_test
accepted-at test [] older beat i bytes h = and_left (test older (packet_of bytes)) _ h
accepted-at test (e ∷ newer) older beat i bytes h =
    accepted-at test newer older beat i bytes (and_right (implies (eqb (row e).kind 4 && (row e).accepted) _) _ h)

pub accepted-true : (test : List Event → Packet → Bool) (P : List Event → Packet → Type 0) →
    ((earlier : List Event) (p : Packet) → test earlier p ≡ true → P earlier p) →
    (log : List Event) → accepted_test test log ≡ true → Accepted P log
accepted-true test P f log h newer older beat i bytes e =
    f older (packet_of bytes) (accepted-at test newer older beat i bytes (ap (accepted_test test) (sym e) ∙ h))

-- The three parts of Genuine, each alone.
abbrev pub GenuineBlocks : Network → List Event → Packet → Type 0
GenuineBlocks N earlier p =
    (b : Block) → Memᴰ b p.blocks → T (is_honest N (b.slot % N.nodes)) →
    (beat : ℕ) × (beat / 3 ≡ b.slot) × Memᴰ (built beat (b.slot % N.nodes) b.number b.parent) earlier

abbrev pub GenuineVotes : Network → List Event → Packet → Type 0
GenuineVotes N earlier p =
    (a : Vote) → Memᴰ a p.votes → T (is_honest N a.voter) →
    (beat : ℕ) × (beat / 3 ≡ a.slot) × Memᴰ (voted beat a.voter a.number) earlier

abbrev pub GenuineProposal : Network → List Event → Packet → Type 0
GenuineProposal N earlier p =
    is_proposal p.kind ≡ true → T (is_honest N (p.slot % N.nodes)) →
    (beat : ℕ) × (bytes : List ℕ) × Memᴰ (sent beat (p.slot % N.nodes) bytes) earlier
    × (is_proposal (packet_of bytes).kind ≡ true) × ((packet_of bytes).slot ≡ p.slot) × ((packet_of bytes).number ≡ p.number)
    × Same Block (packet_of bytes).blocks p.blocks × Same Vote (packet_of bytes).votes p.votes

pub unforged : (N : Network) (log : List Event) →
    Accepted (GenuineBlocks N) log → Accepted (GenuineVotes N) log → Accepted (GenuineProposal N) log → Unforged N log
unfolding Unforged
unforged N log bs vs ps newer older beat i bytes e =
    record {
      blocks = bs newer older beat i bytes e;
      votes = vs newer older beat i bytes e;
      proposal = ps newer older beat i bytes e;
    }

unfoldable pub blocks_test : Network → List Event → Packet → Bool
unfolding only
blocks_test N earlier p =
    let made = only 2 earlier in
    all_pass (λ b. implies (is_honest N (b.slot % N.nodes))
    (any_pass (λ e. eqb (row e).kind 2 && (eqb ((row e).beat / 3) b.slot && (eqb (row e).node (b.slot % N.nodes)
    && (eqb (row e).number b.number && eqb (row e).parent b.parent)))) made)) p.blocks

pub blocks-true : (N : Network) (earlier : List Event) (p : Packet) → blocks_test N earlier p ≡ true → GenuineBlocks N earlier p
unfolding blocks_test
blocks-true N earlier p h b m honest =
    let r = any-true _ (only 2 earlier) (implied (is_honest N (b.slot % N.nodes)) _ (all_true _ h b m) (holds-true _ honest)) in
    let e = r.0 in
    let t = r.2 in
    let k = is-kind 2 e (and_left (eqb (row e).kind 2) _ t) in
    let s : (row e).beat / 3 ≡ b.slot = search (facts, t) in
    let i : (row e).node ≡ b.slot % N.nodes = search (facts, t) in
    let x : (row e).number ≡ b.number = search (facts, t) in
    let y : (row e).parent ≡ b.parent = search (facts, t) in
    let q : e ≡ built (row e).beat (b.slot % N.nodes) b.number b.parent = cc in
    ((row e).beat, s, rw (sym q) (only-in 2 earlier e r.1))

unfoldable pub votes_test : Network → List Event → Packet → Bool
unfolding only
votes_test N earlier p =
    let made = only 1 earlier in
    all_pass (λ a. implies (is_honest N a.voter)
    (any_pass (λ e. eqb (row e).kind 1 && (eqb ((row e).beat / 3) a.slot && (eqb (row e).node a.voter
    && eqb (row e).number a.number))) made)) p.votes

pub votes-true : (N : Network) (earlier : List Event) (p : Packet) → votes_test N earlier p ≡ true → GenuineVotes N earlier p
unfolding votes_test
votes-true N earlier p h a m honest =
    let r = any-true _ (only 1 earlier) (implied (is_honest N a.voter) _ (all_true _ h a m) (holds-true _ honest)) in
    let e = r.0 in
    let t = r.2 in
    let k = is-kind 1 e (and_left (eqb (row e).kind 1) _ t) in
    let s : (row e).beat / 3 ≡ a.slot = search (facts, t) in
    let i : (row e).node ≡ a.voter = search (facts, t) in
    let x : (row e).number ≡ a.number = search (facts, t) in
    let q : e ≡ voted (row e).beat a.voter a.number = cc in
    ((row e).beat, s, rw (sym q) (only-in 1 earlier e r.1))

-- lists with the same members
module _ {A : Type 0} where
  unfoldable pub same_members : (A → A → Bool) → List A → List A → Bool
  same_members same xs ys = all_pass (λ a. any_pass (same a) ys) xs && all_pass (λ a. any_pass (same a) xs) ys

  within-true : (same : A → A → Bool) → ((a b : A) → same a b ≡ true → a ≡ b) →
      (xs ys : List A) → all_pass (λ a. any_pass (same a) ys) xs ≡ true → (a : A) → Memᴰ a xs → Memᴰ a ys
  within-true same f xs ys h a m =
      let r = any-true (same a) ys (all_true _ h a m) in
      rw (f a r.0 r.2) r.1

  pub members-true : (same : A → A → Bool) → ((a b : A) → same a b ≡ true → a ≡ b) →
      (xs ys : List A) → same_members same xs ys ≡ true → Same A xs ys
  unfolding same_members
  members-true same f xs ys h =
      let l = all_pass (λ a. any_pass (same a) ys) xs in
      record { to = within-true same f xs ys (and_left l _ h); from = within-true same f ys xs (and_right l _ h) }

-- a proposal of the same slot, number and entries
unfoldable pub same_proposal : Packet → Packet → Bool
same_proposal q p =
    is_proposal q.kind && (eqb q.slot p.slot && (eqb q.number p.number
    && (same_members same_block q.blocks p.blocks && same_members same_vote q.votes p.votes)))

unfoldable pub proposal_test : Network → List Event → Packet → Bool
proposal_test N earlier p =
    implies (is_proposal p.kind && is_honest N (p.slot % N.nodes))
    (any_pass (λ e. eqb (row e).kind 3 && (eqb (row e).node (p.slot % N.nodes) && same_proposal (packet_of (row e).bytes) p)) earlier)

pub proposal-true : (N : Network) (earlier : List Event) (p : Packet) → proposal_test N earlier p ≡ true → GenuineProposal N earlier p
unfolding proposal_test same_proposal
proposal-true N earlier p h kind honest =
    let r = any-true _ earlier (implied (is_proposal p.kind && is_honest N (p.slot % N.nodes)) _ h (both kind (holds-true _ honest))) in
    let e = r.0 in
    let t = r.2 in
    let z : Packet = packet_of (row e).bytes in
    let k = is-kind 3 e (and_left (eqb (row e).kind 3) _ t) in
    let i : (row e).node ≡ p.slot % N.nodes = search (facts, t) in
    let q : e ≡ sent (row e).beat (p.slot % N.nodes) (row e).bytes = cc in
    let bs : same_members same_block z.blocks p.blocks ≡ true = search (facts, t) in
    let vs : same_members same_vote z.votes p.votes ≡ true = search (facts, t) in (
      (row e).beat,
      (row e).bytes,
      rw (sym q) r.1,
      search (facts, t),
      search (facts, t),
      search (facts, t),
      members-true same_block block_same z.blocks p.blocks bs,
      members-true same_vote vote-same z.votes p.votes vs,
    )

-- ---- want of places or buffer, and packets too long

-- no event of kind k
unfoldable pub none_test : ℕ → List Event → Bool
none_test k log = all_pass (λ e. not (eqb (row e).kind k)) log

pub none_true : (k : ℕ) (log : List Event) → none_test k log ≡ true → (e : Event) → Memᴰ e log → eqb (row e).kind k ≡ true → ⊥
unfolding none_test
none_true k log h e m q = clashing q (not-true (eqb (row e).kind k) (all_true _ h e m))

unfoldable pub enough_test : List Event → Bool
unfolding none_test
enough_test log = none_test 5 log && none_test 6 log

pub enough-true : (log : List Event) → enough_test log ≡ true → Enough log
unfolding enough_test
enough-true log h = record {
  own = λ beat i m. none_true 5 log (and_left (none_test 5 log) _ h) (lacked beat i) m refl;
  packets = λ beat j bytes m. none_true 6 log (and_right (none_test 5 log) _ h) (turned_away beat j bytes) m refl;
}

-- the event sent these bytes
abbrev sends_bytes : List ℕ → Event → Bool
sends_bytes bytes e = eqb (row e).kind 3 && same_bytes (row e).bytes bytes

-- what is turned away was not sent before
unfoldable packets_test : List Event → Bool
packets_test [] = true
packets_test (e ∷ older) = implies (eqb (row e).kind 6) (not (any_pass (sends_bytes (row e).bytes) older)) && packets_test older

packets-at : (newer older : List Event) (beat j : ℕ) (bytes : List ℕ) → packets_test (newer ++ (turned_away beat j bytes ∷ older)) ≡ true
    → any_pass (sends_bytes bytes) older ≡ false
unfolding packets_test
packets-at [] older beat j bytes h = not-true (any_pass (sends_bytes bytes) older) (and_left (not (any_pass (sends_bytes bytes) older)) _ h)
packets-at (e ∷ newer) older beat j bytes h = packets-at newer older beat j bytes (and_right (implies (eqb (row e).kind 6) _) _ h)

unfoldable pub enough_for_honest_test : List Event → Bool
unfolding none_test packets_test
enough_for_honest_test log = none_test 5 log && packets_test log

pub enough-for-honest-true : (log : List Event) → enough_for_honest_test log ≡ true → EnoughForHonest log
unfolding enough_for_honest_test
enough-for-honest-true log h = record {
  own = λ beat i m. none_true 5 log (and_left (none_test 5 log) _ h) (lacked beat i) m refl;
  packets = λ newer older beat j bytes e b i m.
      clashing (any-holds (sends_bytes bytes) (sent b i bytes) m (same_bytes_lem bytes))
      (packets-at newer older beat j bytes (ap packets_test (sym e) ∙ and_right (none_test 5 log) _ h));
}

-- ---- delivery

-- DeliveredAt, with the words "before its next waking beat" left open: in time is what InTime says of the beat of arrival and the waking beat.
abbrev pub ArrivedAt : (ℕ → ℕ → Type 0) → ℕ → List Event → Type 0
ArrivedAt InTime b log =
    (j beat : ℕ) (newer older : List Event) → log ≡ newer ++ (woke beat j ∷ older) →
    (i : ℕ) (bytes : List ℕ) (since before : List Event) → older ≡ since ++ (sent b i bytes ∷ before) →
    b < beat → (i ≡ j → ⊥) →
    (c : ℕ) × (InTime c beat × (ok : Bool) × Memᴰ (given c j bytes ok) since)

-- `asked` says of which sending beats it is tested
module _ (in_time : ℕ → ℕ → Bool) (asked : ℕ → Bool) where
  -- e is a packet that another node sent at such a beat before `beat`
  abbrev owed : ℕ → ℕ → Event → Bool
  owed beat j e = eqb (row e).kind 3 && (asked (row e).beat && (ltb (row e).beat beat && not (eqb (row e).node j)))

  -- e gave node j these bytes in time for `beat`
  abbrev reaches : ℕ → ℕ → List ℕ → Event → Bool
  reaches beat j bytes e =
      eqb (row e).kind 4 && (eqb (row e).node j && (in_time (row e).beat beat && same_bytes (row e).bytes bytes))

  -- what others sent before `beat` among these events, latest first, reached node j; `since` are the events after them
  unfoldable reached_test : ℕ → ℕ → List Event → List Event → Bool
  reached_test beat j since [] = true
  reached_test beat j since (e ∷ before) =
      implies (owed beat j e) (any_pass (reaches beat j (row e).bytes) since) && reached_test beat j (e ∷ since) before

  unfoldable pub arrived_test : List Event → Bool
  unfolding reached_test same_bytes
  arrived_test [] = true
  arrived_test (e ∷ older) = implies (eqb (row e).kind 0) (reached_test (row e).beat (row e).node [] older) && arrived_test older

  reached-at : (beat j : ℕ) (acc since before : List Event) (b i : ℕ) (bytes : List ℕ) →
      reached_test beat j acc (since ++ (sent b i bytes ∷ before)) ≡ true → asked b ≡ true → b < beat → (i ≡ j → ⊥) →
      (e : Event) × (Memᴰ e since ⊎ Memᴰ e acc) × (reaches beat j bytes e ≡ true)
  unfolding reached_test
  reached-at beat j acc [] before b i bytes h f l ne =
      let c = owed beat j (sent b i bytes) in
      let w : c ≡ true = both f (both (lt-ltb b beat l) (ap not (ne_eqb i j ne))) in
      let r = any-true (reaches beat j bytes) acc (implied c _ (and_left (implies c (any_pass (reaches beat j bytes) acc)) _ h) w) in
      (r.0, inr r.1, r.2)
  reached-at beat j acc (x ∷ since) before b i bytes h f l ne =
      let c = implies (owed beat j x) (any_pass (reaches beat j (row x).bytes) acc) in
      let r = reached-at beat j (x ∷ acc) since before b i bytes (and_right c _ h) f l ne in
      (r.0, since-or-before r.0 r.1, r.2)
    where
      since-or-before : (e : Event) → Memᴰ e since ⊎ Memᴰ e (x ∷ acc) → Memᴰ e (x ∷ since) ⊎ Memᴰ e acc
      since-or-before e (inl m) = inl (Memᴰ.tail m)
      since-or-before e (inr m) = ⊎_elim (λ q. inl (Memᴰ.head q)) (λ n. inr n) (Memᴰ.cases_cons m)

  arrived-at : (newer older : List Event) (j beat : ℕ) → arrived_test (newer ++ (woke beat j ∷ older)) ≡ true → reached_test beat j [] older ≡ true
  unfolding arrived_test
  arrived-at [] older j beat h = and_left (reached_test beat j [] older) _ h
  arrived-at (e ∷ newer) older j beat h = arrived-at newer older j beat (and_right (implies (eqb (row e).kind 0) _) _ h)

  pub arrived-true : (InTime : ℕ → ℕ → Type 0) → ((c beat : ℕ) → in_time c beat ≡ true → InTime c beat) →
      (log : List Event) → arrived_test log ≡ true → (b : ℕ) → asked b ≡ true → ArrivedAt InTime b log
  arrived-true InTime t log h b l j beat newer older e i bytes since before f k ne =
      let u = arrived-at newer older j beat (ap arrived_test (sym e) ∙ h) in
      let r = reached-at beat j [] since before b i bytes (ap (reached_test beat j []) (sym f) ∙ u) l k ne in
      let g = r.0 in
      let n : (row g).node ≡ j = search (facts, r.2) in
      let c : in_time (row g).beat beat ≡ true = search (facts, r.2) in
      let d : same_bytes (row g).bytes bytes ≡ true = search (facts, r.2) in
      let y : (row g).bytes ≡ bytes = bytes_same (row g).bytes bytes d in
      let x = is-kind 4 g (and_left (eqb (row g).kind 4) _ r.2) in
      let q : g ≡ given (row g).beat j bytes (row g).accepted = cc in
      ((row g).beat, (t (row g).beat beat c, (row g).accepted, rw (sym q) (⊎_elim (λ m. m) (λ m. absurd (Memᴰ.not-nil m)) r.1)))

unfoldable pub delivered_test : ℕ → List Event → Bool
unfolding arrived_test
delivered_test from log = arrived_test ltb (leb from) log

pub delivered-true : (from : ℕ) (log : List Event) → delivered_test from log ≡ true → Delivered from log
unfolding delivered_test Delivered DeliveredAt
delivered-true from log h = λ b l. arrived-true ltb (leb from) ◌<◌ ltb-true log h b (le-leb from b l)

-- what was sent at beat b
unfoldable pub delivered_at_test : ℕ → List Event → Bool
unfolding arrived_test
delivered_at_test b log = arrived_test ltb (eqb b) log

pub delivered-at-true : (b : ℕ) (log : List Event) → delivered_at_test b log ≡ true → DeliveredAt b log
unfolding delivered_at_test DeliveredAt
delivered-at-true b log h = arrived-true ltb (eqb b) ◌<◌ ltb-true log h b (eq-eqb b b refl)

-- ---- one block for a number

-- the blocks that an event gives
abbrev blocks_of : Event → List Block
blocks_of (woke b i) = []
blocks_of (voted b i x) = []
blocks_of (built b i x y) = record { number = x; parent = y; slot = b / 3 } ∷ []
blocks_of (sent b i bytes) = []
blocks_of (given b i bytes false) = []
blocks_of (given b i bytes true) = (packet_of bytes).blocks
blocks_of (lacked b i) = []
blocks_of (turned_away b i bytes) = []

-- these blocks and those that are not among them yet
unfoldable add_new : List Block → List Block → List Block
add_new [] bs = bs
add_new (c ∷ cs) bs = let rest = add_new cs bs in cond (any_pass (same_block c) rest) rest (c ∷ rest)

-- all blocks that the log gives, each once
unfoldable pub blocks_given : List Event → List Block
unfolding add_new
blocks_given [] = []
blocks_given (e ∷ log) = add_new (blocks_of e) (blocks_given log)

added-old : (cs bs : List Block) (b : Block) → Memᴰ b bs → Memᴰ b (add_new cs bs)
unfolding add_new
added-old [] bs b m = m
added-old (c ∷ cs) bs b m = go (any_pass (same_block c) (add_new cs bs)) (added-old cs bs b m)
  where
    go : (t : Bool) → Memᴰ b (add_new cs bs) → Memᴰ b (cond t (add_new cs bs) (c ∷ add_new cs bs))
    go true n = n
    go false n = Memᴰ.tail n

added_new : (bs : List Block) (b : Block) {cs : List Block} → Memᴰ b cs → Memᴰ b (add_new cs bs)
unfolding add_new
added_new bs b (Memᴰ.head {x = c} {xs = rest} e) = go (any_pass (same_block c) (add_new rest bs)) refl
  where
    go : (t : Bool) → any_pass (same_block c) (add_new rest bs) ≡ t → Memᴰ b (cond t (add_new rest bs) (c ∷ add_new rest bs))
    go true h = let r = any-true (same_block c) (add_new rest bs) h in rw (e ∙ block_same c r.0 r.2) r.1
    go false h = Memᴰ.head e
added_new bs b (Memᴰ.tail {x = c} {xs = rest} m) = go (any_pass (same_block c) (add_new rest bs)) (added_new bs b m)
  where
    go : (t : Bool) → Memᴰ b (add_new rest bs) → Memᴰ b (cond t (add_new rest bs) (c ∷ add_new rest bs))
    go true n = n
    go false n = Memᴰ.tail n

event-gives : (e : Event) (b : Block) {log : List Event} → Memᴰ e log → Memᴰ b (blocks_of e) → Memᴰ b (blocks_given log)
unfolding blocks_given
event-gives e b (Memᴰ.head {x = f} {xs = rest} q) m = added_new (blocks_given rest) b (rw (sym q) m)
event-gives e b (Memᴰ.tail {x = f} {xs = rest} n) m = added-old (blocks_of f) (blocks_given rest) b (event-gives e b n m)

pub gives-in : (log : List Event) (b : Block) → Gives log b → Memᴰ b (blocks_given log)
gives-in log b (by-packet beat i bytes m n) = event-gives (given beat i bytes true) b m n
gives-in log b (by-proposer beat i m s) =
    event-gives (built beat i b.number b.parent) b m (Memᴰ.head (λ o. record { number = b.number; parent = b.parent; slot = s o }))

unfoldable pub one_block_test : List Event → Bool
one_block_test log =
    let bs = blocks_given log in
    all_pass (λ b. all_pass (λ c. implies (eqb b.number c.number) (same_block b c)) bs) bs

pub one-block-true : (log : List Event) → one_block_test log ≡ true → OneBlock log
unfolding one_block_test OneBlock
one-block-true log h b c g d e =
    let t = all_true _ (all_true _ h b (gives-in log b g)) c (gives-in log c d) in
    block_same b c (implied (eqb b.number c.number) _ t (eq-eqb _ _ e))

-- ---- not at or above B

unfoldable pub among : ℕ → List ℕ → Bool
among x xs = any_pass (λ y. eqb y x) xs

-- `chain` is closed under the parents that the log gives, and B is not in it
unfoldable pub apart_test : List Event → ℕ → List ℕ → Bool
apart_test log B chain = not (among B chain) && all_pass (λ c. implies (among c.number chain) (among c.parent chain)) (blocks_given log)

pub apart-true : (log : List Event) (B : ℕ) (chain : List ℕ) → apart_test log B chain ≡ true →
    (x : ℕ) → among x chain ≡ true → AtOrAbove log B x → ⊥
unfolding apart_test
apart-true log B chain h x m here = clashing m (not-true (among B chain) (and_left (not (among B chain)) _ h))
apart-true log B chain h x m (on_parent c g a) =
    apart-true log B chain h c.parent
    (implied (among c.number chain) _ (all_true _ (and_right (not (among B chain)) _ h) c (gives-in log c g)) m) a

-- ---- the counts of voters

abbrev pub count_opposed : Network → World → ℕ → ℕ
count_opposed N w r = count_below (opposed N w.log r) N.nodes

abbrev pub count_voters : Network → World → ℕ → ℕ
count_voters N w r = count_below (voters N w.log r) N.nodes

-- each slot from t on whose vote beat is over passes
unfoldable pub slots_test : (ℕ → Bool) → ℕ → World → Bool
slots_test p t w = all_below (λ r. implies (leb t r && ltb (3 * r + 1) w.beat) (p r)) w.beat

pub slots-true : (p : ℕ → Bool) (t : ℕ) (w : World) → slots_test p t w ≡ true → (r : ℕ) → t ≤ r → 3 * r + 1 < w.beat → p r ≡ true
unfolding slots_test
slots-true p t w h r l k =
    implied (leb t r && ltb (3 * r + 1) w.beat) (p r) (below_true _ w.beat h r (omega arith)) (both (le-leb t r l) (lt-ltb _ _ k))

unfoldable pub majority_test : Network → ℕ → World → Bool
majority_test N t w = slots_test (λ r. ltb (count_opposed N w r) (count_voters N w r)) t w

pub majority-true : (N : Network) (t : ℕ) (w : World) → majority_test N t w ≡ true → Majority N t w
unfolding majority_test Majority
majority-true N t w h r l k = ltb-true _ _ (slots-true _ t w h r l k)
