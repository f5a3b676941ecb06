-- What holds where a verdict passes: the memory is sound, its rows are there, and each test of the call failed. Assumes nothing.
use Prim.Native.Nat.{ℕ, zero, suc, ◌/◌, ◌≤◌}
use mathlib.Core.Path.{◌≡◌, refl, sym, ap, ◌∙◌}
use mathlib.Core.Bool.{Bool, true, false, cond, false≢true}
use mathlib.Core.List.{List}
use Rattle.std.specs.Prelude.{Result, Ok}
use native.Mathlib.Omega.{arith}
use Rattle.protocol.specs.declared.Settings.{Settings}
use Rattle.protocol.specs.Limits.{loom}
use Rattle.protocol.specs.Chain.{genesis}
use Rattle.protocol.specs.Store.{same_block, Places, Node}
use Rattle.protocol.specs.Sound.{blocks_sound, sound}
use Rattle.protocol.specs.Refusal as rules
use Rattle.protocol.specs.Refusal.{by, Test, Verdict, pass, refuse, first}
use Rattle.protocol.specs.Lent.{block_words, vote_words, Lent, rows_of, make_block, places_in, places_of, node_of, lent_sound}
use Rattle.protocol.proofs.Basics.Tests.{facts, and_left, and_right}
use Rattle.protocol.proofs.Store.Sound.{ClockSound, Ranges, ranges, places-few}
use Rattle.protocol.proofs.Lent.Memory.{lent-true, lent-used}
use Rattle.soundness.proofs.Facts.{SoundMemory, sound-memory}
use Rattle.verdicts.specs.declared.Refusal.{Refusal}
use Rattle.verdicts.specs.Verdict.{verdict_of}
use Rattle.verdicts.specs.Lent.{lent_verdict}

-- ---- sound memory, as code goes on with it

pub record Ready (s : Settings) (m : Lent) : Type 0 where
  -- the used rows are there, their marks are 0 or 1, and the node is sound
  pub memory : SoundMemory s m
  pub settings : Ranges s
  pub clock : ClockSound m.clock
  pub fit-blocks : m.blocks_used ≤ places_in block_words m.blocks
  pub fit-votes : m.votes_used ≤ places_in vote_words m.votes
  pub few-blocks : m.blocks_used ≤ loom.blocks
  pub few-votes : m.votes_used ≤ loom.votes
  -- block 0 is there, in view
  pub some-blocks : 1 ≤ m.blocks_used
  pub first-mark : (make_block.of m.blocks).viewed ≡ true

first-row : (slot : ℕ) (ws : List ℕ) (n : ℕ) → blocks_sound slot (rows_of make_block ws n) ≡ true → (1 ≤ n) × ((make_block.of ws).viewed ≡ true)
unfolding blocks_sound rows_of
first-row slot ws zero e = absurd (false≢true e)
first-row slot ws (suc n) e = (omega arith, and_left (make_block.of ws).viewed _ (and_right (same_block _ genesis) _ e))

sound-blocks : (s : Settings) (p : Places) (x : Node) → sound s p x ≡ true → blocks_sound (x.clock.seen / 3) x.blocks ≡ true
unfolding sound
sound-blocks s p x e = search facts

pub ready : (s : Settings) (m : Lent) → lent_sound s m ≡ true → Ready s m
unfolding node_of places_of
ready s m e =
    let M = sound-memory s m e in
    let N = M.node in
    let o = first-row (m.clock.seen / 3) m.blocks m.blocks_used (sound-blocks s (places_of m) (node_of m) (lent-true s m e).node) in
    let u = lent-used s m e in
    let f = places-few s.profile (places_of m) N.places in
    record {
      memory = M;
      settings = ranges s N.settings;
      clock = N.time;
      fit-blocks = u.0;
      fit-votes = u.1;
      few-blocks = omega (arith, u.0, f.0);
      few-votes = omega (arith, u.1, f.1);
      some-blocks = o.0;
      first-mark = o.1;
    }

-- ---- a verdict that passes

pub refuse-not-pass : (k : rules.Refusal) → refuse k ≡ pass → ⊥
refuse-not-pass k e = let z : ◌≡◌ {A = ℕ} 0 1 = cc in absurd (omega arith)

module _ (s : Settings) (tests : Places → Node → List Test) (m : Lent) where
  pub passes : lent_verdict s tests m ≡ pass → (lent_sound s m ≡ true) × (first (tests (places_of m) (node_of m)) ≡ pass)
  unfolding lent_verdict
  passes = go (lent_sound s m)
    where
      go : (b : Bool) → cond b (first (tests (places_of m) (node_of m))) (refuse (by 6)) ≡ pass → (b ≡ true) × (first (tests (places_of m) (node_of m)) ≡ pass)
      go true e = (refl, e)
      go false e = absurd (refuse-not-pass (by 6) e)

  pub pass-ready : lent_verdict s tests m ≡ pass → Ready s m
  pass-ready e = ready s m (passes e).0

-- ---- what code answers

-- code found v, which is u
pub said : {A : Type 0} {v : Result A Refusal} {w : Verdict} (u : Result A Refusal) → verdict_of v ≡ w → v ≡ u → w ≡ verdict_of u
said u h e = sym h ∙ ap verdict_of e

module _ (s : Settings) (tests : Places → Node → List Test) (m : Lent) {A : Type 0} {v : Result A Refusal} {a : A} (h : verdict_of v ≡ lent_verdict s tests m) (e : v ≡ Ok a) where
  pub passed-sound : lent_sound s m ≡ true
  passed-sound = (passes s tests m (said (Ok a) h e)).0

  pub passed-ready : Ready s m
  passed-ready = pass-ready s tests m (said (Ok a) h e)
