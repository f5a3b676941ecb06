-- An old stock that was written wide and received is written narrow as its sender would write it. Assumes nothing.
use Prim.Native.Nat.{ℕ, ◌/◌, ◌^◌, ◌≤◌, ◌<◌}
use mathlib.Core.Path.{◌≡◌, refl, ap, ◌∙◌}
use mathlib.Core.Bool.{Bool, true, false, not, ◌||◌}
use mathlib.Core.List.{List, Memᴰ}
use native.Mathlib.Nat.{lt_of_lt_of_le}
use native.Mathlib.Omega.{arith}
use lib.Dec.{lit≤}
use lib.ListN.{length, take}
use borrow.Author.Tests.{eq-eqb, le-ltb}
use Rattle.protocol.specs.declared.Settings.{Settings}
use Rattle.protocol.specs.declared.Width.TheVariants.{Narrow, Wide}
use Rattle.protocol.specs.Entry.{Block, Vote}
use Rattle.protocol.specs.Words.{upper_of, is_wide}
use Rattle.protocol.specs.Lists.{any_pass}
use Rattle.protocol.specs.Store.{entries, Places, Node}
use Rattle.protocol.specs.Sound.{sound}
use Rattle.protocol.specs.Packet.{Packet}
use Rattle.protocol.specs.Refusal.{pass, done, first}
use Rattle.protocol.specs.Calls.Open.{open_node}
use Rattle.protocol.specs.Calls.Receive.{receive}
use Rattle.protocol.specs.Calls.Write.{after_genesis, gossip_of, sent_of, packet_out, has_wide, too_wide, over, write_tests, write_unless, write}
use Rattle.protocol.specs.RoundTrip.{NumbersBelow, copy_of, RoundTrip, OldStock}
use Rattle.protocol.proofs.Basics.Tests.{clashing, not-passes}
use Rattle.protocol.proofs.Basics.Members.{any-true}
use Rattle.protocol.proofs.Packet.Ranges.{BlockFits, VoteFits, FieldsFit}
use Rattle.protocol.proofs.Packet.Numbers.{each-true}
use Rattle.protocol.proofs.Store.Sound.{IsSound, sound-holds, fresh-sound}
use Rattle.protocol.proofs.Calls.Open.{opened, open-settings, open-places}
use Rattle.protocol.proofs.Calls.Sound.{receive-keeps-sound}
use Rattle.protocol.proofs.Calls.Write.{wrote, write-verdict}
use Rattle.protocol.proofs.Exchange.Sending.{gossip-in-range}
use Rattle.protocol.proofs.Exchange.RoundTrip.{gossip-carries-the-store}

-- ---- a packet that fits narrow fields has no number that is wide

is-narrow : (n : ℕ) → n < 2 ^ 64 → is_wide n ≡ false
unfolding is_wide upper_of
is-narrow n h = ap not (eq-eqb (n / 2 ^ 64) 0 (omega arith))

no_other : {A : Type 0} (p : A → Bool) (xs : List A) → ((a : A) → Memᴰ a xs → p a ≡ false) → any_pass p xs ≡ false
no_other p xs h = not-passes (λ e. let r = any-true p xs e in clashing r.2 (h r.0 r.1))

none-wide : (p : Packet) → FieldsFit 8 p → has_wide p ≡ false
unfolding has_wide
none-wide p F =
    let block : (b : Block) → Memᴰ b p.blocks → (is_wide b.number || is_wide b.parent) ≡ false
    = λ b m. let f = each-true (BlockFits 8) F.blocks b m in rw (is-narrow b.number f.number, is-narrow b.parent f.parent) in
    let vote : (a : Vote) → Memᴰ a p.votes → is_wide a.number ≡ false = λ a m. is-narrow a.number (each-true (VoteFits 8) F.votes a m).number in
    rw (is-narrow p.number F.number, no_other (λ b. is_wide b.number || is_wide b.parent) p.blocks block, no_other (λ a. is_wide a.number) p.votes vote)

-- ---- gossip is of the entries alone

same-gossip : (x y : Node) → entries y.blocks ≡ entries x.blocks → entries y.votes ≡ entries x.votes → sent_of false Narrow y ≡ sent_of false Narrow x
unfolding sent_of gossip_of
same-gossip x y b v = λ i. record { kind = 0; slot = 0; number = 0; blocks = after_genesis (b i); votes = v i }

-- ---- narrow gossip that has room is written

module _ (s : Settings) (p : Places) (x : Node) (S : sound s p x ≡ true) (buffer : List ℕ) where
  pub narrow-written : too_wide Narrow (sent_of false Narrow x) ≡ false → length (packet_out false Narrow x) ≤ length buffer
      → write s p x false Narrow buffer ≡ record { answer = done (length (packet_out false Narrow x)); buffer = over (packet_out false Narrow x) buffer }
  unfolding write write_unless
  narrow-written n room =
      let v : first (write_tests s p x false Narrow buffer) ≡ pass
      = write-verdict s p x false Narrow buffer S (λ e. absurd (clashing e refl)) n ∙ rw (le-ltb (length buffer) (length (packet_out false Narrow x)) room) in
      rw v

-- 64 bits are no more than 128
more-bits : (x : Node) → NumbersBelow (2 ^ 64) x → NumbersBelow (2 ^ 128) x
unfolding NumbersBelow
more-bits x N = λ b m. lt_of_lt_of_le (N b m) (lit≤ tt)

narrow-fits : {s : Settings} {p : Places} {x : Node} → IsSound s p x → NumbersBelow (2 ^ 64) x → too_wide Narrow (sent_of false Narrow x) ≡ false
unfolding NumbersBelow sent_of too_wide gossip_of
narrow-fits {x = x} G N = none-wide (gossip_of Narrow x) (gossip-in-range G Narrow N).fits

pub old-stock-comes-back : OldStock
unfolding OldStock RoundTrip packet_out
old-stock-comes-back s p x N buffer n e s' p' old o same rb rv short buffer' room =
    let G = (wrote s p x false Wide buffer n e).good in
    let bytes = take n (write s p x false Wide buffer).buffer in
    let R = gossip-carries-the-store s p x (more-bits x N) Wide buffer n e s' p' old o same rb rv short in
    let y = (receive s' p' (open_node s' p' old).node x.clock.seen bytes).node in
    let c : y ≡ copy_of x = ap (λ q. q.node) R.0 in
    let b = ap (λ (q : Node). entries q.blocks) c ∙ R.1 in
    let v = ap (λ (q : Node). entries q.votes) c ∙ R.2 in
    let g = same-gossip x y b v in
    let f = sound-holds (fresh-sound s' p' (open-settings s' p' old o) (open-places s' p' old o)) in
    let S = receive-keeps-sound s' p' (open_node s' p' old).node (rw (opened s' p' old o) f) x.clock.seen bytes in
    let w = narrow-fits G N in (
      rw (← g) (narrow-written s' p' y S buffer' (rw g w) (rw g room)),
      narrow-written s p x (sound-holds G) buffer' w room,
    )
