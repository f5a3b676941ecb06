-- The block numbers of an honest node's store have 128 bits. Assumes nothing.
use Prim.Native.Nat.{ℕ, zero, suc, ◌^◌, ◌≤◌, ◌<◌}
use mathlib.Core.Path.{◌≡◌, ap}
use mathlib.Core.Bool.{Bool, true, false, cond}
use mathlib.Core.List.Memᴰ
use native.Mathlib.Nat.{lt_of_lt_of_le}
use native.Mathlib.Omega.{arith}
use lib.Dec.{ltb, lit≤, lit<}
use Rattle.protocol.specs.Entry.{Block}
use Rattle.protocol.specs.Store.{entries}
use Rattle.protocol.specs.Packet.{number_at, width_of, width_in}
use Rattle.protocol.specs.RoundTrip.{NumbersBelow}
use Rattle.protocol.proofs.Chain.Relations.{In}
use Rattle.protocol.proofs.Packet.Bytes.{read_fits}
use Rattle.protocol.proofs.Packet.Numbers.{each-true}
use Rattle.protocol.proofs.Packet.Ranges.{BlockFits}
use Rattle.resilience.specs.Run.{Network, is_honest}
use Rattle.resilience.proofs.Steps.Allowed.{due-honest, receive-bytes}
use Rattle.resilience.proofs.Steps.Stored.{BlockFrom, old, packet, own, block-from}
use Rattle.resilience.proofs.Runs.Trace.{at}
use Rattle.resilience.proofs.Runs.Execution.{Execution, world, starts-fresh}

-- a number of either width has 128 bits
wide_below : (kind : ℕ) {n : ℕ} → n < 256 ^ width_of kind → n < 2 ^ 128
wide_below kind {n} = go (ltb kind 2)
  where
    go : (b : Bool) → n < 256 ^ cond b 8 16 → n < 2 ^ 128
    go true h = lt_of_lt_of_le h (lit≤ tt)
    go false h = h

module _ {N : Network} (X : Execution N) (i : ℕ) (h : is_honest N i ≡ true) where
  number-below : (k : ℕ) → k ≤ X.end → (c : Block) → In c (entries ((world X k).node i).blocks) → c.number < 2 ^ 128
  unfolding at entries
  number-below zero l c m = rw (ap (λ o. o.number) (Memᴰ.eq_of_singleton (rw (ap (λ o. entries o.blocks) (starts-fresh X i h)) at m))) (lit< tt)
  number-below (suc k) l c m = go (block-from N (world X k) (X.steps k) i c m) (λ d n. number-below k (omega arith) d n)
    where
      go : BlockFrom N (world X k) (X.steps k) i c → ((d : Block) → In d (entries ((world X k).node i).blocks) → d.number < 2 ^ 128) → c.number < 2 ^ 128
      go (old n) rec = rec c n
      go (packet bytes q lg n) rec =
          wide_below (number_at bytes 0 1)
          (each-true (BlockFits (width_in bytes)) (read_fits bytes (receive-bytes N (world X k) i bytes (rw q at (X.allowed k l)))).blocks c n).number
      go (own x q e lg) rec = rw (ap (λ o. o.number) e) (due-honest N (world X k) i x (rw q at (X.allowed k l))).3

  pub numbers-below : (k : ℕ) → k ≤ X.end → NumbersBelow (2 ^ 128) ((world X k).node i)
  unfolding NumbersBelow
  numbers-below k l = number-below k l
