-- Calls keep a node sound, and a call that is not refused by given numbers has no such verdict. Assumes nothing.
use Prim.Native.Nat.{ℕ}
use mathlib.Core.Path.{◌≡◌}
use mathlib.Core.Bool.{Bool, true, false}
use Rattle.protocol.specs.declared.Settings.{Settings}
use Rattle.protocol.specs.Store.{Places, Node}
use Rattle.protocol.specs.Sound.{sound}
use Rattle.protocol.specs.Refusal.{Refusal, refusal_number, Verdict, refuse, unless}
use Rattle.protocol.specs.CallList.{Call, Receive, Propose, Vote, Merge, after_call, refused_by}
use Rattle.protocol.proofs.Calls.Sound.{receive-keeps-sound, propose-keeps-sound, vote-keeps-sound, merge-keeps-sound}

pub made-sound : (s : Settings) (pl : Places) (x : Node) → sound s pl x ≡ true → (c : Call) → sound s pl (after_call s pl x c) ≡ true
unfolding after_call
made-sound s pl x S (Receive beat bytes) = receive-keeps-sound s pl x S beat bytes
made-sound s pl x S (Propose beat number) = propose-keeps-sound s pl x S beat number
made-sound s pl x S (Vote beat) = vote-keeps-sound s pl x S beat
made-sound s pl x S (Merge beat) = merge-keeps-sound s pl x S beat

-- the verdict is no refusal by one of these numbers
abbrev pub NotBy : (ℕ → Bool) → Verdict → Type 0
NotBy these v = (k : Refusal) → v ≡ refuse k → these (refusal_number k) ≡ false

pub not-by : {A : Type 0} (these : ℕ → Bool) (v : Verdict) (x : Node) (a : A) (y : Node) → refused_by these (unless v x a y).answer ≡ false → NotBy these v
unfolding refused_by unless
not-by these v x a y e k q = rw q at e
