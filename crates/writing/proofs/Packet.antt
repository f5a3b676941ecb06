-- From the verdict that code found to the promise of Write: refused, the buffer is as it was; passed, it holds the packet and the old rest.
-- Assumes nothing.
use Prim.Native.Nat.{ℕ, ◌≤◌}
use mathlib.Core.Path.{◌≡◌, ap, sym, ◌∙◌}
use mathlib.Core.Bool.{Bool}
use mathlib.Core.List.{List}
use lib.ListN.{length}
use Rattle.std.specs.Prelude.{Result, Ok, Err, IsErrAnd}
use Rattle.std.proofs.lemmas.Result.{err_from_is_err_and}
use Rattle.protocol.specs.declared.Settings.{Settings}
use Rattle.protocol.specs.declared.Width.{Width}
use Rattle.protocol.specs.Refusal.{done}
use Rattle.protocol.specs.Calls.Write.{packet_out, over, write_tests}
use Rattle.protocol.specs.Lent.{Lent}
use Rattle.writer.specs.Sent.{node_in}
use Rattle.writer.proofs.Readable.{sent-held}
use Rattle.verdicts.specs.declared.Refusal.{Refusal}
use Rattle.verdicts.specs.Verdict.{verdict_of}
use Rattle.verdicts.specs.Lent.{lent_verdict}
use Rattle.verdicts.proofs.Passed.{said}
use Rattle.verdicts.proofs.Room as room
use Rattle.verdicts.proofs.Calls.{write-refused, write_done}
use Rattle.answers.specs.Promises.{Writes}

-- the packet, of the tables alone
abbrev bytes : Lent → Bool → Width → List ℕ
bytes m proposal width = packet_out proposal width (node_in m.blocks m.blocks_used m.votes m.votes_used)

module _ (s : Settings) (m : Lent) (proposal : Bool) (width : Width) (buffer : List ℕ) {A : Type 0} {v : Result A Refusal} (h : verdict_of v ≡ lent_verdict s (λ p x. write_tests s p x proposal width buffer) m) where
  -- as the refusal is passed on
  pub write-leaves : {e : Refusal} (r : Result ℕ Refusal) → IsErrAnd r (λ k. k ≡ e) → v ≡ Err e → Writes s m proposal width buffer buffer r
  write-leaves r f e =
      let k = err_from_is_err_and r f in
      let q = write-refused s m proposal width buffer _ (said (Err _) h e) in
      rw (k.1, k.2) (record { buffer = sym (ap (λ w. w.buffer) q); answer = sym (ap (λ w. w.answer) q) })

  module _ {a : A} (e : v ≡ Ok a) where
    pub write-room : length (bytes m proposal width) ≤ length buffer
    write-room = rw (sent-held proposal width m) (room.write-room s m proposal width buffer (said (Ok a) h e))

    pub write-fills : {n : ℕ} {new : List ℕ} → n ≡ length (bytes m proposal width) → new ≡ over (bytes m proposal width) buffer → Writes s m proposal width buffer new (Ok n)
    write-fills f g =
        let q = write_done s m proposal width buffer (said (Ok a) h e) in
        let p = sent-held proposal width m in
        record {
          buffer = g ∙ ap (λ (o : List ℕ). over o buffer) p ∙ sym (ap (λ w. w.buffer) q);
          answer = ap (λ (n : ℕ). done n) (f ∙ ap length p) ∙ sym (ap (λ w. w.answer) q);
        }
