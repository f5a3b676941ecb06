-- What a caller learns of each function by the contract of its code is the promise that the runs of the code are made of, and it is
-- asked for nothing before the call: of every function that an embedder can call, in Rattle and in C. Assumes nothing.
use Prim.Native.Nat.{ℕ}
use mathlib.Core.Path.{◌≡◌, refl}
use mathlib.Core.List.{List}
use base.Logic.{emp, sep}
use borrow.Fn.World.{World}
use contract.Monad.{fact}
use denote.Ref.{Bor}
use Rattle.protocol.specs.declared.Clock.{Clock}
use Rattle.protocol.specs.Words.{value}
use Rattle.protocol.specs.Lent.{Lent}
use Rattle.lent.specs.Memory.{memory, memory_mut, IsSameLoan}
use Rattle.verdicts.specs.Lent.{lent, behind}
use Rattle.answers.specs.Promises.{Opens, Receives, Proposes, Votes, Merges, Carries, IsHead, IsDeep, IsFast, IsSettled, IsFit, IsCompared, Writes}
use Rattle.capi.specs.Structs.{node_settings, node_clock, node_number, node_width, done_struct, received_struct, block_struct, found_struct, fast_struct, fitted_struct, compared_struct, written_struct, Stands}
use Rattle.node.proofs.«open».Reads as opening
use Rattle.node.proofs.receive.Reads as receiving
use Rattle.node.proofs.propose.Reads as proposing
use Rattle.node.proofs.vote.Reads as voting
use Rattle.node.proofs.merge.Reads as merging
use Rattle.node.proofs.carry.Reads as carrying
use Rattle.node.specs.contracts.carry as carrying-in-place
use Rattle.queries.proofs.head.Reads as asking-head
use Rattle.queries.proofs.deep.Reads as asking-deep
use Rattle.queries.proofs.fast.Reads as asking-fast
use Rattle.queries.proofs.settled.Reads as asking-settled
use Rattle.queries.proofs.fit.Reads as asking-fit
use Rattle.queries.proofs.compare.Reads as asking-compare
use Rattle.writing.proofs.write.Reads as writing
use Rattle.capi.proofs.likvost_open.Reads as opening-in-c
use Rattle.capi.proofs.likvost_receive.Reads as receiving-in-c
use Rattle.capi.proofs.likvost_propose.Reads as proposing-in-c
use Rattle.capi.proofs.likvost_vote.Reads as voting-in-c
use Rattle.capi.proofs.likvost_merge.Reads as merging-in-c
use Rattle.capi.proofs.likvost_head.Reads as asking-head-in-c
use Rattle.capi.proofs.likvost_deep.Reads as asking-deep-in-c
use Rattle.capi.proofs.likvost_fast.Reads as asking-fast-in-c
use Rattle.capi.proofs.likvost_settled.Reads as asking-settled-in-c
use Rattle.capi.proofs.likvost_fit.Reads as asking-fit-in-c
use Rattle.capi.proofs.likvost_compare.Reads as asking-compare-in-c
use Rattle.capi.proofs.likvost_write.Reads as writing-in-c

-- ---- what is asked

-- a caller need show nothing
abbrev Nothing : {K : Type 0} {A : K → Type 0} → ((κs : K) → A κs → Type 0) → Type 1
Nothing asked = asked ≡ (λ κs a. Unit)

pub asks_nothing : Nothing opening.Asked × Nothing receiving.Asked × Nothing proposing.Asked × Nothing voting.Asked × Nothing merging.Asked
    × Nothing carrying.Asked × Nothing asking-head.Asked × Nothing asking-deep.Asked × Nothing asking-fast.Asked
    × Nothing asking-settled.Asked × Nothing asking-fit.Asked × Nothing asking-compare.Asked × Nothing writing.Asked
asks_nothing = (refl, refl, refl, refl, refl, refl, refl, refl, refl, refl, refl, refl, refl)

pub asks-nothing-in-c : Nothing opening-in-c.Asked × Nothing receiving-in-c.Asked × Nothing proposing-in-c.Asked
    × Nothing voting-in-c.Asked × Nothing merging-in-c.Asked
    × Nothing asking-head-in-c.Asked × Nothing asking-deep-in-c.Asked × Nothing asking-fast-in-c.Asked
    × Nothing asking-settled-in-c.Asked × Nothing asking-fit-in-c.Asked × Nothing asking-compare-in-c.Asked × Nothing writing-in-c.Asked
asks-nothing-in-c = (refl, refl, refl, refl, refl, refl, refl, refl, refl, refl, refl, refl)

-- ---- what is learnt

-- The arguments are what is lent and then the call's own. Then comes the answer, and the arguments at the end of the call.

pub open_told : opening.Learnt ≡ (λ κs (l, _) r (l', _). Opens l.now.settings (memory_mut l.now) (memory_mut l'.now) r × IsSameLoan l.now l'.now)
open_told = refl

pub receive-told : receiving.Learnt ≡ (λ κs (l, (beat, (bytes, _))) r (l', _).
    Receives l.now.settings (memory_mut l.now) beat bytes.now (memory_mut l'.now) r × IsSameLoan l.now l'.now)
receive-told = refl

pub propose-told : proposing.Learnt ≡ (λ κs (l, (beat, (number, _))) r (l', _).
    Proposes l.now.settings (memory_mut l.now) beat (value number) (memory_mut l'.now) r × IsSameLoan l.now l'.now)
propose-told = refl

pub vote-told : voting.Learnt ≡ (λ κs (l, (beat, _)) r (l', _). Votes l.now.settings (memory_mut l.now) beat (memory_mut l'.now) r × IsSameLoan l.now l'.now)
vote-told = refl

pub merge-told : merging.Learnt ≡ (λ κs (l, (beat, _)) r (l', _). Merges l.now.settings (memory_mut l.now) beat (memory_mut l'.now) r × IsSameLoan l.now l'.now)
merge-told = refl

pub carry-told : carrying.Learnt ≡ (λ κs (l, (call, (beat, (bytes, _)))) r (l', _).
    Carries l.now.settings (memory_mut l.now) call beat bytes.now (memory_mut l'.now) r × IsSameLoan l.now l'.now)
carry-told = refl

-- Carry may be any of these four calls. Here is the contract itself, in every model of the logic: it asks for nothing, and ensures both promises as facts.
pub carry-told-whole : (w : World) → carrying-in-place.clauses w.𝓛 w.𝓜.mem w.𝓡.run
    ≡ (λ κs (l, (call, (beat, (bytes, _)))). record {
      ghost = Unit;
      requires = λ g. emp w.𝓤;
      ensures = λ g r (l', _).
          sep w.𝓤 (fact w.𝓤 (Carries l.now.settings (memory_mut l.now) call beat bytes.now (memory_mut l'.now) r)) (fact w.𝓤 (IsSameLoan l.now l'.now));
    })
carry-told-whole w = refl

pub head-told : asking-head.Learnt ≡ (λ κs (l, (slot, _)) r _. IsHead l.settings (memory l) slot r)
head-told = refl

pub deep-told : asking-deep.Learnt ≡ (λ κs (l, (slot, _)) r _. IsDeep l.settings (memory l) slot r)
deep-told = refl

pub fast-told : asking-fast.Learnt ≡ (λ κs (l, (slot, _)) r _. IsFast l.settings (memory l) slot r)
fast-told = refl

pub settled-told : asking-settled.Learnt ≡ (λ κs (l, (slot, (silent, _))) r _. IsSettled l.settings (memory l) slot silent r)
settled-told = refl

pub fit-told : asking-fit.Learnt ≡ (λ κs (l, (beat, (bytes, _))) r _. IsFit l.settings (memory l) beat bytes.now r)
fit-told = refl

pub compare-told : asking-compare.Learnt ≡ (λ κs (l, (beat, (one, (two, _)))) r _. IsCompared l.settings (memory l) beat one.now two.now r)
compare-told = refl

pub write-told : writing.Learnt ≡ (λ κs (l, (proposal, (width, (buffer, _)))) r (_, (_, (_, (buffer', _)))).
    Writes l.settings (memory l) proposal width buffer.now buffer'.now r)
write-told = refl

-- ---- what is learnt in C

-- The arguments are the settings, the clock, the blocks and how many rows of them are used, the votes and how many rows of them are used, and then
-- the call's own.

-- the memory behind these references where the counts are none: it is only read
abbrev within : Bor (List ℕ) → ℕ → Bor (List ℕ) → ℕ → Clock → Lent
within bs m vs n c = lent bs.now vs.now m n c

-- The struct that is returned stands for an answer that meets the same promise. Settings, clock and number are those that the passed structs hold, and the clock
-- after the call is the one in the returned struct.

pub open-told-in-c : opening-in-c.Learnt ≡ (λ κs (s, (c, (bs, (m, (vs, (n, _)))))) r (_, (_, (bs', (m', (vs', (n', _)))))).
    Stands (Opens (node_settings s) (behind bs m vs n (node_clock c)) (behind bs' m' vs' n' (node_clock r.clock))) (done_struct r.clock) r)
open-told-in-c = refl

pub receive-told-in-c : receiving-in-c.Learnt ≡ (λ κs (s, (c, (bs, (m, (vs, (n, (beat, (bytes, _)))))))) r (_, (_, (bs', (m', (vs', (n', _)))))).
    Stands (Receives (node_settings s) (behind bs m vs n (node_clock c)) beat bytes.now (behind bs' m' vs' n' (node_clock r.clock))) (received_struct r.clock) r)
receive-told-in-c = refl

pub propose-told-in-c : proposing-in-c.Learnt ≡ (λ κs (s, (c, (bs, (m, (vs, (n, (beat, (number, _)))))))) r (_, (_, (bs', (m', (vs', (n', _)))))).
    Stands (Proposes (node_settings s) (behind bs m vs n (node_clock c)) beat (value (node_number number)) (behind bs' m' vs' n' (node_clock r.clock)))
    (block_struct r.clock) r)
propose-told-in-c = refl

pub vote-told-in-c : voting-in-c.Learnt ≡ (λ κs (s, (c, (bs, (m, (vs, (n, (beat, _))))))) r (_, (_, (bs', (m', (vs', (n', _)))))).
    Stands (Votes (node_settings s) (behind bs m vs n (node_clock c)) beat (behind bs' m' vs' n' (node_clock r.clock))) (block_struct r.clock) r)
vote-told-in-c = refl

pub merge-told-in-c : merging-in-c.Learnt ≡ (λ κs (s, (c, (bs, (m, (vs, (n, (beat, _))))))) r (_, (_, (bs', (m', (vs', (n', _)))))).
    Stands (Merges (node_settings s) (behind bs m vs n (node_clock c)) beat (behind bs' m' vs' n' (node_clock r.clock))) (done_struct r.clock) r)
merge-told-in-c = refl

pub head-told-in-c : asking-head-in-c.Learnt ≡ (λ κs (s, (c, (bs, (m, (vs, (n, (slot, _))))))) r _.
    Stands (IsHead (node_settings s) (within bs m vs n (node_clock c)) slot) found_struct r)
head-told-in-c = refl

pub deep-told-in-c : asking-deep-in-c.Learnt ≡ (λ κs (s, (c, (bs, (m, (vs, (n, (slot, _))))))) r _.
    Stands (IsDeep (node_settings s) (within bs m vs n (node_clock c)) slot) found_struct r)
deep-told-in-c = refl

pub fast-told-in-c : asking-fast-in-c.Learnt ≡ (λ κs (s, (c, (bs, (m, (vs, (n, (slot, _))))))) r _.
    Stands (IsFast (node_settings s) (within bs m vs n (node_clock c)) slot) fast_struct r)
fast-told-in-c = refl

pub settled-told-in-c : asking-settled-in-c.Learnt ≡ (λ κs (s, (c, (bs, (m, (vs, (n, (slot, (silent, _)))))))) r _.
    Stands (IsSettled (node_settings s) (within bs m vs n (node_clock c)) slot silent) found_struct r)
settled-told-in-c = refl

pub fit-told-in-c : asking-fit-in-c.Learnt ≡ (λ κs (s, (c, (bs, (m, (vs, (n, (beat, (bytes, _)))))))) r _.
    Stands (IsFit (node_settings s) (within bs m vs n (node_clock c)) beat bytes.now) fitted_struct r)
fit-told-in-c = refl

pub compare-told-in-c : asking-compare-in-c.Learnt ≡ (λ κs (s, (c, (bs, (m, (vs, (n, (beat, (one, (two, _))))))))) r _.
    Stands (IsCompared (node_settings s) (within bs m vs n (node_clock c)) beat one.now two.now) compared_struct r)
compare-told-in-c = refl

pub write-told-in-c : writing-in-c.Learnt ≡ (λ κs (s, (c, (bs, (m, (vs, (n, (proposal, (wide, (buffer, _))))))))) r (_, (_, (_, (_, (_, (_, (_, (_, (buffer', _))))))))).
    Stands (Writes (node_settings s) (within bs m vs n (node_clock c)) proposal (node_width wide) buffer.now buffer'.now) written_struct r)
write-told-in-c = refl
