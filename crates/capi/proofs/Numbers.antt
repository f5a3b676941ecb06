-- No refusal has the number 0: a struct whose `refusal` is 0 stands for a call that was carried out. Assumes nothing.
use mathlib.Core.Bool.{false}
use mathlib.Core.Path.{◌≡◌, refl}
use lib.Dec.{eqb}
use Rattle.verdicts.specs.declared.Refusal.{Refusal}
use Rattle.verdicts.specs.declared.Refusal.TheVariants as refusal
use Rattle.verdicts.specs.Verdict.{refusal_number_of}

pub refusal-not-zero : (e : Refusal) → eqb (refusal_number_of e) 0 ≡ false
refusal-not-zero refusal.NodesOutOfRange = refl
refusal-not-zero refusal.OwnOutOfRange = refl
refusal-not-zero refusal.ExpiryOutOfRange = refl
refusal-not-zero refusal.DepthOutOfRange = refl
refusal-not-zero refusal.LengthOutOfRange = refl
refusal-not-zero refusal.Unsound = refl
refusal-not-zero refusal.WrongBeat = refl
refusal-not-zero refusal.PacketTooLong = refl
refusal-not-zero refusal.PacketMalformed = refl
refusal-not-zero (refusal.BadBlock i) = refl
refusal-not-zero (refusal.BadVote i) = refl
refusal-not-zero refusal.BadHeader = refl
refusal-not-zero refusal.TooFewPlaces = refl
refusal-not-zero refusal.WrongPhase = refl
refusal-not-zero refusal.BeatDone = refl
refusal-not-zero refusal.NotJoined = refl
refusal-not-zero refusal.NotProposer = refl
refusal-not-zero refusal.NumberKnown = refl
refusal-not-zero refusal.AlreadyVoted = refl
refusal-not-zero refusal.SlotOutOfRange = refl
refusal-not-zero refusal.BufferTooShort = refl
refusal-not-zero refusal.NoOwnProposal = refl
refusal-not-zero refusal.NumberTooWide = refl
refusal-not-zero refusal.SilentOutOfRange = refl
