-- What the answers of code mean: document 01's number of every refusal, and the index of an entry. Assumes nothing.
use Rattle.std.specs.Prelude.{ℕ, Result, Ok, Err}
use Rattle.protocol.specs.Refusal as rules
use Rattle.verdicts.specs.declared.Refusal.{Refusal}
use Rattle.verdicts.specs.declared.Refusal.TheVariants.{
  NodesOutOfRange,
  OwnOutOfRange,
  ExpiryOutOfRange,
  DepthOutOfRange,
  LengthOutOfRange,
  Unsound,
  WrongBeat,
  PacketTooLong,
  PacketMalformed,
  BadBlock,
  BadVote,
  BadHeader,
  TooFewPlaces,
  WrongPhase,
  BeatDone,
  NotJoined,
  NotProposer,
  NumberKnown,
  AlreadyVoted,
  SlotOutOfRange,
  BufferTooShort,
  NoOwnProposal,
  NumberTooWide,
  SilentOutOfRange,
}

abbrev pub refusal_of : Refusal → rules.Refusal
refusal_of NodesOutOfRange = rules.by 1
refusal_of OwnOutOfRange = rules.by 2
refusal_of ExpiryOutOfRange = rules.by 3
refusal_of DepthOutOfRange = rules.by 4
refusal_of LengthOutOfRange = rules.by 5
refusal_of Unsound = rules.by 6
refusal_of WrongBeat = rules.by 7
refusal_of PacketTooLong = rules.by 24
refusal_of PacketMalformed = rules.by 8
refusal_of (BadBlock i) = rules.by_entry 9 i
refusal_of (BadVote i) = rules.by_entry 20 i
refusal_of BadHeader = rules.by 21
refusal_of TooFewPlaces = rules.by 10
refusal_of WrongPhase = rules.by 11
refusal_of BeatDone = rules.by 12
refusal_of NotJoined = rules.by 13
refusal_of NotProposer = rules.by 14
refusal_of NumberKnown = rules.by 15
refusal_of AlreadyVoted = rules.by 16
refusal_of SlotOutOfRange = rules.by 17
refusal_of BufferTooShort = rules.by 18
refusal_of NoOwnProposal = rules.by 19
refusal_of NumberTooWide = rules.by 23
refusal_of SilentOutOfRange = rules.by 25

abbrev pub refusal_number_of : Refusal → ℕ
refusal_number_of r = rules.refusal_number (refusal_of r)

-- the index of the refused entry in its section; 0 where no entry is refused
abbrev pub refusal_index : rules.Refusal → ℕ
refusal_index (rules.by k) = 0
refusal_index (rules.by_entry k i) = i

abbrev pub refusal_index_of : Refusal → ℕ
refusal_index_of r = refusal_index (refusal_of r)

-- no test applied, whatever code goes on with; or the first that applied refuses
abbrev pub verdict_of : {A : Type 0} → Result A Refusal → rules.Verdict
verdict_of (Ok a) = rules.pass
verdict_of (Err r) = rules.refuse (refusal_of r)
