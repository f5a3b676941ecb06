-- The exported structs: which settings and clock they hold, and which struct stands for which answer of the node.
-- `refusal` is 0 if the call was carried out, else document 01's number; `index` is the refused entry's; a field that the answer does not have is 0.
-- Assumes nothing.
use Rattle.std.specs.Prelude.{◌≡◌, ℕ, Bool, false, cond, eqb, Option, Some, None, Result, Ok, Err}
use Rattle.protocol.specs.declared.Profile.{Profile}
use Rattle.protocol.specs.declared.Profile.TheVariants.{Loom, Rack}
use Rattle.protocol.specs.declared.Settings as protocol_settings
use Rattle.protocol.specs.declared.Clock as protocol_clock
use Rattle.protocol.specs.declared.Number as protocol_number
use Rattle.protocol.specs.declared.Width.{Width}
use Rattle.protocol.specs.declared.Width.TheVariants.{Narrow, Wide}
use Rattle.protocol.specs.Refusal.{by, refused}
use Rattle.protocol.specs.Lent.{Lent, open_lent, lent_sound}
use Rattle.verdicts.specs.declared.Refusal.{Refusal}
use Rattle.verdicts.specs.Verdict.{refusal_number_of, refusal_index_of}
use Rattle.equivocation.specs.declared.Equivocation.{Equivocation}
use Rattle.answers.specs.declared.Received.{Received}
use Rattle.answers.specs.declared.Figures.{Figures}
use Rattle.answers.specs.declared.NotCompared.{NotCompared}
use Rattle.answers.specs.declared.NotCompared.TheVariants as not_compared
use Rattle.capi.specs.declared.Settings.{Settings}
use Rattle.capi.specs.declared.Clock.{Clock}
use Rattle.capi.specs.declared.Number.{Number}
use Rattle.capi.specs.declared.Answer.{Answer}
use Rattle.capi.specs.declared.Found.{Found}
use Rattle.capi.specs.declared.Fitted.{Fitted}
use Rattle.capi.specs.declared.Compared.{Compared}
use Rattle.capi.specs.declared.Written.{Written}

-- ---- settings and clock

abbrev pub node_settings_with : Profile → ℕ → Settings → protocol_settings.Settings
node_settings_with profile nodes s = record { profile = profile; nodes = nodes; own = s.own; expiry = s.expiry; depth = s.depth }

-- 1 names a loom and 2 a rack; with any other number the settings have no node
unfoldable pub node_settings : Settings → protocol_settings.Settings
node_settings s =
    cond (eqb s.profile 1) (node_settings_with Loom s.nodes s)
    (cond (eqb s.profile 2) (node_settings_with Rack s.nodes s) (node_settings_with Loom 0 s))

-- so a number that is neither is refused, by 1 at Open and by 6 later, whatever the memory is
unfoldable pub UnnamedRefused : Type 0
UnnamedRefused =
    (s : Settings) → eqb s.profile 1 ≡ false → eqb s.profile 2 ≡ false → (m : Lent) →
    (open_lent (node_settings s) m ≡ record { answer = refused (by 1); lent = m }) × (lent_sound (node_settings s) m ≡ false)

abbrev pub node_clock : Clock → protocol_clock.Clock
node_clock k = record { seen = k.seen; done = k.done; merged = k.merged; proposed = k.proposed }

abbrev pub exported_clock : protocol_clock.Clock → Clock
exported_clock k = record { seen = k.seen; done = k.done; merged = k.merged; proposed = k.proposed }

-- ---- numbers, and whether a packet is written wide

abbrev pub node_number : Number → protocol_number.Number
node_number n = record { lower = n.lower; upper = n.upper }

abbrev pub exported_number : protocol_number.Number → Number
exported_number n = record { lower = n.lower; upper = n.upper }

-- what stands in an answer that has no number
abbrev pub no_number : Number
no_number = record { lower = 0; upper = 0 }

abbrev pub node_width : Bool → Width
node_width wide = cond wide Wide Narrow

-- ---- answers

-- Of a call that changes the memory, the clock is the one after the call. It was refused, or carried out: Open and Merge have no value, Receive has its
-- counts, and Propose and Vote have a block.
abbrev pub refused_struct : Clock → Refusal → Answer
refused_struct k e =
    record { refusal = refusal_number_of e; index = refusal_index_of e; value = no_number; new_blocks = 0; new_votes = 0; viewed = 0; clock = k }

abbrev pub done_struct : Clock → Result Unit Refusal → Answer
done_struct k (Ok a) = record { refusal = 0; index = 0; value = no_number; new_blocks = 0; new_votes = 0; viewed = 0; clock = k }
done_struct k (Err e) = refused_struct k e

abbrev pub received_struct : Clock → Result Received Refusal → Answer
received_struct k (Ok t) =
    record {
      refusal = 0;
      index = 0;
      value = no_number;
      new_blocks = t.new_blocks;
      new_votes = t.new_votes;
      viewed = cond t.viewed 1 0;
      clock = k;
    }
received_struct k (Err e) = refused_struct k e

abbrev pub block_struct : Clock → Result protocol_number.Number Refusal → Answer
block_struct k (Ok b) = record { refusal = 0; index = 0; value = exported_number b; new_blocks = 0; new_votes = 0; viewed = 0; clock = k }
block_struct k (Err e) = refused_struct k e

-- Head, Deep and Settled; and Fast, which may find none
abbrev pub found_struct : Result protocol_number.Number Refusal → Found
found_struct (Ok b) = record { refusal = 0; found = 1; value = exported_number b }
found_struct (Err e) = record { refusal = refusal_number_of e; found = 0; value = no_number }

abbrev pub fast_struct : Result (Option protocol_number.Number) Refusal → Found
fast_struct (Ok (Some b)) = record { refusal = 0; found = 1; value = exported_number b }
fast_struct (Ok None) = record { refusal = 0; found = 0; value = no_number }
fast_struct (Err e) = record { refusal = refusal_number_of e; found = 0; value = no_number }

abbrev pub fitted_struct : Result Figures Refusal → Fitted
fitted_struct (Ok f) = record { refusal = 0; index = 0; new_blocks = f.new_blocks; new_votes = f.new_votes; bytes = f.bytes }
fitted_struct (Err e) = record { refusal = refusal_number_of e; index = refusal_index_of e; new_blocks = 0; new_votes = 0; bytes = 0 }

-- no equivocation, and why: refused, for packet 1 or 2, or 0 for none
abbrev pub refused_of : ℕ → Refusal → Compared
refused_of packet e =
    record {
      refusal = refusal_number_of e;
      index = refusal_index_of e;
      packet = packet;
      found = 0;
      voter = 0;
      slot = 0;
      block = no_number;
      other = no_number;
    }

abbrev pub compared_struct : Result (Option Equivocation) NotCompared → Compared
compared_struct (Ok (Some e)) =
    record {
      refusal = 0;
      index = 0;
      packet = 0;
      found = 1;
      voter = e.voter;
      slot = e.slot;
      block = exported_number e.block;
      other = exported_number e.other;
    }
compared_struct (Ok None) =
    record { refusal = 0; index = 0; packet = 0; found = 0; voter = 0; slot = 0; block = no_number; other = no_number }
compared_struct (Err (not_compared.First e)) = refused_of 1 e
compared_struct (Err (not_compared.Second e)) = refused_of 2 e
compared_struct (Err (not_compared.Memory e)) = refused_of 0 e

abbrev pub written_struct : Result ℕ Refusal → Written
written_struct (Ok n) = record { refusal = 0; bytes = n }
written_struct (Err e) = record { refusal = refusal_number_of e; bytes = 0 }

-- ---- what every exported function promises

-- an answer of the node that meets the node's promise, and the struct that stands for it
pub record Stands {A S : Type 0} (promise : A → Type 0) (struct : A → S) (r : S) : Type 0 where
  pub answer : A
  pub promised : promise answer
  pub stands : r ≡ struct answer
