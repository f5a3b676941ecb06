-- A question to a fresh node: it receives a packet, merges it, and is asked for head, deep block and fast block, or for the settled block. Assumes nothing.
use Rattle.std.specs.Prelude.{ℕ, ◌+◌, ◌*◌, ◌||◌, cond, List, [], length, drop, ltb}
use Rattle.protocol.specs.declared.Settings.{Settings}
use Rattle.protocol.specs.declared.Profile.TheVariants.{Loom}
use Rattle.protocol.specs.Filters.{Choice}
use Rattle.protocol.specs.Store.{Places, Node}
use Rattle.protocol.specs.Packet.{number_at}
use Rattle.protocol.specs.Refusal.{by, Answer, refused, done, Outcome}
use Rattle.protocol.specs.Calls.Open.{open_node}
use Rattle.protocol.specs.Calls.Receive.{receive}
use Rattle.protocol.specs.Calls.Merge.{merge}
use Rattle.protocol.specs.Calls.Query.{head_query, deep_query, fast_query, settled_query}
use Rattle.answers.specs.Answers.{map_answer}
use Rattle.asking.specs.declared.Question.{Question}
use Rattle.asking.specs.declared.Question.TheVariants.{Chain, Settled}

-- ---- one call after another: the first refusal counts

module _ {A B : Type 0} where
  unfoldable pub then_answer : Answer A → Answer B → Answer B
  then_answer (refused k) r = refused k
  then_answer (done a) r = r

  -- a call, and then the next on the node that it left
  unfoldable pub and_then : (Places → Node → Outcome A) → (Places → Node → Answer B) → Places → Node → Answer B
  and_then call next p x = then_answer (call p x).answer (next p (call p x).node)

  -- the same of two calls that both change the node
  unfoldable pub then_call : (Places → Node → Outcome A) → (Places → Node → Outcome B) → Places → Node → Outcome B
  then_call call next p x = record {
    answer = and_then call (λ q y. (next q y).answer) p x;
    node = (next p (call p x).node).node;
  }

-- ---- the three answers: head, deep block and fast block; or the settled block

pub data Findings : Type 0 where
  findings : ℕ → ℕ → Choice → Findings
  settled_is : ℕ → Findings

unfoldable pub gather : Answer ℕ → Answer ℕ → Answer Choice → Answer Findings
gather (refused k) d f = refused k
gather (done h) (refused k) f = refused k
gather (done h) (done d) (refused k) = refused k
gather (done h) (done d) (done f) = done (findings h d f)

unfoldable pub ask_all : Settings → ℕ → Places → Node → Answer Findings
ask_all s slot p x = gather (head_query s p x slot) (deep_query s p x slot) (fast_query s p x slot)

-- with this set of silent nodes
unfoldable pub ask_settled : Settings → ℕ → ℕ → Places → Node → Answer Findings
ask_settled s slot silent p x = map_answer settled_is (settled_query s p x slot silent)

unfoldable pub ask_for : Settings → ℕ → Question → Places → Node → Answer Findings
ask_for s slot Chain = ask_all s slot
ask_for s slot (Settled silent) = ask_settled s slot silent

-- ---- the calls before them: Open, Receive and Merge

unfoldable pub prepared : Settings → ℕ → List ℕ → Places → Node → Outcome Unit
prepared s beat bytes = then_call (open_node s) (then_call (λ p x. receive s p x beat bytes) (λ p x. merge s p x beat))

abbrev pub places : Places
places = record { blocks = 512; votes = 1024 }

-- what stood in the memory before Open: nothing
abbrev pub empty : Node
empty = record { blocks = []; votes = []; clock = record { seen = 0; done = 0; merged = 0; proposed = 0 } }

unfoldable pub open_and_ask : Settings → ℕ → Question → List ℕ → Answer Findings
open_and_ask s slot question bytes = and_then (prepared s (3 * slot + 2) bytes) (ask_for s slot question) places empty

-- ---- the input: n in 1 byte, E and K in 2 each, a slot in 4, and a packet

unfoldable pub settings_in : List ℕ → Settings
settings_in bs = record { profile = Loom; nodes = number_at bs 0 1; own = 0; expiry = number_at bs 1 2; depth = number_at bs 3 2 }

-- the packet comes after so many bytes
unfoldable pub ask_after : ℕ → Question → List ℕ → Answer Findings
ask_after n question bs =
    cond (ltb (length bs) n || ltb 32768 (length bs)) (refused (by 8)) (open_and_ask (settings_in bs) (number_at bs 5 4) question (drop n bs))

unfoldable pub ask_with : List ℕ → Answer Findings
ask_with bs = ask_after 9 Chain bs

-- the same with the set of silent nodes, in 8 bytes, before the packet
unfoldable pub ask_with_silent : List ℕ → Answer Findings
ask_with_silent bs = ask_after 17 (Settled (number_at bs 9 8)) bs
