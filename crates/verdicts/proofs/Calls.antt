-- Each call on lent memory by its verdict, as the code of the calls goes on from it. Assumes nothing.
use Prim.Native.Nat.{ℕ, ◌/◌}
use mathlib.Core.Path.{◌≡◌}
use mathlib.Core.Bool.{Bool}
use mathlib.Core.List.{List, [], ◌∷◌}
use lib.ListN.{length}
use Rattle.protocol.specs.declared.Settings.{Settings}
use Rattle.protocol.specs.declared.Width.{Width}
use Rattle.protocol.specs.Store.{kept_from}
use Rattle.protocol.specs.Packet.{packet_of}
use Rattle.protocol.specs.Refusal.{Refusal, pass, refuse, refused, done, unsound}
use Rattle.protocol.specs.Calls.Receive.{viewed_at_once, receive_tests, receive_answer, receive_into, receive}
use Rattle.protocol.specs.Calls.Propose.{base_of, propose_tests, propose_into, propose}
use Rattle.protocol.specs.Calls.Vote.{head_of, vote_tests, vote_into, vote}
use Rattle.protocol.specs.Calls.Merge.{merge_tests, merge_into, merge}
use Rattle.protocol.specs.Calls.Query.{query_tests, deep_of, fast_of, settled_tests, settled_of, head_query, deep_query, fast_query, settled_query}
use Rattle.protocol.specs.Calls.Write.{packet_out, over, write_tests, write}
use Rattle.protocol.specs.Calls.Fit.{packet_tests, figures_of, fit_query}
use Rattle.protocol.specs.Calls.Compare.{comparison, compare_query}
use Rattle.protocol.specs.Lent.{Lent, places_of, node_of, store_node, call_lent, ask_lent, write_lent}
use Rattle.verdicts.specs.Lent.{lent_verdict}
use Rattle.verdicts.proofs.Lent.{call-refused, call-done, ask-refused, ask-done, written-refused, written-done}

module _ (s : Settings) (m : Lent) where
  module _ (beat : ℕ) (bytes : List ℕ) where
    pub receive-refused : (k : Refusal) → lent_verdict s (λ p x. receive_tests s p x beat bytes) m ≡ refuse k
        → call_lent s (λ p x. receive s p x beat bytes) m ≡ record { answer = refused k; lent = m }
    unfolding receive
    receive-refused = call-refused s (λ p x. receive_tests s p x beat bytes) m (λ p x. receive_answer (kept_from s x.clock.merged) x beat (packet_of bytes)) (λ p x. receive_into (kept_from s x.clock.merged) (viewed_at_once x beat (packet_of bytes)) beat x (packet_of bytes))

    pub receive-done : lent_verdict s (λ p x. receive_tests s p x beat bytes) m ≡ pass
        → call_lent s (λ p x. receive s p x beat bytes) m ≡ record {
          answer = done (receive_answer (kept_from s m.clock.merged) (node_of m) beat (packet_of bytes));
          lent = store_node (receive_into (kept_from s m.clock.merged) (viewed_at_once (node_of m) beat (packet_of bytes)) beat (node_of m) (packet_of bytes)) m;
        }
    unfolding receive node_of
    receive-done = call-done s (λ p x. receive_tests s p x beat bytes) m (λ p x. receive_answer (kept_from s x.clock.merged) x beat (packet_of bytes)) (λ p x. receive_into (kept_from s x.clock.merged) (viewed_at_once x beat (packet_of bytes)) beat x (packet_of bytes))

  module _ (beat number : ℕ) where
    pub propose-refused : (k : Refusal) → lent_verdict s (λ p x. propose_tests s p x beat number) m ≡ refuse k
        → call_lent s (λ p x. propose s p x beat number) m ≡ record { answer = refused k; lent = m }
    unfolding propose
    propose-refused = call-refused s (λ p x. propose_tests s p x beat number) m (λ p x. base_of s x (beat / 3)) (λ p x. propose_into s x beat number)

    pub propose-done : lent_verdict s (λ p x. propose_tests s p x beat number) m ≡ pass
        → call_lent s (λ p x. propose s p x beat number) m ≡ record { answer = done (base_of s (node_of m) (beat / 3)); lent = store_node (propose_into s (node_of m) beat number) m }
    unfolding propose
    propose-done = call-done s (λ p x. propose_tests s p x beat number) m (λ p x. base_of s x (beat / 3)) (λ p x. propose_into s x beat number)

  module _ (beat : ℕ) where
    pub vote-refused : (k : Refusal) → lent_verdict s (λ p x. vote_tests s p x beat) m ≡ refuse k → call_lent s (λ p x. vote s p x beat) m ≡ record { answer = refused k; lent = m }
    unfolding vote
    vote-refused = call-refused s (λ p x. vote_tests s p x beat) m (λ p x. head_of s x (beat / 3)) (λ p x. vote_into s x beat)

    pub vote-done : lent_verdict s (λ p x. vote_tests s p x beat) m ≡ pass
        → call_lent s (λ p x. vote s p x beat) m ≡ record { answer = done (head_of s (node_of m) (beat / 3)); lent = store_node (vote_into s (node_of m) beat) m }
    unfolding vote
    vote-done = call-done s (λ p x. vote_tests s p x beat) m (λ p x. head_of s x (beat / 3)) (λ p x. vote_into s x beat)

    pub merge-refused : (k : Refusal) → lent_verdict s (λ p x. merge_tests s p x beat) m ≡ refuse k → call_lent s (λ p x. merge s p x beat) m ≡ record { answer = refused k; lent = m }
    unfolding merge
    merge-refused = call-refused s (λ p x. merge_tests s p x beat) m (λ p x. tt) (λ p x. merge_into (kept_from s (beat / 3)) x beat)

    pub merge-done : lent_verdict s (λ p x. merge_tests s p x beat) m ≡ pass
        → call_lent s (λ p x. merge s p x beat) m ≡ record { answer = done tt; lent = store_node (merge_into (kept_from s (beat / 3)) (node_of m) beat) m }
    unfolding merge
    merge-done = call-done s (λ p x. merge_tests s p x beat) m (λ p x. tt) (λ p x. merge_into (kept_from s (beat / 3)) x beat)

  module _ (slot : ℕ) (k : Refusal) (e : lent_verdict s (λ p x. query_tests s p x slot) m ≡ refuse k) where
    pub head-refused : ask_lent s (λ p x. head_query s p x slot) m ≡ refused k
    unfolding head_query
    head-refused = ask-refused s (λ p x. query_tests s p x slot) m (λ p x. head_of s x slot) k e

    pub deep-refused : ask_lent s (λ p x. deep_query s p x slot) m ≡ refused k
    unfolding deep_query
    deep-refused = ask-refused s (λ p x. query_tests s p x slot) m (λ p x. deep_of s x slot) k e

    pub fast-refused : ask_lent s (λ p x. fast_query s p x slot) m ≡ refused k
    unfolding fast_query
    fast-refused = ask-refused s (λ p x. query_tests s p x slot) m (λ p x. fast_of s x slot) k e

  module _ (slot : ℕ) (e : lent_verdict s (λ p x. query_tests s p x slot) m ≡ pass) where
    pub head_done : ask_lent s (λ p x. head_query s p x slot) m ≡ done (head_of s (node_of m) slot)
    unfolding head_query
    head_done = ask-done s (λ p x. query_tests s p x slot) m (λ p x. head_of s x slot) e

    pub deep-done : ask_lent s (λ p x. deep_query s p x slot) m ≡ done (deep_of s (node_of m) slot)
    unfolding deep_query
    deep-done = ask-done s (λ p x. query_tests s p x slot) m (λ p x. deep_of s x slot) e

    pub fast-done : ask_lent s (λ p x. fast_query s p x slot) m ≡ done (fast_of s (node_of m) slot)
    unfolding fast_query
    fast-done = ask-done s (λ p x. query_tests s p x slot) m (λ p x. fast_of s x slot) e

  module _ (beat : ℕ) (bytes : List ℕ) where
    pub fit_refused : (k : Refusal) → lent_verdict s (λ p x. packet_tests s p x beat bytes) m ≡ refuse k → ask_lent s (λ p x. fit_query s p x beat bytes) m ≡ refused k
    unfolding fit_query
    fit_refused = ask-refused s (λ p x. packet_tests s p x beat bytes) m (λ p x. figures_of (kept_from s x.clock.merged) x (packet_of bytes))

    pub fit-done : lent_verdict s (λ p x. packet_tests s p x beat bytes) m ≡ pass
        → ask_lent s (λ p x. fit_query s p x beat bytes) m ≡ done (figures_of (kept_from s m.clock.merged) (node_of m) (packet_of bytes))
    unfolding fit_query node_of
    fit-done = ask-done s (λ p x. packet_tests s p x beat bytes) m (λ p x. figures_of (kept_from s x.clock.merged) x (packet_of bytes))

  module _ (beat : ℕ) (one two : List ℕ) where
    pub compare-refused : (k : Refusal) → lent_verdict s (λ p x. unsound s p x ∷ []) m ≡ refuse k → ask_lent s (λ p x. compare_query s p x beat one two) m ≡ refused k
    unfolding compare_query
    compare-refused = ask-refused s (λ p x. unsound s p x ∷ []) m (λ p x. comparison s p beat one two)

    pub compare-done : lent_verdict s (λ p x. unsound s p x ∷ []) m ≡ pass → ask_lent s (λ p x. compare_query s p x beat one two) m ≡ done (comparison s (places_of m) beat one two)
    unfolding compare_query
    compare-done = ask-done s (λ p x. unsound s p x ∷ []) m (λ p x. comparison s p beat one two)

  module _ (slot silent : ℕ) where
    pub settled-refused : (k : Refusal) → lent_verdict s (λ p x. settled_tests s p x slot silent) m ≡ refuse k → ask_lent s (λ p x. settled_query s p x slot silent) m ≡ refused k
    unfolding settled_query
    settled-refused = ask-refused s (λ p x. settled_tests s p x slot silent) m (λ p x. settled_of s x slot silent)

    pub settled-done : lent_verdict s (λ p x. settled_tests s p x slot silent) m ≡ pass → ask_lent s (λ p x. settled_query s p x slot silent) m ≡ done (settled_of s (node_of m) slot silent)
    unfolding settled_query
    settled-done = ask-done s (λ p x. settled_tests s p x slot silent) m (λ p x. settled_of s x slot silent)

  module _ (proposal : Bool) (width : Width) (buffer : List ℕ) where
    pub write-refused : (k : Refusal) → lent_verdict s (λ p x. write_tests s p x proposal width buffer) m ≡ refuse k
        → write_lent s (λ p x. write s p x proposal width buffer) m buffer ≡ record { answer = refused k; buffer = buffer }
    unfolding write
    write-refused = written-refused s (λ p x. write_tests s p x proposal width buffer) m (λ p x. packet_out proposal width x) buffer

    pub write_done : lent_verdict s (λ p x. write_tests s p x proposal width buffer) m ≡ pass
        → write_lent s (λ p x. write s p x proposal width buffer) m buffer
        ≡ record { answer = done (length (packet_out proposal width (node_of m))); buffer = over (packet_out proposal width (node_of m)) buffer }
    unfolding write
    write_done = written-done s (λ p x. write_tests s p x proposal width buffer) m (λ p x. packet_out proposal width x) buffer
