-- Where a run of the code stands: the memory of each node, and the log of what the code answered. And what that is in `resilience`:
-- a network and a world. Assumes nothing.
use Rattle.std.specs.Prelude.{ℕ, Bool, cond, List}
use Rattle.protocol.specs.declared.Profile.{Profile}
use Rattle.protocol.specs.Lent.{Lent, places_of, node_of}
use Rattle.resilience.specs.Run.{Network, World, Event, Turn, start, is_honest}

-- "All nodes start fresh, with the same n, E and K and each its own index": how many nodes, the expiry period and the depth,
-- which nodes are honest, and of each the limits that it keeps to and the memory that it is lent, as it stands before Open.
pub record Deployment : Type 0 where
  pub nodes : ℕ
  pub expiry : ℕ
  pub depth : ℕ
  pub honest : ℕ → Bool
  pub profile : ℕ → Profile
  pub lent : ℕ → Lent

pub record State : Type 0 where
  pub beat : ℕ  -- the beat last begun; 2 before the first
  pub memory : ℕ → Lent  -- of each node: the words of both tables, both counts, the clock
  pub turn : ℕ → Turn  -- where each node stands in the beat
  pub log : List Event  -- the latest first

-- ---- what they are in `resilience`

abbrev pub network : Deployment → Network
network D =
    record {
      nodes = D.nodes;
      expiry = D.expiry;
      depth = D.depth;
      honest = D.honest;
      profile = D.profile;
      places = λ i. places_of (D.lent i);
      before = λ i. node_of (D.lent i);
    }

-- The beat, the turns and the log are the same; an honest node is what its memory holds.
-- Of a dishonest node's memory nothing is said: in the world that node stands as it started.
abbrev pub decoded : Deployment → State → World
decoded D w =
    record {
      beat = w.beat;
      node = λ i. cond (is_honest (network D) i) (node_of (w.memory i)) ((start (network D)).node i);
      turn = w.turn;
      log = w.log;
    }
