-- The cases P1 to P4 as one table: the nodes, the edges, the room and the expected outcome of each.
use Prim.Native.Nat.{ℕ}
use mathlib.Core.Path.{◌≡◌, refl}
use mathlib.Core.List.{List, [], ◌∷◌, map}
use Rattle.lists.specs.Outcome.{Outcome, accepted, refused, refuse, ◌>>◌}
use Rattle.toposort.specs.Search.{Graph, End, all, cyclic, first, bad_edge, move_of, hops, climb, on_seen, on_move, on_state, run}
use Rattle.toposort.specs.Sorting.{sort_of}

pub record Case : Type 0 where
  pub nodes : ℕ
  pub edges : List (ℕ × ℕ)
  pub room : ℕ
  pub outcome : Outcome End

abbrev pub cases : List Case
cases =
    -- P1: no nodes
    record { nodes = 0; edges = []; room = 0; outcome = accepted (all []) }
    -- P2: 0 and 1 before 2
    ∷ record { nodes = 3; edges = (0, 2) ∷ (1, 2) ∷ []; room = 4; outcome = accepted (all (1 ∷ 0 ∷ 2 ∷ [])) }
    -- P3: 1 and 2 before each other
    ∷ record { nodes = 3; edges = (0, 1) ∷ (1, 2) ∷ (2, 1) ∷ []; room = 3; outcome = accepted (cyclic (1 ∷ 2 ∷ [])) }
    -- P4: an edge to no node
    ∷ record { nodes = 2; edges = (0, 2) ∷ []; room = 2; outcome = refused 62 0 0 }
    ∷ []

abbrev pub graph_of : Case → Graph
graph_of c = record { count = c.nodes; from = map (λ (e : ℕ × ℕ). e.0) c.edges; to = map (λ (e : ℕ × ℕ). e.1) c.edges }

-- THEOREM: each case has its expected outcome
pub cases_hold : map (λ (c : Case). sort_of (graph_of c) c.room) cases ≡ map (λ (c : Case). c.outcome) cases
unfolding sort_of refuse ◌>>◌ first bad_edge move_of hops climb on_seen on_move on_state run
cases_hold = refl
