-- The search of util/toposort.rs, a step at a time, on lists: a node's record is unseen, open with its next edge and parent, or closed
-- (document 01: "A node's record holds its state"), the edges stand in a table of two columns, and a node's edges come in the table's order.
-- The root stands above all nodes and opens each in turn, as in the Rust, where it is node n; here it is always the last of 1,025 records
-- ("All 1,025 node records start from one value").
-- What a right answer is, without the search: Answers.antt. The theorems that join the two: proofs/Theorems.antt.
use Rattle.std.specs.Prelude.{ℕ, zero, suc, ◌+◌, ◌*◌, ◌<◌, ◌≡◌, List, [], ◌∷◌, Bool, ◌||◌, cond, length, get_or, set, drop, replicate, leb, eqb}
use Rattle.toposort.specs.declared.State.{State}
use Rattle.toposort.specs.declared.State.TheVariants.{Unseen, Open, Closed}
use Rattle.toposort.specs.declared.Node.{Node}
use Rattle.toposort.specs.declared.Move.{Move}
use Rattle.toposort.specs.declared.Move.TheVariants.{Finish, Close, Take}

-- the graph: how many nodes, and the edges' two columns
pub record Graph : Type 0 where
  pub count : ℕ
  pub from : List ℕ
  pub to : List ℕ

abbrev pub node : State → Node
node s = record { state = s }

abbrev pub state_at : List Node → ℕ → State
state_at ns v = (get_or ns v (node Unseen)).state

-- the place of the first v, or the length
unfoldable pub first : ℕ → List ℕ → ℕ
first v [] = 0
first v (x ∷ xs) = cond (eqb x v) 0 (suc (first v xs))

-- the first edge at or after `start` that leaves v, or the number of edges
abbrev pub next_edge : List ℕ → ℕ → ℕ → ℕ
next_edge from v start = start + first v (drop start from)

-- the first edge from or to no node, or the number of edges
unfoldable pub bad_edge : ℕ → List ℕ → List ℕ → ℕ
bad_edge n [] to = 0
bad_edge n (x ∷ from) [] = 0
bad_edge n (x ∷ from) (y ∷ to) = cond (leb n x) 0 (cond (leb n y) 0 (suc (bad_edge n from to)))

-- whether edge e comes from or goes to no node
abbrev pub is_bad : ℕ → List ℕ → List ℕ → ℕ → Bool
is_bad n from to e = leb n (get_or from e 0) || leb n (get_or to e 0)

-- what an open node does: the root goes through the nodes, and a node through its edges
unfoldable pub move_of : Graph → ℕ → ℕ → Move
move_of g cur next =
    cond (eqb cur 1024)
    (cond (eqb next g.count) Finish (Take (next + 1) next))
    (cond (eqb (next_edge g.from cur next) (length g.from))
    Close
    (Take (next_edge g.from cur next + 1) (get_or g.to (next_edge g.from cur next) 0)))

-- the parent of an open node
abbrev pub parent_of : State → ℕ
parent_of Unseen = 1024
parent_of (Open next parent) = parent
parent_of Closed = 1024

-- how many parents up `top` lies from `cur`
unfoldable pub hops : ℕ → List Node → ℕ → ℕ → ℕ
hops zero ns top cur = 0
hops (suc f) ns top cur = cond (eqb cur top) 0 (suc (hops f ns top (parent_of (state_at ns cur))))

-- `cur` and the k - 1 nodes above it, the uppermost first
unfoldable pub climb : ℕ → List Node → ℕ → List ℕ → List ℕ
climb zero ns cur below = below
climb (suc k) ns cur below = climb k ns (parent_of (state_at ns cur)) (cur ∷ below)

-- m parents up from `cur`
unfoldable pub up : ℕ → List Node → ℕ → ℕ
up zero ns cur = cur
up (suc m) ns cur = up m ns (parent_of (state_at ns cur))

-- the parents of `cur` lead to `top`, by way of records
pub record Reaches (ns : List Node) (top cur : ℕ) : Type 0 where
  pub far : ℕ
  pub short : far < 1025
  pub meets : up far ns cur ≡ top
  pub inside : (v : ℕ) → parent_of (state_at ns v) < 1025
  pub here : cur < 1025

-- the search: each node's record, the node that it stands at, and the closed nodes, the last closed first
pub record Search : Type 0 where
  pub nodes : List Node
  pub cur : ℕ
  pub order : List ℕ

pub data End : Type 0 where
  all : List ℕ → End
  cyclic : List ℕ → End
  lost : End

pub data Next : Type 0 where
  going : Search → Next
  ended : End → Next

-- the edge to `adj` was taken, and `adj` is in this state
unfoldable pub on_seen : List Node → ℕ → List ℕ → ℕ → State → Next
on_seen ns cur order adj Unseen = going (record { nodes = set ns adj (node (Open 0 cur)); cur = adj; order = order })
on_seen ns cur order adj (Open next parent) = ended (cyclic (climb (suc (hops 1025 ns adj cur)) ns cur []))
on_seen ns cur order adj Closed = going (record { nodes = ns; cur = cur; order = order })

unfoldable pub on_move : Search → ℕ → Move → Next
on_move s parent Finish = ended (all s.order)
on_move s parent Close = going (record { nodes = set s.nodes s.cur (node Closed); cur = parent; order = s.cur ∷ s.order })
on_move s parent (Take next adj) =
    on_seen (set s.nodes s.cur (node (Open next parent))) s.cur s.order adj
    (state_at (set s.nodes s.cur (node (Open next parent))) adj)

unfoldable pub on_state : Graph → Search → State → Next
on_state g s Unseen = ended lost
on_state g s (Open next parent) = on_move s parent (move_of g s.cur next)
on_state g s Closed = ended lost

abbrev pub step : Graph → Search → Next
step g s = on_state g s (state_at s.nodes s.cur)

unfoldable pub run : ℕ → Graph → Next → End
run zero g (going s) = lost
run zero g (ended e) = e
run (suc k) g (going s) = run k g (step g s)
run (suc k) g (ended e) = e

-- all 1,025 records unseen, but the root's, which is the last
abbrev pub start : Search
start = record { nodes = set (replicate 1025 (node Unseen)) 1024 (node (Open 0 1024)); cur = 1024; order = [] }

-- each step closes a node, opens one or passes an edge, so these steps are enough
abbrev pub enough : ℕ
enough = 1024 * 2050 + 2050

abbrev pub searched : Graph → End
searched g = run enough g (going start)
