-- The whole sort, "Order" of document 01's "Refused, by place", from 62 on: an edge that joins no node, a table that is too short, and
-- then the search, which ends with an order or a cycle (61).
-- `meaning` gives this paper's number, section and address for each case of the code's answer.
use Rattle.std.specs.Prelude.{ℕ, ◌+◌, ◌-◌, ◌≤◌, ◌<◌, ◌≡◌, List, [], ◌⊎◌, ◌≢◌, length, get_or, take, ltb}
use Rattle.lists.specs.Outcome.{Outcome, accepted, refused, refuse, ◌>>◌}
use Rattle.obj.specs.Answers.{Answer}
use Rattle.obj.specs.declared.Refusal.{Refusal}
use Rattle.std.specs.Prelude.{Result, Ok, Err}
use Rattle.toposort.specs.declared.Unsorted.{Unsorted}
use Rattle.toposort.specs.declared.Unsorted.TheVariants.{Cycle, NoNode, Short}
use Rattle.toposort.specs.Search.{Graph, End, all, cyclic, lost, bad_edge, searched, next_edge}

-- what the sort gives for a table with room for so many nodes
unfoldable pub sort_of : Graph → ℕ → Outcome End
sort_of g room = do
  -- "62 edge from or to no node"; "for 62 address is the edge's number"
  refuse 62 0 (bad_edge g.count g.from g.to) (ltb (bad_edge g.count g.from g.to) (length g.from))
  -- "76 unit table shorter than the nodes"
  refuse 76 0 0 (ltb room g.count)
  -- "61 cycle, left in the unit table", or the order
  accepted (searched g)

-- the nodes that are left in the table: the order, or "61 cycle, left in the unit table" (a search never ends lost: `searched_right`)
abbrev pub nodes_left : Outcome End → List ℕ
nodes_left (accepted (all l)) = l
nodes_left (accepted (cyclic l)) = l
nodes_left (accepted lost) = []
nodes_left (refused number section address) = []

-- what an answer of the code says, beside the table that it leaves
abbrev pub meaning : Result ℕ Unsorted → List ℕ → Outcome End
meaning (Ok n) table = accepted (all (take n table))
meaning (Err (Cycle k)) table = accepted (cyclic (take k table))
meaning (Err (NoNode e)) table = refused 62 0 e
meaning (Err Short) table = refused 76 0 0

-- how many nodes the answer leaves in the table
abbrev pub kept : Result ℕ Unsorted → ℕ
kept (Ok n) = n
kept (Err (Cycle k)) = k
kept (Err (NoNode e)) = 0
kept (Err Short) = 0

-- the number that an answer carries
abbrev pub carried : Result ℕ Unsorted → ℕ
carried (Ok n) = n
carried (Err (Cycle k)) = k
carried (Err (NoNode e)) = e
carried (Err Short) = 0

-- document 01's number, section and address where there is no order
abbrev pub refusal_of : Unsorted → Refusal
refusal_of (Cycle k) = record { number = 61; section = 0; address = 0 }
refusal_of (NoNode e) = record { number = 62; section = 0; address = e }
refusal_of Short = record { number = 76; section = 0; address = 0 }

-- .. and for each case of the answer
abbrev pub answer_of : Result ℕ Unsorted → Answer
answer_of (Ok n) = Ok tt
answer_of (Err why) = Err (refusal_of why)

-- the answer and the table mean this outcome; the ranges that callers need
pub record Sorts (o : Outcome End) (size : ℕ) (answer : Result ℕ Unsorted) (table : List ℕ) : Type 0 where
  pub means : meaning answer table ≡ o
  pub long : length table ≡ size
  pub room : kept answer ≤ size
  pub small : carried answer ≤ 2048

-- a graph within the ceilings: "1,024 units", "2,048 edges"
pub record Within (g : Graph) : Type 0 where
  pub nodes : g.count ≤ 1024
  pub edges : length g.from ≤ 2048
  pub paired : length g.to ≡ length g.from

-- such a graph whose edges join nodes
pub record Sound (g : Graph) : Type 0 where
  pub nodes : g.count ≤ 1024
  pub edges : length g.from ≤ 2048
  pub paired : length g.to ≡ length g.from
  pub starts : (e : ℕ) → e < length g.from → get_or g.from e 0 < g.count
  pub goals : (e : ℕ) → e < length g.from → get_or g.to e 0 < g.count

-- the edges chained by the node that they leave: each node's first edge, and after each edge the next one of its node
pub record Chained (from heads chain : List ℕ) : Type 0 where
  pub heads_long : length heads ≡ 1024
  pub chain_long : length from ≤ length chain
  pub head : (v : ℕ) → v < 1024 → get_or heads v 0 ≡ next_edge from v 0
  pub follow : (e : ℕ) → e < length from → get_or chain e 0 ≡ next_edge from (get_or from e 0) (e + 1)

-- what the chaining asks: a place for every node that an edge leaves, and for every edge
pub record Chainable (from heads chain : List ℕ) : Type 0 where
  pub few : length from ≤ 2048
  pub heads_long : length heads ≡ 1024
  pub chain_long : length from ≤ length chain
  pub starts : (e : ℕ) → e < length from → get_or from e 0 < 1024

-- `next` is 0 or comes right after an edge that leaves v
abbrev pub After : List ℕ → ℕ → ℕ → Type 0
After from v next = (next ≡ 0) ⊎ ((get_or from (next - 1) 0 ≡ v) × (next ≤ length from))

pub record Follows (from heads chain : List ℕ) (v next : ℕ) : Type 0 where
  pub chained : Chained from heads chain
  pub few : length from ≤ 2048
  pub node : v < 1024
  pub after : After from v next

-- what a move asks: the root's next is a node or the end, another's comes after an edge of its own
pub record Moves (g : Graph) (heads chain : List ℕ) (cur next : ℕ) : Type 0 where
  pub chained : Chained g.from heads chain
  pub few : length g.from ≤ 2048
  pub paired : length g.to ≡ length g.from
  pub low : next ≤ 2048
  pub inner : cur ≢ 1024 → (cur < 1024) × After g.from cur next

-- what the search starts from: edges that join nodes, chained, and a table with room for the nodes
pub record Ready (g : Graph) (heads chain table : List ℕ) : Type 0 where
  pub sound : Sound g
  pub chained : Chained g.from heads chain
  pub room : g.count ≤ length table
