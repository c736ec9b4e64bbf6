-- The entry `toposort` on its lent bytes: a node count, an edge table, and what is left in the node table and in the counts, for every
-- input. Document 01, "Refused, by place": the tables' 2 and 1 first, then the place Order from 62 on.
-- The theorems about what it answers, over these bytes: proofs/Theorems.antt.
use Rattle.std.specs.Prelude.{ℕ, ◌+◌, ◌*◌, ◌/◌, ◌%◌, ◌≤◌, ◌<◌, ◌≡◌, List, [], ◌∷◌, not, length, eqb, ltb}
use Rattle.std.proofs.lemmas.List.Edits.{sets}
use Rattle.lists.specs.Rows.{tabulate}
use Rattle.lists.specs.Outcome.{Outcome, accepted, refused, refuse, ◌>>◌}
use Rattle.lists.specs.Tables.{laid}
use Rattle.fields.specs.Fields.{le16}
use Rattle.obj.specs.Answers.{refusal_word, word, place}
use Rattle.outputs.specs.Outputs.{halves, counts_of}
use Rattle.toposort.specs.Search.{Graph, End, all, cyclic, lost}
use Rattle.toposort.specs.Sorting.{sort_of, kept, carried, answer_of, nodes_left}
use Rattle.toposort.specs.declared.Unsorted.{Unsorted}
use Rattle.std.specs.Prelude.{Result}

-- an edge is four bytes, "from 2, to 2": the two columns
unfoldable pub starts_of : List ℕ → List ℕ
starts_of edges = tabulate (λ i. le16 edges (4 * i)) 0 (length edges / 4)

unfoldable pub goals_of : List ℕ → List ℕ
goals_of edges = tabulate (λ i. le16 edges (4 * i + 2)) 0 (length edges / 4)

abbrev pub graph_of : ℕ → List ℕ → Graph
graph_of nodes edges = record { count = nodes; from = starts_of edges; to = goals_of edges }

-- what the entry gives for a node table of `size` bytes
unfoldable pub toposort_of : (nodes : ℕ) → (edges : List ℕ) → (size : ℕ) → Outcome End
toposort_of nodes edges size = do
  -- "1,024 units": "for 2 the first too many"
  refuse 2 0 1024 (ltb 1024 nodes)
  -- "1 .. cut": the edge table isn't whole records; at the number of the whole ones
  refuse 1 0 (place (length edges / 4)) (not (eqb (length edges % 4) 0))
  -- "2,048 edges"
  refuse 2 0 2048 (ltb 2048 (length edges / 4))
  -- 62, 76 and the search, whose cycle is 61
  sort_of (graph_of nodes edges) (size / 2)

-- the word: 0 for an order; "61 cycle" at (0, 0); else the refusal's (a search never ends lost: toposort's `searched_right`)
abbrev pub word_of : Outcome End → ℕ
word_of (accepted (all l)) = 0
word_of (accepted (cyclic l)) = refusal_word 61 0 0
word_of (accepted lost) = 0
word_of (refused number section address) = refusal_word number section address

-- the answer, and every byte of the two outputs: "zeros after", all zeros after another refusal
pub record Leaves (o : Outcome End) (size counts_size answer : ℕ) (out counts : List ℕ) : Type 0 where
  pub said : answer ≡ word_of o
  pub nodes : out ≡ laid size (halves (nodes_left o))
  pub counted : counts ≡ counts_of counts_size (length (nodes_left o) ∷ [])

-- the first n nodes of a node table, as a caller reads them
unfoldable pub nodes_in : List ℕ → ℕ → List ℕ
nodes_in out n = tabulate (λ i. le16 out (2 * i)) 0 n

-- tables that no check refuses: within the ceilings, whole edges that join nodes, and room for all nodes
pub record Good (nodes : ℕ) (edges : List ℕ) (size : ℕ) : Type 0 where
  pub few_nodes : nodes ≤ 1024
  pub whole : length edges % 4 ≡ 0
  pub few_edges : length edges / 4 ≤ 2048
  pub joined : (e : ℕ) → e < length edges / 4 → (le16 edges (4 * e) < nodes) × (le16 edges (4 * e + 2) < nodes)
  pub room : 2 * nodes ≤ size

-- ---- inside the entry

-- no check of the tables refuses: within the ceilings, so what is left is the sort
pub record Checked (nodes : ℕ) (edges : List ℕ) : Type 0 where
  pub few_nodes : nodes ≤ 1024
  pub few_edges : length edges / 4 ≤ 2048
  pub sorted : (size : ℕ) → toposort_of nodes edges size ≡ sort_of (graph_of nodes edges) (size / 2)

-- before the clearing: the word, the number of nodes, and the nodes at the front
pub record Ends (o : Outcome End) (r : Result ℕ Unsorted) (before after : List ℕ) : Type 0 where
  pub said : word (answer_of r) ≡ word_of o
  pub counted : kept r ≡ length (nodes_left o)
  pub front : after ≡ sets before 0 (halves (nodes_left o))
  pub room : 2 * kept r ≤ length before
  pub few : kept r ≤ 1024
  pub small : carried r ≤ 2048
