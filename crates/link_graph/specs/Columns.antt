-- The graph in lent columns: what the functions ask of the tables, and what they leave. A column by name number has the node of each unit, or 65535 for none.
use Rattle.std.specs.Prelude.{ℕ, ◌≤◌, ◌<◌, ◌≡◌, List, [], map, Bool, cond, length, get_or, take, replicate}
use Rattle.lists.specs.Sort.{All}
use Rattle.obj.specs.Records.{section_at, Held}
use Rattle.names.specs.Names.{name_at, Named}
use Rattle.names.specs.Fixed.{is_pointer_list}
use Rattle.splits.specs.Columns.{Columns, row_at}
use Rattle.order_numbers.specs.Numbers.{Whole}
use Rattle.symbol_order.specs.Keys.{unit_of}
use Rattle.link_graph.specs.Graph.{UnitEdge, node_of, has_node, counted, nodes}

-- "the first split of `.ctors` and `.dtors`": section k has one of these names
abbrev pub pointers_in : (heads head_places name_bytes name_places name_lengths : List ℕ) → ℕ → Bool
pointers_in heads head_places name_bytes name_places name_lengths k =
    is_pointer_list (name_at name_bytes name_places name_lengths (section_at heads (get_or head_places k 0)).name)

-- ---- what is asked of the tables

-- every section's head and name are there
pub record SectionNames (heads head_places name_bytes name_places name_lengths : List ℕ) : Type 0 where
  pub held : (k : ℕ) → k < length head_places → Held 15 heads head_places k
  pub names : Named name_bytes name_places name_lengths (length name_places)
  pub named : (k : ℕ) → k < length head_places → (section_at heads (get_or head_places k 0)).name < length name_places

-- the splits are within their ceiling, and lie in sections that are there
pub record Splits (c : Columns) (n : ℕ) (heads head_places name_bytes name_places name_lengths : List ℕ) : Type 0 where
  pub few : n ≤ 1024
  pub sections : SectionNames heads head_places name_bytes name_places name_lengths
  pub sectioned : (i : ℕ) → i < n → (row_at c i).section < length head_places

-- the rows' units have places in a column of m
abbrev pub UnitsBelow : Columns → (n m : ℕ) → Type 0
UnitsBelow c n m = (i : ℕ) → i < n → (row_at c i).unit < m

-- the units' records are there, within their ceiling, and their names have a place in the column
pub record Units (unit_bytes unit_places column : List ℕ) : Type 0 where
  pub whole : Whole unit_bytes unit_places
  pub few : length unit_places ≤ 1024
  pub named : (k : ℕ) → k < length unit_places → (unit_of unit_bytes unit_places k).name < length column

-- ---- the nodes

-- what the column has for a unit
unfoldable pub mark : (nodes : List ℕ) → ℕ → ℕ
mark nodes unit = cond (has_node nodes unit) (node_of nodes unit) 65535

pub record Marked (column nodes : List ℕ) : Type 0 where
  pub marks : (v : ℕ) → v < length column → get_or column v 0 ≡ mark nodes v

-- what the counting asks: a blank column with a place for each unit, and room for the nodes
pub record Countable (us column nodes : List ℕ) : Type 0 where
  pub few : length us ≤ 1024
  pub room : length us ≤ length nodes
  pub named : All (λ x. x < length column) us
  pub blank : column ≡ replicate (length column) 65535

-- .. and leaves: the first r are the nodes
pub record Counted (us column nodes : List ℕ) (r : ℕ) : Type 0 where
  pub is : take r nodes ≡ counted [] us
  pub marked : Marked column (counted [] us)
  pub small : r ≤ length us

-- ---- the edges

-- r edges stand at the front of two columns
pub record Listed (f : UnitEdge → ℕ) (g : UnitEdge → ℕ) (l : List UnitEdge) (from to : List ℕ) (most r : ℕ) : Type 0 where
  pub starts : take r from ≡ map f l
  pub goals : take r to ≡ map g l
  pub small : r ≤ most

-- the first r of a column are this list
pub record Front (column list : List ℕ) (most r : ℕ) : Type 0 where
  pub is : take r column ≡ list
  pub small : r ≤ most

-- ---- the graph

-- the columns have room for 1,024 nodes and 2,048 edges
pub record GraphRoom (nodes from to : List ℕ) : Type 0 where
  pub long_nodes : 1024 ≤ length nodes
  pub long_from : 2048 ≤ length from
  pub long_to : 2048 ≤ length to
