-- The tables and columns that are lent together: what the link order is given in them, and the graph that they then hold.
use Rattle.std.specs.Prelude.{ℕ, ◌<◌, ◌≡◌, List, length, take}
use Rattle.lists.specs.Slices.{SameSlice}
use Rattle.tables.specs.Records.{units_in}
use Rattle.splits.specs.Table.{columns_of, rows_of}
use Rattle.order_numbers.specs.Numbers.{ordered_numbers}
use Rattle.symbol_order.specs.Keys.{unit_of}
use Rattle.link_graph.specs.Graph.{Given, nodes, graph_of}
use Rattle.link_graph.specs.Columns.{pointers_in, UnitsBelow, Marked}
use Rattle.link_graph.specs.declared.link_tables.LinkTables.{LinkTables}
use Rattle.link_graph.specs.declared.link_tables.LinkGraph.{LinkGraph}

-- what the lent tables give the stage
abbrev pub given_of : LinkTables → Given
given_of t = record {
  splits = rows_of t.splits;
  units = units_in t.units.bytes.now t.units.places.now;
  pointers = pointers_in t.heads.bytes.now t.heads.places.now t.names.bytes.now t.names.places.now t.names.lengths.now;
}

-- the splits' units and the unit records have names below m: they have places in a column of m
pub record NamesBelow (t : LinkTables) (m : ℕ) : Type 0 where
  pub splits : UnitsBelow (columns_of t.splits) t.splits.count m
  pub records : (k : ℕ) → k < length t.units.places.now → (unit_of t.units.bytes.now t.units.places.now k).name < m

-- ---- the graph

-- what it is made of: a place in the column for every unit, and the numbers of the units that have an order
pub record Lent (t : LinkTables) (numbers : List ℕ) (g : LinkGraph) : Type 0 where
  pub named : NamesBelow t (length g.column.now)
  pub numbers_are : numbers ≡ ordered_numbers t.units.bytes.now t.units.places.now

-- .. and its edges: the column has the nodes
pub record Edgeable (t : LinkTables) (numbers : List ℕ) (g : LinkGraph) : Type 0 where
  pub lent : Lent t numbers g
  pub marked : Marked g.column.now (nodes (rows_of t.splits))

-- the edges stand at the front of the columns
pub record Edged (given : Given) (g : LinkGraph) : Type 0 where
  pub starts : take g.edges g.from.now ≡ (graph_of given).from
  pub goals : take g.edges g.to.now ≡ (graph_of given).to

-- the nodes too
pub record Graphed (given : Given) (g : LinkGraph) : Type 0 where
  pub nodes_are : take g.count g.nodes.now ≡ nodes given.splits
  pub edged : Edged given g

-- the columns are still those that were lent, of the same lengths
pub record SameLent (before after : LinkGraph) : Type 0 where
  pub column : SameSlice before.column after.column
  pub nodes : SameSlice before.nodes after.nodes
  pub from : SameSlice before.from after.from
  pub to : SameSlice before.to after.to

-- from g to h only the edges changed
pub record OnlyEdges (g h : LinkGraph) : Type 0 where
  pub column : h.column.now ≡ g.column.now
  pub nodes : h.nodes.now ≡ g.nodes.now
  pub count : h.count ≡ g.count
  pub lent : SameLent g h
