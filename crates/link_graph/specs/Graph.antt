-- The graph of the link order: document 01, "**Link order.** Units count by first split. An edge joins neighbours of different units in a section unless the
-- second alone is common; the first split of `.ctors` and `.dtors` is passed over. Units with an order number, a signed 32-bit one from lowest to highest,
-- chain those that have splits."
-- A unit is a name number; a node is the place of a unit in `nodes`, so that the search of crate toposort runs on them. What joins two units, said without
-- these lists, is in specs/Joined.antt; that it is the same: proofs/Joined.antt.
use Rattle.std.specs.Prelude.{ℕ, ◌+◌, ◌-◌, List, [], ◌∷◌, ◌++◌, map, Bool, cond, not, ◌&&◌, ◌||◌, length, get_or, eqb, ltb}
use Rattle.lists.specs.Rows.{tabulate, keep_if, first_in, any_of}
use Rattle.obj.specs.declared.Split.{Split}
use Rattle.obj.specs.declared.Unit as units
use Rattle.obj.specs.Nothing.{no_split}
use Rattle.order_numbers.specs.Numbers.{ordered}
use Rattle.toposort.specs.Search.{Graph}
use Rattle.splits.specs.Questions.{is_common}

-- what the stage is given: the splits as they lie in the table, the unit records, and which sections are named `.ctors` or `.dtors`
pub record Given : Type 0 where
  pub splits : List Split
  pub units : List units.Unit
  pub pointers : ℕ → Bool

-- ---- the nodes

-- the place of a unit among the nodes, or their number where it has none
abbrev pub node_of : (nodes : List ℕ) → (unit : ℕ) → ℕ
node_of nodes unit = first_in (λ x. eqb x unit) nodes

abbrev pub has_node : (nodes : List ℕ) → (unit : ℕ) → Bool
has_node nodes unit = ltb (node_of nodes unit) (length nodes)

-- those seen already, and then the others, each once
unfoldable pub counted : (seen us : List ℕ) → List ℕ
counted seen [] = seen
counted seen (x ∷ us) = counted (cond (has_node seen x) seen (seen ++ (x ∷ []))) us

abbrev pub units_of : List Split → List ℕ
units_of splits = map (λ (s : Split). s.unit) splits

-- "Units count by first split."
unfoldable pub nodes : List Split → List ℕ
nodes splits = counted [] (units_of splits)

-- ---- the edges of neighbours

-- an edge between two units
pub record UnitEdge : Type 0 where
  pub from : ℕ
  pub to : ℕ

abbrev pub edge : ℕ → ℕ → UnitEdge
edge a b = record { from = a; to = b }

abbrev pub split_at : List Split → ℕ → Split
split_at splits i = get_or splits i no_split

-- split i is the first of its section: splits lie by section
unfoldable pub is_first : List Split → ℕ → Bool
is_first splits i = eqb i 0 || not (eqb (split_at splits (i - 1)).section (split_at splits i).section)

-- split i and the next one give no edge
unfoldable pub apart : (pointers : ℕ → Bool) → List Split → ℕ → Bool
apart pointers splits i =
    any_of
    -- "neighbours .. in a section"
    (not (eqb (split_at splits i).section (split_at splits (i + 1)).section)
    -- "of different units"
    ∷ eqb (split_at splits i).unit (split_at splits (i + 1)).unit
    -- "unless the second alone is common"
    ∷ (is_common (split_at splits (i + 1)) && not (is_common (split_at splits i)))
    -- "the first split of `.ctors` and `.dtors` is passed over"
    ∷ (is_first splits i && pointers (split_at splits i).section)
    ∷ [])

abbrev pub edge_at : List Split → ℕ → UnitEdge
edge_at splits i = edge (split_at splits i).unit (split_at splits (i + 1)).unit

-- "An edge joins neighbours", in table order
unfoldable pub split_edges : (pointers : ℕ → Bool) → List Split → List UnitEdge
split_edges pointers splits = map (edge_at splits) (keep_if (λ i. not (apart pointers splits i)) (tabulate (λ i. i) 0 (length splits - 1)))

-- ---- the chain of order numbers

-- "Units with an order number .. from lowest to highest, chain those that have splits"
unfoldable pub chained : Given → List ℕ
chained g = map (λ (u : units.Unit). u.name) (keep_if (λ (u : units.Unit). has_node (nodes g.splits) u.name) (ordered g.units))

-- an edge from each to the next, also where both are one unit
unfoldable pub links : List ℕ → List UnitEdge
links [] = []
links (x ∷ []) = []
links (x ∷ y ∷ l) = edge x y ∷ links (y ∷ l)

-- ---- the graph

-- the edges of splits come before those of the chain, as they are pushed in the Rust
unfoldable pub edges : Given → List UnitEdge
edges g = split_edges g.pointers g.splits ++ links (chained g)

abbrev pub graph_of : Given → Graph
graph_of g = record {
  count = length (nodes g.splits);
  from = map (λ (e : UnitEdge). node_of (nodes g.splits) e.from) (edges g);
  to = map (λ (e : UnitEdge). node_of (nodes g.splits) e.to) (edges g);
}
