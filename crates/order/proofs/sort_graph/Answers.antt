-- `order::sort_graph` meets its contract: the sort leaves nodes at the front of its part of the table, and their records are written.
use mathlib.Core.Path.{◌≡◌, refl, sym, ap, subst, ◌∙◌}
use mathlib.Core.List.{List}
use Prim.Native.Nat.{ℕ, ◌/◌, ◌≤◌, ◌<◌}
use native.Mathlib.Omega.{arith}
use lib.ListN.{length, take, drop}
use lib.Seq.{length-take-le}
use Rattle.lists.specs.Sort.{All}
use Rattle.tables.specs.Records.{units_in}
use Rattle.splits.specs.Table.{columns_of, rows_of}
use Rattle.toposort.specs.Search.{Graph}
use Rattle.toposort.specs.Sorting.{Within}
use Rattle.link_graph.specs.Graph.{graph_of}
use Rattle.link_graph.specs.Tables.{given_of}
use Rattle.link_graph.specs.declared.link_tables.LinkGraph.{LinkGraph}
use Rattle.toposort.proofs.Sorting.{sorts_in}
use Rattle.order.proofs.Stage.{left_inside, nodes-named, kept_long, kept-nodes, kept-fits, says_of, sorted_resolves, same_sort, resolves_as}
use Rattle.outputs.proofs.Room.{room_low}
use Rattle.order.proofs.sort_graph.Goals as goal

-- the nodes and the edges that stand at the front of the columns
abbrev front : LinkGraph → Graph
front g = record { count = g.count; from = take g.edges g.from.now; to = take g.edges g.to.now }

long_nodes : (g : LinkGraph) → length (take g.count g.nodes.now) ≡ g.count
long_nodes g = length-take-le g.count g.nodes.now (omega (arith, g.few_nodes, g.long.long_nodes))

within : (g : LinkGraph) → Within (front g)
within g =
    let from = length-take-le g.edges g.from.now (omega (arith, g.few_edges, g.long.long_from)) in
    let to = length-take-le g.edges g.to.now (omega (arith, g.few_edges, g.long.long_to)) in
    record { nodes = g.few_nodes; edges = omega (arith, from, g.few_edges); paired = to ∙ sym from }

pub slice_bounds-toposort-end : goal.slice_bounds-toposort-end
slice_bounds-toposort-end c = omega (arith, c.room_for-room.ensures, room_low 1024 8 (length c.args.out.now), c.requires.table_long)

pub slice_bounds-toposort-end-2 : goal.slice_bounds-toposort-end-2
slice_bounds-toposort-end-2 c = sym (length-take-le _ c.args.table.now (omega (arith, c.room_for-room.ensures, room_low 1024 8 (length c.args.out.now), c.requires.table_long)))

pub write_records-requires : goal.write_records-requires
write_records-requires c =
    let s = c in
    let a = s.args in
    let g = front a.graph.now in
    let size = length a.out.now in
    let t = c.toposort-r in
    let fits : c.room_for-room.result ≤ length a.table.now = omega (arith, c.room_for-room.ensures, room_low 1024 8 size, s.requires.table_long) in
    let sorted = sorts_in g c.room_for-room.result a.table.now fits t.ensures in
    let column = a.graph.now.column.now in
    let left = kept-nodes g size c.room_for-room.result t.result t.new.table (drop c.room_for-room.result a.table.now) c.kept-m.result a.graph.now.few_nodes c.room_for-room.ensures sorted c.kept-m.ensures in
    let long = kept_long g size c.room_for-room.result t.result t.new.table (drop c.room_for-room.result a.table.now) c.kept-m.result a.graph.now.few_nodes c.room_for-room.ensures sorted c.kept-m.ensures in
    let room = kept-fits g size c.room_for-room.result t.result t.new.table (drop c.room_for-room.result a.table.now) c.kept-m.result a.graph.now.few_nodes c.room_for-room.ensures sorted c.kept-m.ensures in (
      s.requires.named,
      s.requires.graphed.nodes_are,
      record {
        inside = rw (long_nodes a.graph.now)
            (subst (λ (l : List ℕ). All (λ v. v < a.graph.now.count) l) (sym left) (left_inside g (size / 8) (within a.graph.now)));
        named = subst (λ (l : List ℕ). All (λ x. x < length column) l) (sym s.requires.graphed.nodes_are)
            (nodes-named (columns_of a.tables.now.splits) a.tables.now.splits.count column s.requires.named.splits);
        room = omega (arith, long, room);
      },
    )

pub returns-clause-resolves : goal.returns-clause-resolves
returns-clause-resolves c =
    let s = c in
    let a = s.args in
    let g = front a.graph.now in
    let graphed = s.requires.graphed in
    let size = length a.out.now in
    let t = c.toposort-r in
    let fits : c.room_for-room.result ≤ length a.table.now = omega (arith, c.room_for-room.ensures, room_low 1024 8 size, s.requires.table_long) in
    let sorted = sorts_in g c.room_for-room.result a.table.now fits t.ensures in
    resolves_as
    (same_sort g (graph_of (given_of a.tables.now)) (size / 8) (sym (long_nodes a.graph.now) ∙ ap length graphed.nodes_are) graphed.edged.starts graphed.edged.goals)
    (sorted_resolves g size c.room_for-room.result t.result t.new.table (drop c.room_for-room.result a.table.now) c.kept-m.result a.graph.now.few_nodes c.room_for-room.ensures sorted c.kept-m.ensures
    (rows_of a.tables.now.splits) (units_in a.tables.now.units.bytes.now a.tables.now.units.places.now) c.map_err.result a.out.now _ refl (says_of _ _ c.map_err.ensures.cases) c.write_records.ensures)
