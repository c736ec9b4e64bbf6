-- `link_graph::split_edges`: before the first turn, a turn at a pair with an edge or without, and after the last one.
use Rattle.std.proofs.Common.{◌+◌, ◌<◌, ◌∙◌, sym, ap, arith, rules, get_or, length}
use Rattle.lists.proofs.Rows.{length-tabulate}
use Rattle.splits.specs.Columns.{row_of, row_at}
use Rattle.splits.specs.Table.{columns_of}
use Rattle.link_graph.proofs.Edges.{listing_start, listing_edge, listing_apart, listing_end, unit_of_row}
use Rattle.link_graph.proofs.Lent.{edges_same}
use Rattle.link_graph.proofs.split_edges.Goals as goal
use Rattle.link_graph.proofs.split_edges.Goals.{then-not-apart, else-not-apart}

pub loop-i-init : goal.loop-i-init
loop-i-init c = record { listing = listing_start _ _ _ _ _; others = edges_same }

pub bounds-graph-tables : goal.bounds-graph-tables
unfolding row_of
bounds-graph-tables c =
    let a = c.args in
    let l = c.loop-i in
    let named : get_or a.tables.now.splits.units.now l.i 0 < length a.graph.now.column.now = c.requires l.i (omega arith) in
    omega (arith, named, ap length l.invariant.others.column)

pub bounds-graph-tables-then-not-apart : goal.bounds-graph-tables-then-not-apart
unfolding row_of
bounds-graph-tables-then-not-apart c =
    let a = c.args in
    let l = c.loop-i in
    let named : get_or a.tables.now.splits.units.now (l.i + 1) 0 < length a.graph.now.column.now = c.requires (l.i + 1) (omega arith) in
    omega (arith, named, ap length l.invariant.others.column)

pub loop-i-preserved : goal.loop-i-preserved
loop-i-preserved c =
    let l = c.loop-i in
    let splits = c.args.tables.now.splits in
    let col = columns_of splits in
    let long = length-tabulate (row_at col) 0 splits.count in
    let few = l.invariant.listing.few in
    let others = l.invariant.others in
    elim c.if-not-apart.branch [
      | then-not-apart w ↦
          rw (w.graph-is, w.e-is) (record {
            listing = rw others.column
                (listing_edge l.invariant.listing (omega arith) (sym c.apart.ensures ∙ w.if-not-apart.true) _ _ (unit_of_row col splits.count _ (omega arith)) (unit_of_row col splits.count _ (omega arith))
                (omega (arith, few, l.graph.long.long_from, c.args.tables.now.held.few)) (omega (arith, few, l.graph.long.long_to, c.args.tables.now.held.few)));
            -- a slice of the graph was lent within the turn and came back: that it is still the one that the caller lent is found by search, and no fact says it by name
            others = record { column = others.column; nodes = others.nodes; count = others.count; lent = search rules };
          })
      | else-not-apart w ↦ rw (w.graph-is, w.e-is) (record { listing = listing_apart l.invariant.listing (omega arith) (sym c.apart.ensures ∙ w.if-not-apart.false); others = others })
    ]

pub returns-clause-edges : goal.returns-clause-edges
returns-clause-edges c =
    let l = c.loop-i in
    let splits = c.args.tables.now.splits in
    listing_end l.invariant.listing splits.count (length-tabulate (row_at (columns_of splits)) 0 splits.count) (omega arith) (omega arith)
