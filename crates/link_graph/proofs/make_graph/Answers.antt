-- `link_graph::make_graph`: the column is blank before the units are counted, and has their nodes when the edges are made.
use Rattle.std.proofs.Common.{◌≡◌, ◌∙◌, sym, ap, arith, length, replicate, subst, take, ℕ}
use lib.Seq.{length-take-le}
use Rattle.splits.specs.Table.{columns_of}
use Rattle.link_graph.specs.Columns.{Marked}
use Rattle.link_graph.proofs.Rows.{units_named}
use Rattle.link_graph.proofs.Graph.{counted-nodes}
use Rattle.link_graph.proofs.make_graph.Goals as goal

pub count_units-requires : goal.count_units-requires
count_units-requires c =
    let t = c.args.tables.now in
    let b = c.blank in
    let long = length-take-le t.splits.count t.splits.units.now t.splits.long.units in
    record {
      few = omega (arith, long, t.held.few);
      room = omega (arith, long, t.held.few, c.args.graph.now.long.long_nodes);
      named = units_named (columns_of t.splits) t.splits.count t.splits.long.units (length b.new.column) (λ i h. omega (arith, b.auto.column, c.requires.named.splits i h));
      blank = b.ensures ∙ ap (λ (k : ℕ). replicate k 65535) (sym b.auto.column);
    }

pub make_edges-requires : goal.make_edges-requires
make_edges-requires c =
    let t = c.args.tables.now in
    let u = c.count_units in
    let same : length u.new.graph.column.now ≡ length c.args.graph.now.column.now = u.ensures.lent.column.size ∙ c.blank.auto.column in
    record {
      lent = record {
        named = record { splits = λ i h. omega (arith, same, c.requires.named.splits i h); records = λ k h. omega (arith, same, c.requires.named.records k h) };
        numbers_are = c.requires.numbers_are;
      };
      marked = subst (Marked u.new.graph.column.now) (counted-nodes (columns_of t.splits) t.splits.count t.splits.long.units) u.ensures.counted.marked;
    }

pub returns-clause-graph : goal.returns-clause-graph
returns-clause-graph c =
    let t = c.args.tables.now in
    let e = c.make_edges.ensures in
    record {
      nodes_are = (λ i. take (e.others.count i) (e.others.nodes i)) ∙ c.count_units.ensures.counted.is ∙ counted-nodes (columns_of t.splits) t.splits.count t.splits.long.units;
      edged = e.edges;
    }
