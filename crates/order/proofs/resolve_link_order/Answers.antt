-- `order::resolve_link_order` meets its contract: 60 first; else the columns hold the graph, and its sort is the stage.
use mathlib.Core.Path.{◌≡◌, sym, ◌∙◌}
use mathlib.Core.Bool.{false}
use Prim.Native.Nat.{◌/◌}
use lib.ListN.{length}
use Rattle.order_numbers.specs.Numbers.{order_twice}
use Rattle.link_graph.specs.Tables.{given_of}
use Rattle.link_graph.proofs.Lent.{lent_still}
use Rattle.order.proofs.Stage.{order_twice_resolves, sorted_stage, resolves_as}
use Rattle.order.proofs.resolve_link_order.Goals as goal

pub returns-clause-resolves : goal.returns-clause-resolves
returns-clause-resolves c =
    let a = c.args in
    let g = given_of a.tables.now in
    let first : order_twice g.units ≡ false = sym c.order_twice.ensures ∙ c.if-order_twice.false in
    resolves_as (sorted_stage g (length a.out.now / 8) first) c.sort_graph.ensures.resolves

pub returns-then-order_twice-clause-resolves : goal.returns-then-order_twice-clause-resolves
returns-then-order_twice-clause-resolves c =
    let a = c.args in
    rw (c.from.ensures, c.new.ensures) (order_twice_resolves (given_of a.tables.now) (length a.out.now / 8) a.out.now (sym c.order_twice.ensures ∙ c.if-order_twice.true))

pub returns-clause-lent : goal.returns-clause-lent
returns-clause-lent c = lent_still c.make_graph.ensures.lent c.sort_graph.ensures.lent
