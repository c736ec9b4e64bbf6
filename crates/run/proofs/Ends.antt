-- How a link order ends: in an order, on a cycle, or refused with another number than 61; and every node that is left is one. It rests on what the sort may give
-- (toposort's `sorted_right`). Assumes nothing.
use Prim.Native.Nat.{ℕ, ◌≤◌, ◌<◌}
use mathlib.Core.Path.{◌≡◌, refl, sym, subst, ◌∙◌}
use mathlib.Core.List.{List}
use mathlib.Core.Bool.{Bool, true, false}
use mathlib.Core.Logic.{◌≢◌}
use native.Mathlib.Omega.{arith}
use lib.ListN.{length, length-map}
use Rattle.lists.specs.Sort.{All, none}
use Rattle.lists.specs.Outcome.{Outcome, accepted, refused}
use Rattle.lists.proofs.Outcomes.{fails, passes}
use Rattle.toposort.specs.Search.{End, all, cyclic, lost, searched}
use Rattle.toposort.specs.Sorting.{sort_of, Within, nodes_left}
use Rattle.toposort.specs.Answers.{Right}
use Rattle.toposort.proofs.Theorems.{Gives, no_node, too_short, answer, sorted_right}
use Rattle.order_numbers.specs.Numbers.{order_twice}
use Rattle.link_graph.specs.Graph.{Given, UnitEdge, node_of, nodes, edges, graph_of}
use Rattle.link_graph.proofs.Graph.{length-nodes, length-edges}
use Rattle.order.specs.LinkOrder.{link_order}
use Rattle.order.proofs.Stage.{left_inside}

-- these are nodes
abbrev pub Inside : Given → List ℕ → Type 0
Inside g l = All (λ v. v < length (nodes g.splits)) l

pub data Linked (g : Given) : Outcome End → Type 0 where
  in_order : (l : List ℕ) → Inside g l → Linked g (accepted (all l))
  on_cycle : (l : List ℕ) → Inside g l → Linked g (accepted (cyclic l))
  stopped : (number section address : ℕ) → number ≢ 61 → Linked g (refused number section address)

pub left_nodes : (g : Given) (o : Outcome End) → Linked g o → Inside g (nodes_left o)
left_nodes g o (in_order l h) = h
left_nodes g o (on_cycle l h) = h
left_nodes g o (stopped number section address q) = none

module _ (g : Given) (few_splits : length g.splits ≤ 1024) (few_units : length g.units ≤ 1024) (room : ℕ) where
  within : Within (graph_of g)
  within = record {
    nodes = omega (arith, length-nodes g.splits);
    edges = omega (arith, length-map (edges g) (λ (x : UnitEdge). node_of (nodes g.splits) x.from), length-edges g);
    paired =
        length-map (edges g) (λ (x : UnitEdge). node_of (nodes g.splits) x.to)
        ∙ sym (length-map (edges g) (λ (x : UnitEdge). node_of (nodes g.splits) x.from));
  }

  by_end : (e : End) → Right (graph_of g) e → Inside g (nodes_left (accepted e)) → Linked g (accepted e)
  by_end (all l) r h = in_order l h
  by_end (cyclic l) r h = on_cycle l h
  by_end lost r h = absurd r

  sorted : (o : Outcome End) → Gives (graph_of g) room o → Inside g (nodes_left o) → Linked g o
  sorted o (no_node i b) h = stopped 62 0 i (λ e. omega arith)
  sorted o (too_short s k) h = stopped 76 0 0 (λ e. omega arith)
  sorted o (answer s k r iff) h = by_end (searched (graph_of g)) r h

  pub link_ends : Linked g (link_order g room)
  unfolding link_order
  link_ends = by_test (order_twice g.units) refl
    where
      by_test : (t : Bool) → order_twice g.units ≡ t → Linked g (link_order g room)
      by_test true e = subst (Linked g) (sym (fails 60 0 0 (order_twice g.units) (sort_of (graph_of g) room) e)) (stopped 60 0 0 (λ z. omega arith))
      by_test false e =
          subst (Linked g) (sym (passes 60 0 0 (order_twice g.units) (sort_of (graph_of g) room) e))
          (sorted (sort_of (graph_of g) room) (sorted_right (graph_of g) room within) (left_inside (graph_of g) room within))
