-- What the stage gives: 60, 76, a right order of the units, or a cycle of units; and a cycle exactly if there is one. It rests on what the sort may give
-- (toposort's `sorted_right`) and on the graph's edges being what joins two units (link_graph's `units_of_order`, `units_of_cycle`). Assumes nothing.
use Prim.Native.Nat.{ℕ, ◌≤◌, ◌<◌}
use mathlib.Core.Path.{◌≡◌, refl, sym, subst, ◌∙◌}
use mathlib.Core.List.{List, map}
use mathlib.Core.Bool.{Bool, true, false}
use native.Mathlib.Omega.{arith}
use lib.ListN.{length, get_or}
use Rattle.lists.specs.Outcome.{Outcome, accepted, refused}
use Rattle.lists.specs.Members.{In}
use Rattle.lists.proofs.Outcomes.{fails, passes}
use Rattle.toposort.specs.Search.{End, all, cyclic, lost, searched}
use Rattle.toposort.specs.Sorting.{sort_of, Sound}
use Rattle.toposort.specs.Answers.{Right}
use Rattle.toposort.proofs.Theorems.{Gives, no_node, too_short, answer, sorted_right}
use Rattle.order_numbers.specs.Numbers.{order_twice}
use Rattle.link_graph.specs.Graph.{Given, nodes, graph_of}
use Rattle.link_graph.specs.Joined.{InOrder, HasCycle, IsCycle}
use Rattle.link_graph.proofs.Joined.{BySection}
use Rattle.link_graph.proofs.Units.{units_cycle, cycle_inside, units_of_cycle, units_of_order, graph_within, joins_nodes}
use Rattle.order.specs.LinkOrder.{link_order}

-- the units of nodes
abbrev pub units_at : Given → List ℕ → List ℕ
units_at g l = map (λ v. get_or (nodes g.splits) v 0) l

-- what the stage may give for a unit table with this room
pub data Ways (g : Given) (room : ℕ) : Outcome End → Type 0 where
  number_twice : order_twice g.units ≡ true → Ways g room (refused 60 0 0)
  no_room : order_twice g.units ≡ false → room < length (nodes g.splits) → Ways g room (refused 76 0 0)
  ordered : length (nodes g.splits) ≤ room → (l : List ℕ) → InOrder g (units_at g l) → ((v : ℕ) → In v l → v < length (nodes g.splits)) → (HasCycle g → ⊥)
      → Ways g room (accepted (all l))
  on_cycle : (l : List ℕ) → IsCycle g (units_at g l) → ((v : ℕ) → In v l → v < length (nodes g.splits)) → Ways g room (accepted (cyclic l))

-- an order is no cycle
pub differ : (l m : List ℕ) → ◌≡◌ {A = End} (all l) (cyclic m) → ⊥
differ l m e = let z : ◌≡◌ {A = ℕ} 0 1 = cc in omega arith

module _ (g : Given) (lies : BySection g.splits) (few_splits : length g.splits ≤ 1024) (few_units : length g.units ≤ 1024) (room : ℕ) where
  sound : Sound (graph_of g)
  sound = joins_nodes g lies few_splits few_units

  sorted_ways : order_twice g.units ≡ false → (o : Outcome End) → Gives (graph_of g) room o → Ways g room o
  sorted_ways e o (no_node i b) = absurd (b.bad (sound.starts i b.inside, sound.goals i b.inside))
  sorted_ways e o (too_short s h) = no_room e h
  sorted_ways e o (answer s h r iff) = by_end (searched (graph_of g)) refl r
    where
      no_cycle : (l : List ℕ) → searched (graph_of g) ≡ all l → HasCycle g → ⊥
      no_cycle l q c = other (iff.0 (units_cycle g lies c))
        where
          other : (m : List ℕ) × (searched (graph_of g) ≡ cyclic m) → ⊥
          other m = differ l m.0 (sym q ∙ m.1)

      by_end : (x : End) → searched (graph_of g) ≡ x → Right (graph_of g) x → Ways g room (accepted x)
      by_end (all l) q o = ordered h l (units_of_order g lies l o) o.only (no_cycle l q)
      by_end (cyclic l) q c = on_cycle l (units_of_cycle g lies l c) (cycle_inside g lies l c.closes)
      by_end lost q c = absurd c

  -- THEOREM: every outcome of the stage is one of these
  pub ways : Ways g room (link_order g room)
  unfolding link_order
  ways = by_test (order_twice g.units) refl
    where
      by_test : (t : Bool) → order_twice g.units ≡ t → Ways g room (link_order g room)
      by_test true e = subst (Ways g room) (sym (fails 60 0 0 (order_twice g.units) (sort_of (graph_of g) room) e)) (number_twice e)
      by_test false e =
          subst (Ways g room) (sym (passes 60 0 0 (order_twice g.units) (sort_of (graph_of g) room) e))
          (sorted_ways e (sort_of (graph_of g) room) (sorted_right (graph_of g) room (graph_within g lies few_splits few_units)))
