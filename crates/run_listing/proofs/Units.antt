-- The units in link order: each record has the name of its node, a unit of the splits, so that it is one of the names where theirs are.
-- Assumes nothing.
use Prim.Native.Nat.{ℕ, zero, suc, ◌<◌, ◌≤◌}
use mathlib.Core.Path.{◌≡◌, subst}
use mathlib.Core.Bool.{Bool, true, false, cond}
use mathlib.Core.List.{List, [], ◌∷◌, ◌++◌}
use native.Mathlib.Omega.{arith}
use lib.ListN.{length, get_or}
use Rattle.lists.specs.Outcome.{Outcome, accepted}
use Rattle.lists.specs.Sort.{All, none, each}
use Rattle.lists.proofs.All.{all_append, all_map, all_any}
use Rattle.lists.proofs.Outcomes.{then_inv}
use Rattle.obj.specs.declared.Split.{Split}
use Rattle.obj.specs.declared.Unit as units
use Rattle.toposort.specs.Search.{End, all}
use Rattle.toposort.specs.Sorting.{nodes_left}
use Rattle.link_graph.specs.Graph.{Given, has_node, counted, nodes, graph_of}
use Rattle.link_graph.proofs.Graph.{all_mapped}
use Rattle.link_graph.proofs.Units.{graph_within}
use Rattle.order.specs.LinkOrder.{link_order, record_of, records_of}
use Rattle.order.proofs.Stage.{left_inside, own_name}

-- without splits there are no nodes, and so none is left
no_nodes : (us : List units.Unit) (pointers : ℕ → Bool) (room : ℕ) (l : List ℕ) → length us ≤ 1024
    → link_order (record { splits = []; units = us; pointers = pointers }) room ≡ accepted (all l) → All (λ v. v < 0) l
unfolding link_order nodes counted
no_nodes us pointers room l few e =
    let g : Given = record { splits = []; units = us; pointers = pointers } in
    subst (λ (o : Outcome End). All (λ v. v < 0) (nodes_left o)) (then_inv _ _ _ _ _ _ e).1
    (left_inside (graph_of g) room (graph_within g (λ i j a b. absurd (omega arith)) (omega arith) few))

module _ (n : ℕ) where
  counted-below : (seen : List ℕ) {us : List ℕ} → All (λ v. v < n) seen → All (λ v. v < n) us → All (λ v. v < n) (counted seen us)
  unfolding counted
  counted-below seen p none = p
  counted-below seen p (each {x = x} h q) = counted-below (cond (has_node seen x) seen (seen ++ (x ∷ []))) (go (has_node seen x)) q
    where
      go : (b : Bool) → All (λ v. v < n) (cond b seen (seen ++ (x ∷ [])))
      go true = p
      go false = all_append p (each h none)

  -- the nodes are units of the splits
  nodes-below : (splits : List Split) → All (λ s. s.unit < n) splits → All (λ v. v < n) (nodes splits)
  unfolding nodes
  nodes-below splits p = counted-below [] none (all_mapped (λ (s : Split). s.unit) p)

  -- .. and what a lookup gives past their end is below n too, where n is not 0
  get_or-below : {l : List ℕ} (v : ℕ) → 0 < n → All (λ x. x < n) l → get_or l v 0 < n
  get_or-below v h none = h
  get_or-below zero h (each p q) = p
  get_or-below (suc v) h (each p q) = get_or-below v h q

  -- THEOREM: the names of the units in link order are below n, where those of the splits are
  pub units_below : (splits : List Split) (us : List units.Unit) (pointers : ℕ → Bool) (room : ℕ) (l : List ℕ) → length us ≤ 1024 → All (λ s. s.unit < n) splits
      → link_order (record { splits = splits; units = us; pointers = pointers }) room ≡ accepted (all l)
      → All (λ (u : units.Unit). u.name < n) (records_of splits us l)
  unfolding records_of
  units_below splits us pointers room l few p e = all_mapped (λ v. record_of splits us (get_or (nodes splits) v 0)) (go splits p e)
    where
      named : (splits : List Split) → All (λ s. s.unit < n) splits → 0 < n → (v : ℕ) → (record_of splits us (get_or (nodes splits) v 0)).name < n
      named splits p h v = omega (arith, own_name splits us (get_or (nodes splits) v 0), get_or-below v h (nodes-below splits p))

      go : (splits : List Split) → All (λ s. s.unit < n) splits → link_order (record { splits = splits; units = us; pointers = pointers }) room ≡ accepted (all l)
          → All (λ v. (record_of splits us (get_or (nodes splits) v 0)).name < n) l
      go [] p q = all_map (λ v h. absurd (omega arith)) (no_nodes us pointers room l few q)
      go (s ∷ later) (each h p) q = all_any (named (s ∷ later) (each h p) (omega arith)) l
