-- From nodes to units: an edge of the graph between two nodes joins their units, and the other way round; so an order of the nodes is a right order of the
-- units, and a cycle of nodes one of units. Assumes nothing.
use Prim.Native.Nat.{ℕ, zero, suc, ◌≤◌, ◌<◌, zero-le, suc-le-suc}
use mathlib.Core.Path.{◌≡◌, refl, sym, ap, subst, ◌∙◌}
use mathlib.Core.List.{List, [], ◌∷◌, map}
use mathlib.Core.Logic.{inl, inr}
use native.Mathlib.Nat.{le_of_suc-le-suc, not-suc-le-zero}
use native.Mathlib.Omega.{arith}
use lib.ListN.{length, get_or, length-map}
use Rattle.std.proofs.lemmas.List.{get_or-map}
use Rattle.lists.specs.Members.{In, Distinct}
use Rattle.lists.proofs.All.{all_at}
use Rattle.lists.proofs.Members.{fresh_in, fresh_of, in_map}
use Rattle.toposort.specs.Sorting.{Sound, Within}
use Rattle.toposort.specs.Answers as nodes-of
use Rattle.link_graph.specs.Graph.{Given, UnitEdge, edge, node_of, units_of, nodes, edges, graph_of}
use Rattle.link_graph.specs.Joined.{Joined, Before, InOrder, Way, HasCycle, Closes, IsCycle}
use Rattle.link_graph.proofs.Nodes.{in_has, node_back, counted_once}
use Rattle.link_graph.proofs.Graph.{in_at, length-nodes, length-edges}
use Rattle.link_graph.proofs.Joined.{BySection, place_of, edges_join, join_edges, joined_in}

-- ---- lists of distinct numbers

-- no number stands at two places
apart_at : (l : List ℕ) → Distinct l → (i j : ℕ) → i < length l → j < length l → get_or l i 0 ≡ get_or l j 0 → i ≡ j
apart_at [] d i j h k e = absurd (not-suc-le-zero h)
apart_at (x ∷ l) d zero zero h k e = refl
apart_at (x ∷ l) d zero (suc j) h k e = absurd (fresh_in x l d.0 (subst (λ (y : ℕ). In y l) (sym e) (in_at l j (le_of_suc-le-suc k))))
apart_at (x ∷ l) d (suc i) zero h k e = absurd (fresh_in x l d.0 (subst (λ (y : ℕ). In y l) e (in_at l i (le_of_suc-le-suc h))))
apart_at (x ∷ l) d (suc i) (suc j) h k e = ap suc (apart_at l d.1 i j (le_of_suc-le-suc h) (le_of_suc-le-suc k) e)

-- members of a list of values
module _ (f : ℕ → ℕ) where
  map_in : (w : ℕ) (l : List ℕ) → In w (map f l) → (v : ℕ) × In v l × (f v ≡ w)
  map_in w [] i = absurd i
  map_in w (x ∷ l) (inl e) = (x, inl refl, sym e)
  map_in w (x ∷ l) (inr i) = let r = map_in w l i in (r.0, inr r.1, r.2)

  -- f differs on the list's members
  distinct_map : (n : ℕ) → ((i j : ℕ) → i < n → j < n → f i ≡ f j → i ≡ j) → (l : List ℕ) → ((v : ℕ) → In v l → v < n) → Distinct l → Distinct (map f l)
  distinct_map n one [] inside d = tt
  distinct_map n one (x ∷ l) inside d = (
    fresh_of (f x) (map f l) (λ w i e.
        let r = map_in w l i in
        let same = one x r.0 (inside x (inl refl)) (inside r.0 (inr r.1)) (e ∙ sym r.2) in
        fresh_in x l d.0 (subst (λ (y : ℕ). In y l) (sym same) r.1)),
    distinct_map n one l (λ v i. inside v (inr i)) d.1,
  )

-- ---- the graph
module _ (g : Given) (lies : BySection g.splits) where
  abbrev N : List ℕ
  N = nodes g.splits

  -- the unit of a node
  abbrev unit_at : ℕ → ℕ
  unit_at v = get_or N v 0

  pub nodes_once : Distinct N
  unfolding nodes
  nodes_once = counted_once (units_of g.splits) [] tt

  unit_once : (i j : ℕ) → i < length N → j < length N → unit_at i ≡ unit_at j → i ≡ j
  unit_once i j h k e = apart_at N nodes_once i j h k e

  -- an edge between nodes joins their units
  pub edge_joins : (v w : ℕ) → nodes-of.Edge (graph_of g) v w → (v < length N) × (w < length N) × Joined g (unit_at v) (unit_at w)
  edge_joins v w e =
      let inside : e.at < length (edges g) = rw (length-map (edges g) (λ (x : UnitEdge). node_of N x.from)) at e.inside in
      let x = get_or (edges g) e.at (edge 0 0) in
      let joined = all_at e.at (edge 0 0) (edges_join g lies) inside in
      let members = joined_in g x.from x.to joined in
      let start : node_of N x.from ≡ v = sym (get_or-map (λ (y : UnitEdge). node_of N y.from) (edges g) e.at (edge 0 0) 0 inside) ∙ e.leaves in
      let goal : node_of N x.to ≡ w = sym (get_or-map (λ (y : UnitEdge). node_of N y.to) (edges g) e.at (edge 0 0) 0 inside) ∙ e.enters in (
        subst (λ (k : ℕ). k < length N) start (in_has x.from N members.0),
        subst (λ (k : ℕ). k < length N) goal (in_has x.to N members.1),
        subst2 (sym (node_back x.from N members.0) ∙ ap unit_at start) (sym (node_back x.to N members.1) ∙ ap unit_at goal) joined,
      )
    where
      subst2 : {a b c d : ℕ} → a ≡ c → b ≡ d → Joined g a b → Joined g c d
      subst2 {a} {b} {c} {d} p q j = subst (λ (y : ℕ). Joined g c y) q (subst (λ (y : ℕ). Joined g y b) p j)

  -- two units that are joined have an edge between their nodes
  pub joins_edge : (a b : ℕ) → Joined g a b → nodes-of.Edge (graph_of g) (node_of N a) (node_of N b)
  joins_edge a b j =
      let s = join_edges g lies a b j in record {
        at = s.at;
        inside = rw (length-map (edges g) (λ (x : UnitEdge). node_of N x.from)) s.inside;
        leaves = get_or-map (λ (x : UnitEdge). node_of N x.from) (edges g) s.at (edge 0 0) 0 s.inside ∙ ap (λ (x : UnitEdge). node_of N x.from) s.is;
        enters = get_or-map (λ (x : UnitEdge). node_of N x.to) (edges g) s.at (edge 0 0) 0 s.inside ∙ ap (λ (x : UnitEdge). node_of N x.to) s.is;
      }

  -- ---- ways and cycles
  way_of : (v : ℕ) (l : List ℕ) (w : ℕ) → nodes-of.Path (graph_of g) v l w → Way g (unit_at v) (map unit_at l) (unit_at w)
  way_of v [] w p = (edge_joins v w p).2
  way_of v (x ∷ l) w p = ((edge_joins v x p.0).2, way_of x l w p.1)

  path_of : (a : ℕ) (l : List ℕ) (b : ℕ) → Way g a l b → nodes-of.Path (graph_of g) (node_of N a) (map (node_of N) l) (node_of N b)
  path_of a [] b p = joins_edge a b p
  path_of a (x ∷ l) b p = (joins_edge a x p.0, path_of x l b p.1)

  -- the graph holds a cycle exactly if the units do
  pub cycle_units : nodes-of.HasCycle (graph_of g) → HasCycle g
  cycle_units h = record { first = unit_at h.first; rest = map unit_at h.rest; closes = way_of h.first h.rest h.first h.closes }

  pub units_cycle : HasCycle g → nodes-of.HasCycle (graph_of g)
  units_cycle h = record { first = node_of N h.first; rest = map (node_of N) h.rest; closes = path_of h.first h.rest h.first h.closes }

  path_inside : (v : ℕ) (l : List ℕ) (w : ℕ) → nodes-of.Path (graph_of g) v l w → (u : ℕ) → In u (v ∷ l) → u < length N
  path_inside v [] w p u (inl e) = subst (λ (k : ℕ). k < length N) (sym e) (edge_joins v w p).0
  path_inside v [] w p u (inr i) = absurd i
  path_inside v (x ∷ l) w p u (inl e) = subst (λ (k : ℕ). k < length N) (sym e) (edge_joins v x p.0).0
  path_inside v (x ∷ l) w p u (inr i) = path_inside x l w p.1 u i

  pub cycle_inside : (l : List ℕ) → nodes-of.Closes (graph_of g) l → (u : ℕ) → In u l → u < length N
  cycle_inside [] c u i = absurd c
  cycle_inside (x ∷ l) c u i = path_inside x l x c u i

  -- THEOREM: the units of a cycle of nodes are a cycle of units
  pub units_of_cycle : (l : List ℕ) → nodes-of.IsCycle (graph_of g) l → IsCycle g (map unit_at l)
  units_of_cycle l c = record {
    closes = closed l c.closes;
    once = distinct_map unit_at (length N) unit_once l (cycle_inside l c.closes) c.once;
  }
    where
      closed : (m : List ℕ) → nodes-of.Closes (graph_of g) m → Closes g (map unit_at m)
      closed [] q = q
      closed (x ∷ m) q = way_of x m x q

  -- ---- orders
  forward_once : (l : List ℕ) → nodes-of.Forward (graph_of g) l → Distinct l
  forward_once [] f = tt
  forward_once (x ∷ l) f = (f.0, forward_once l f.2)

  -- a later place
  later_place : (x : ℕ) (l : List ℕ) (a b : ℕ) → Before l a b → Before (x ∷ l) a b
  later_place x l a b p =
      record { at = suc p.at; later = suc p.later; rising = suc-le-suc p.rising; inside = suc-le-suc p.inside; first = p.first; second = p.second }

  first-place : (x : ℕ) (l : List ℕ) (b : ℕ) → In b l → Before (x ∷ l) x b
  first-place x l b i =
      let p = place_of b l i in
      record { at = 0; later = suc p.0; rising = suc-le-suc zero-le; inside = suc-le-suc p.1; first = refl; second = p.2 }

  forward_before : (l : List ℕ) → nodes-of.Forward (graph_of g) l → (v w : ℕ) → In v l → nodes-of.Edge (graph_of g) v w → Before (map unit_at l) (unit_at v) (unit_at w)
  forward_before [] f v w i e = absurd i
  forward_before (x ∷ l) f v w (inl q) e =
      subst (λ (y : ℕ). Before (map unit_at (x ∷ l)) y (unit_at w)) (ap unit_at (sym q))
      (first-place (unit_at x) (map unit_at l) (unit_at w) (in_map unit_at w l (f.1 w (subst (λ (y : ℕ). nodes-of.Edge (graph_of g) y w) q e))))
  forward_before (x ∷ l) f v w (inr i) e = later_place (unit_at x) (map unit_at l) (unit_at v) (unit_at w) (forward_before l f.2 v w i e)

  -- THEOREM: the units of an order of the nodes are in order
  pub units_of_order : (l : List ℕ) → nodes-of.IsOrder (graph_of g) l → InOrder g (map unit_at l)
  units_of_order l o = record {
    whole = λ v i. subst (λ (y : ℕ). In y (map unit_at l)) (node_back v N i) (in_map unit_at (node_of N v) l (o.whole (node_of N v) (in_has v N i)));
    only = λ v i. let r = map_in unit_at v l i in subst (λ (y : ℕ). In y N) r.2 (in_at N r.0 (o.only r.0 r.1));
    once = distinct_map unit_at (length N) unit_once l o.only (forward_once l o.forward);
    long = length-map l unit_at ∙ o.long;
    forward = λ a b j.
        let members = joined_in g a b j in
        let step = forward_before l o.forward (node_of N a) (node_of N b) (o.whole (node_of N a) (in_has a N members.0)) (joins_edge a b j) in
        subst (λ (y : ℕ). Before (map unit_at l) a y) (node_back b N members.1) (subst (λ (y : ℕ). Before (map unit_at l) y (unit_at (node_of N b))) (node_back a N members.0) step);
  }

  -- ---- the graph is sound: "62 edge from or to no node" cannot come
  module _ (few_splits : length g.splits ≤ 1024) (few_units : length g.units ≤ 1024) where
    pub graph_within : Within (graph_of g)
    graph_within = record {
      nodes = omega (arith, length-nodes g.splits);
      edges = omega (arith, length-map (edges g) (λ (x : UnitEdge). node_of N x.from), length-edges g);
      paired = length-map (edges g) (λ (x : UnitEdge). node_of N x.to) ∙ sym (length-map (edges g) (λ (x : UnitEdge). node_of N x.from));
    }

    pub joins_nodes : Sound (graph_of g)
    joins_nodes = record {
      nodes = graph_within.nodes;
      edges = graph_within.edges;
      paired = graph_within.paired;
      starts = λ e h. (edge_joins _ _ (record { at = e; inside = h; leaves = refl; enters = refl })).0;
      goals = λ e h. (edge_joins _ _ (record { at = e; inside = h; leaves = refl; enters = refl })).1;
    }
