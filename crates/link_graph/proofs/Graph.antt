-- The columns of edges are those of the graph: the node of each unit stands in the column by name, every unit of a split has one, and of the units that have
-- an order those with a node are kept. Assumes nothing.
use Prim.Native.Nat.{ℕ, zero, suc, ◌+◌, ◌-◌, ◌≤◌, ◌<◌}
use mathlib.Core.Path.{◌≡◌, refl, sym, ap, ap₂, ◌∙◌}
use mathlib.Core.List.{List, [], ◌∷◌, ◌++◌, map, map-map, map-append}
use mathlib.Core.Bool.{Bool, true, false, not, ◌&&◌}
use mathlib.Core.Logic.{inl, inr}
use native.Mathlib.Nat.{le_of_suc-le-suc, not-suc-le-zero}
use native.Mathlib.Omega.{arith}
use borrow.Author.Tests.{lt-ltb, ltb-true, eq-eqb, ne_eqb}
use lib.Dec.{eqb}
use lib.ListN.{length, get_or, take, length-map, length-append, length-take}
use Rattle.std.proofs.lemmas.List.{get_or-map}
use Rattle.lists.specs.Rows.{keep_if, tabulate, any_of}
use Rattle.lists.specs.Sort.{sort_by, All, none, each}
use Rattle.lists.specs.Members.{In}
use Rattle.lists.proofs.Rows.{length-tabulate}
use Rattle.lists.proofs.All.{all_map, all_keep, all_any}
use Rattle.lists.proofs.Filter.{keep_same, keep_passes, map_keep}
use Rattle.lists.proofs.Ranks.{length-kept, map_same}
use Rattle.lists.proofs.Sort.{length_sort}
use Rattle.lists.proofs.Rising.{numbers-below}
use Rattle.obj.specs.declared.Split.{Split}
use Rattle.obj.specs.declared.Unit as units
use Rattle.obj.specs.Nothing.{no_split}
use Rattle.tables.specs.Records.{units_in}
use Rattle.order_numbers.specs.Numbers.{has_order, ordered, ordered_numbers}
use Rattle.symbol_order.specs.Keys.{rank_of, unit_of}
use Rattle.order_numbers.proofs.Records.{ordered_records, length-ordered}
use Rattle.order_numbers.proofs.Parts.{ordered_readable}
use Rattle.splits.specs.Columns.{Columns, rows, row_at}
use Rattle.splits.specs.Table.{columns_of}
use Rattle.splits.specs.Questions.{is_common}
use Rattle.link_graph.specs.Graph.{Given, UnitEdge, node_of, has_node, units_of, counted, nodes, split_at, is_first, apart, edge_at, split_edges, chained, links, edges, graph_of}
use Rattle.link_graph.specs.Columns.{mark, Marked, Listed, Front}
use Rattle.link_graph.specs.Tables.{given_of, Edgeable, Edged}
use Rattle.link_graph.specs.declared.link_tables.LinkTables.{LinkTables}
use Rattle.link_graph.specs.declared.link_tables.LinkGraph.{LinkGraph}
use Rattle.link_graph.proofs.Nodes.{in_has, counted_in, length-counted, mark_is, no_mark}
use Rattle.link_graph.proofs.Rows.{row_at_lem, units_of_rows}
use Rattle.link_graph.proofs.Edges.{start_in, goal_in}

-- ---- lists

pub all_mapped : {A B : Type 0} {P : B → Type 0} (f : A → B) {l : List A} → All (λ x. P (f x)) l → All P (map f l)
all_mapped f none = none
all_mapped f (each h p) = each h (all_mapped f p)

pub in_at : (l : List ℕ) (k : ℕ) → k < length l → In (get_or l k 0) l
in_at [] k h = absurd (not-suc-le-zero h)
in_at (x ∷ l) zero h = inl refl
in_at (x ∷ l) (suc k) h = inr (in_at l k (le_of_suc-le-suc h))

-- ---- the splits
module _ (splits : List Split) where
  -- the unit of every split is a node
  pub unit_in : (k : ℕ) → k < length splits → In (split_at splits k).unit (nodes splits)
  unfolding nodes
  unit_in k h =
      let at = get_or-map (λ (s : Split). s.unit) splits k no_split 0 h in
      counted_in (split_at splits k).unit (units_of splits) []
      (rw (sym at) (in_at (units_of splits) k (omega (arith, length-map splits (λ (s : Split). s.unit)))))

  pub length-nodes : length (nodes splits) ≤ length splits
  unfolding nodes
  length-nodes = omega (arith, length-counted (units_of splits) [], length-map splits (λ (s : Split). s.unit))

  -- what holds of each pair of neighbours holds of each edge
  pub edges_all : {P : UnitEdge → Type 0} (pointers : ℕ → Bool) → ((i : ℕ) → i + 1 < length splits → P (edge_at splits i)) → All P (split_edges pointers splits)
  unfolding split_edges
  edges_all {P} pointers f = all_mapped (edge_at splits) (all_keep _ (all_map (λ i h. f i (omega arith)) (numbers-below (length splits - 1))))

-- ---- the column
module _ (splits : List Split) (column : List ℕ) (marked : Marked column (nodes splits)) where
  pub node-marked : (v : ℕ) → v < length column → In v (nodes splits) → get_or column v 0 ≡ node_of (nodes splits) v
  node-marked v h i = marked.marks v h ∙ mark_is (nodes splits) v (lt-ltb _ _ (in_has v (nodes splits) i))

  module _ (named : (k : ℕ) → k < length splits → (split_at splits k).unit < length column) (pointers : ℕ → Bool) where
    pub starts-marked : map (start_in column) (split_edges pointers splits) ≡ map (λ (e : UnitEdge). node_of (nodes splits) e.from) (split_edges pointers splits)
    starts-marked =
        map_same (start_in column) (λ (e : UnitEdge). node_of (nodes splits) e.from) _
        (edges_all splits pointers (λ i h. node-marked (split_at splits i).unit (named i (omega arith)) (unit_in splits i (omega arith))))

    pub goals_marked : map (goal_in column) (split_edges pointers splits) ≡ map (λ (e : UnitEdge). node_of (nodes splits) e.to) (split_edges pointers splits)
    goals_marked =
        map_same (goal_in column) (λ (e : UnitEdge). node_of (nodes splits) e.to) _
        (edges_all splits pointers (λ i h. node-marked (split_at splits (i + 1)).unit (named (i + 1) h) (unit_in splits (i + 1) h)))

-- a mark other than 65535 is a node's
marks_node : (seen : List ℕ) (v : ℕ) → length seen ≤ 65535 → not (eqb (mark seen v) 65535) ≡ has_node seen v
marks_node seen v few = go (has_node seen v) refl
  where
    go : (t : Bool) → has_node seen v ≡ t → not (eqb (mark seen v) 65535) ≡ t
    go true e = ap not (ne_eqb (mark seen v) 65535 (λ q. let h = ltb-true (node_of seen v) (length seen) e in let m = mark_is seen v e in omega arith))
    go false e = ap not (eq-eqb (mark seen v) 65535 (no_mark seen v e))

-- ---- the chain
module _ (g : Given) (ub up column : List ℕ) (us : g.units ≡ units_in ub up) (marked : Marked column (nodes g.splits))
    (few : length (nodes g.splits) ≤ 65535)
    (inside : All (λ k. (unit_of ub up k).name < length column) (ordered_numbers ub up)) where
  -- the nodes, and the mark and the node of a record's unit
  abbrev N : List ℕ
  N = nodes g.splits

  abbrev mark_of : ℕ → ℕ
  mark_of k = mark N (unit_of ub up k).name

  abbrev node_at : ℕ → ℕ
  node_at k = node_of N (unit_of ub up k).name

  abbrev chains : ℕ → Bool
  chains k = has_node N (unit_of ub up k).name

  marks_kept : keep_if (λ v. not (eqb v 65535)) (map (λ k. get_or column (unit_of ub up k).name 0) (ordered_numbers ub up)) ≡ map node_at (keep_if chains (ordered_numbers ub up))
  marks_kept =
      ap (keep_if (λ v. not (eqb v 65535))) (map_same (λ k. get_or column (unit_of ub up k).name 0) mark_of _ (all_map (λ k h. marked.marks (unit_of ub up k).name h) inside))
      ∙ sym (map_keep mark_of (λ v. not (eqb v 65535)) (ordered_numbers ub up))
      ∙ ap (map mark_of) (keep_same (λ k. not (eqb (mark_of k) 65535)) chains (ordered_numbers ub up) (all_any (λ k. marks_node N (unit_of ub up k).name few) (ordered_numbers ub up)))
      ∙ map_same mark_of node_at _ (all_map (λ k h. mark_is N (unit_of ub up k).name h) (keep_passes chains (ordered_numbers ub up)))

  -- the records of the numbers
  names-kept : map (λ k. (unit_of ub up k).name) (keep_if chains (ordered_numbers ub up)) ≡ chained g
  unfolding chained
  names-kept =
      sym (map-map (λ (u : units.Unit). u.name) (unit_of ub up) (keep_if chains (ordered_numbers ub up)))
      ∙ ap (map (λ (u : units.Unit). u.name))
      (map_keep (unit_of ub up) (λ (u : units.Unit). has_node N u.name) (ordered_numbers ub up)
      ∙ ap (keep_if (λ (u : units.Unit). has_node N u.name)) (ordered_records ub up ∙ ap ordered (sym us)))

  -- the nodes that are kept are those of the units that are chained
  pub chain_kept : keep_if (λ v. not (eqb v 65535)) (map (λ k. get_or column (unit_of ub up k).name 0) (ordered_numbers ub up)) ≡ map (node_of (nodes g.splits)) (chained g)
  chain_kept = marks_kept ∙ sym (map-map (node_of N) (λ k. (unit_of ub up k).name) (keep_if chains (ordered_numbers ub up))) ∙ ap (map (node_of N)) names-kept

-- ---- edges from each to the next, of nodes and of units
module _ (f : ℕ → ℕ) where
  pub links-starts : (l : List ℕ) → map (λ (e : UnitEdge). e.from) (links (map f l)) ≡ map (λ (e : UnitEdge). f e.from) (links l)
  unfolding links
  links-starts [] = refl
  links-starts (x ∷ []) = refl
  links-starts (x ∷ y ∷ l) = ap (λ (t : List ℕ). f x ∷ t) (links-starts (y ∷ l))

  pub links_goals : (l : List ℕ) → map (λ (e : UnitEdge). e.to) (links (map f l)) ≡ map (λ (e : UnitEdge). f e.to) (links l)
  unfolding links
  links_goals [] = refl
  links_goals (x ∷ []) = refl
  links_goals (x ∷ y ∷ l) = ap (λ (t : List ℕ). f y ∷ t) (links_goals (y ∷ l))

-- ---- how many edges there are
length-links : (l : List ℕ) → length (links l) ≤ length l
unfolding links
length-links [] = omega arith
length-links (x ∷ []) = omega arith
length-links (x ∷ y ∷ l) = let ih = length-links (y ∷ l) in omega arith

module _ (g : Given) where
  length-split_edges : length (split_edges g.pointers g.splits) ≤ length g.splits
  unfolding split_edges
  length-split_edges =
      let m = length g.splits - 1 in
      let p : ℕ → Bool = λ i. not (apart g.pointers g.splits i) in
      omega (arith, length-map (keep_if p (tabulate (λ i. i) 0 m)) (edge_at g.splits), length-kept p (tabulate (λ i. i) 0 m), length-tabulate (λ i. i) 0 m)

  length-chained : length (chained g) ≤ length g.units
  unfolding chained ordered
  length-chained =
      let p : units.Unit → Bool = λ u. has_node (nodes g.splits) u.name in
      omega (
        arith,
        length-map (keep_if p (sort_by rank_of (keep_if has_order g.units))) (λ (u : units.Unit). u.name),
        length-kept p (sort_by rank_of (keep_if has_order g.units)),
        length_sort rank_of (keep_if has_order g.units),
        length-kept has_order g.units,
      )

  pub length-edges : length (edges g) ≤ length g.splits + length g.units
  unfolding edges
  length-edges =
      omega (arith, length-append (split_edges g.pointers g.splits) (links (chained g)), length-split_edges, length-links (chained g), length-chained)

-- ---- both together
module _ (g : Given) (from₁ from₂ to₁ to₂ kept : List ℕ) (e r : ℕ)
    (starts : take e from₁ ≡ map (λ (x : UnitEdge). node_of (nodes g.splits) x.from) (split_edges g.pointers g.splits))
    (goals : take e to₁ ≡ map (λ (x : UnitEdge). node_of (nodes g.splits) x.to) (split_edges g.pointers g.splits))
    (chain : kept ≡ map (node_of (nodes g.splits)) (chained g)) where
  pub all_starts : take r from₂ ≡ take e from₁ ++ map (λ (x : UnitEdge). x.from) (links kept) → take r from₂ ≡ (graph_of g).from
  unfolding edges
  all_starts q =
      q
      ∙ ap₂ (λ (s t : List ℕ). s ++ t) starts (ap (λ (l : List ℕ). map (λ (x : UnitEdge). x.from) (links l)) chain ∙ links-starts (node_of (nodes g.splits)) (chained g))
      ∙ sym (map-append (λ (x : UnitEdge). node_of (nodes g.splits) x.from) (split_edges g.pointers g.splits) (links (chained g)))

  pub all_goals : take r to₂ ≡ take e to₁ ++ map (λ (x : UnitEdge). x.to) (links kept) → take r to₂ ≡ (graph_of g).to
  unfolding edges
  all_goals q =
      q
      ∙ ap₂ (λ (s t : List ℕ). s ++ t) goals (ap (λ (l : List ℕ). map (λ (x : UnitEdge). x.to) (links l)) chain ∙ links_goals (node_of (nodes g.splits)) (chained g))
      ∙ sym (map-append (λ (x : UnitEdge). node_of (nodes g.splits) x.to) (split_edges g.pointers g.splits) (links (chained g)))

-- ---- what the functions leave
module _ {t : LinkTables} {numbers : List ℕ} {g : LinkGraph} (lent : Edgeable t numbers g) where
  abbrev G : Given
  G = given_of t

  abbrev ub : List ℕ
  ub = t.units.bytes.now

  abbrev up : List ℕ
  up = t.units.places.now

  abbrev column : List ℕ
  column = g.column.now

  pub numbers_inside : All (λ k. k < length up) numbers
  numbers_inside = (ordered_readable ub up numbers t.whole lent.lent.numbers_are).inside

  few_nodes : length (nodes G.splits) ≤ 65535
  few_nodes = omega (arith, length-nodes G.splits, length-tabulate (row_at (columns_of t.splits)) 0 t.splits.count, t.held.few)

  named : (k : ℕ) → k < length G.splits → (split_at G.splits k).unit < length column
  named k h =
      let q : k < t.splits.count = omega (arith, length-tabulate (row_at (columns_of t.splits)) 0 t.splits.count) in
      rw (ap (λ (s : Split). s.unit) (row_at_lem (columns_of t.splits) t.splits.count k q)) (lent.lent.named.splits k q)

  module _ {kept : List ℕ} {k : ℕ} (front : Front kept (keep_if (λ v. not (eqb v 65535)) (map (λ k. get_or column (unit_of ub up k).name 0) numbers)) (length numbers) k) where
    -- no more are kept than units have an order
    pub few_kept : length (take k kept) ≤ 1024
    few_kept = omega (arith, length-take k kept, front.small, ap length lent.lent.numbers_are, length-ordered ub up, t.few_units)

    -- the edges of neighbours, and then those of the nodes that are kept
    pub edged : (h m : LinkGraph) → Listed (start_in column) (goal_in column) (split_edges G.pointers G.splits) h.from.now h.to.now t.splits.count h.edges
        → take m.edges m.from.now ≡ take h.edges h.from.now ++ map (λ (x : UnitEdge). x.from) (links (take k kept))
        → take m.edges m.to.now ≡ take h.edges h.to.now ++ map (λ (x : UnitEdge). x.to) (links (take k kept)) → Edged G m
    edged h m l starts_are goals_are =
        let chain : take k kept ≡ map (node_of (nodes G.splits)) (chained G) =
        front.is ∙ ap (λ (m : List ℕ). keep_if (λ v. not (eqb v 65535)) (map (λ k. get_or column (unit_of ub up k).name 0) m)) lent.lent.numbers_are
        ∙ chain_kept G ub up column refl lent.marked few_nodes
        (all_map (λ k h. lent.lent.named.records k h) (ordered_readable ub up (ordered_numbers ub up) t.whole refl).inside) in
        let starts = l.starts ∙ starts-marked G.splits column lent.marked named G.pointers in
        let goals = l.goals ∙ goals_marked G.splits column lent.marked named G.pointers in
        record {
          starts = all_starts G h.from.now m.from.now h.to.now m.to.now (take k kept) h.edges m.edges starts goals chain starts_are;
          goals = all_goals G h.from.now m.from.now h.to.now m.to.now (take k kept) h.edges m.edges starts goals chain goals_are;
        }

-- the nodes counted of the units' column are those of the splits
pub counted-nodes : (c : Columns) (n : ℕ) → n ≤ length c.units → counted [] (take n c.units) ≡ nodes (rows c n)
unfolding nodes
counted-nodes c n h = ap (counted []) (sym (units_of_rows c n h))

-- ---- of the sections' names only those of the splits' sections matter
module _ (p q : ℕ → Bool) (splits : List Split) (agree : (i : ℕ) → i < length splits → p (split_at splits i).section ≡ q (split_at splits i).section) where
  same_apart : (i : ℕ) → i < length splits → apart p splits i ≡ apart q splits i
  unfolding apart
  same_apart i h =
      λ z. any_of
      (not (eqb (split_at splits i).section (split_at splits (i + 1)).section)
      ∷ eqb (split_at splits i).unit (split_at splits (i + 1)).unit
      ∷ (is_common (split_at splits (i + 1)) && not (is_common (split_at splits i)))
      ∷ (is_first splits i && agree i h z)
      ∷ [])

  pub same_edges : split_edges p splits ≡ split_edges q splits
  unfolding split_edges
  same_edges =
      ap (map (edge_at splits))
      (keep_same (λ i. not (apart p splits i)) (λ i. not (apart q splits i)) (tabulate (λ i. i) 0 (length splits - 1))
      (all_map (λ i h. ap not (same_apart i (omega arith))) (numbers-below (length splits - 1))))
