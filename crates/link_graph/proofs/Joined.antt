-- The edges of the graph are what joins two units: each edge joins, and whatever joins is an edge. Splits lie by section, so that a split is the first of its
-- section where the one before lies in another. Assumes nothing.
use Prim.Native.Nat.{ℕ, zero, suc, ◌+◌, ◌-◌, ◌≤◌, ◌<◌, zero-le, suc-le-suc}
use mathlib.Core.Path.{◌≡◌, refl, sym, ap, ap₂, subst, ◌∙◌}
use mathlib.Core.List.{List, [], ◌∷◌, ◌++◌, map}
use mathlib.Core.Bool.{Bool, true, false, not, ◌&&◌, false≢true}
use mathlib.Core.Logic.{inl, inr}
use native.Mathlib.Nat.{not-suc-le-zero, suc-add}
use native.Mathlib.Omega.{arith}
use borrow.Author.Tests.{eqb-true, eqb-false, eq-eqb, ne_eqb, not-true, not-false, ltb-true}
use lib.Dec.{eqb}
use lib.ListN.{length, get_or, length-map, length-append, get_or-append}
use lib.Seq.{get_or-append-add}
use Rattle.std.proofs.lemmas.Bool.{and_right}
use Rattle.std.proofs.lemmas.List.{get_or-map}
use Rattle.lists.specs.Rows.{keep_if, tabulate}
use Rattle.lists.specs.Sort.{All, none, each}
use Rattle.lists.specs.Members.{In}
use Rattle.lists.proofs.All.{all_map, all_keep, all_append, all_both, all_at}
use Rattle.lists.proofs.Filter.{keep_passes}
use Rattle.lists.proofs.Rising.{numbers-below}
use Rattle.lists.proofs.Stands.{kept_in, numbers_in}
use Rattle.lists.proofs.Tests.{none_of, and_false, none_of_four}
use Rattle.obj.specs.declared.Split.{Split}
use Rattle.obj.specs.declared.Unit as units
use Rattle.order_numbers.specs.Numbers.{ordered}
use Rattle.splits.specs.Questions.{is_common}
use Rattle.link_graph.specs.Graph.{Given, UnitEdge, edge, has_node, nodes, split_at, is_first, apart, edge_at, split_edges, chained, links, edges}
use Rattle.link_graph.specs.Joined.{Neighbours, Next, Joined, by_splits, by_order}
use Rattle.link_graph.proofs.Nodes.{has_in}
use Rattle.link_graph.proofs.Rows.{first_of_all, first_by_section}
use Rattle.link_graph.proofs.Graph.{all_mapped, unit_in}

-- the splits lie by section
abbrev pub BySection : List Split → Type 0
BySection splits = (i j : ℕ) → i ≤ j → j < length splits → (split_at splits i).section ≤ (split_at splits j).section

-- ---- neighbours
module _ (g : Given) (lies : BySection g.splits) where
  abbrev at : ℕ → Split
  at i = split_at g.splits i

  -- a split with an earlier one in its section is not the first of it
  not_first : (i j : ℕ) → j < i → i < length g.splits → (at j).section ≡ (at i).section → is_first g.splits i ≡ false
  not_first i j h q e =
      let low = lies j (i - 1) (omega arith) (omega arith) in
      let high = lies (i - 1) i (omega arith) q in
      let same : (at (i - 1)).section ≡ (at i).section = omega arith in
      first_by_section g.splits i (λ z. omega arith) ∙ ap not (eq-eqb _ _ same)

  -- two splits that are not kept apart are neighbours
  pub joined_neighbours : (i : ℕ) → i + 1 < length g.splits → apart g.pointers g.splits i ≡ false → Neighbours g (at i).unit (at (i + 1)).unit
  unfolding apart
  joined_neighbours i h e = record {
    at = i;
    inside = h;
    first = refl;
    second = refl;
    together = eqb-true _ _ (not-false _ (none_of _ 0 e));
    different = eqb-false _ _ (none_of _ 1 e);
    not_alone = λ c. not-false _ (and_false _ _ (none_of _ 2 e) c);
    not_first = λ p. earlier (is_first g.splits i) refl (none_of _ 3 e) p;
  }
    where
      before : (k : ℕ) → i ≡ suc k → not (eqb (at (i - 1)).section (at i).section) ≡ false
          → (j : ℕ) × (j < i) × ((at j).section ≡ (at i).section)
      before k q s = (i - 1, (let z : i - 1 < i = omega arith in z), eqb-true _ _ (not-false _ s))

      by_place : (k : ℕ) → i ≡ k → is_first g.splits i ≡ false → (j : ℕ) × (j < i) × ((at j).section ≡ (at i).section)
      by_place zero q f = absurd (false≢true (sym f ∙ first_of_all g.splits i q))
      by_place (suc k) q f = before k q (sym (first_by_section g.splits i (λ z. omega arith)) ∙ f)

      earlier : (t : Bool) → is_first g.splits i ≡ t → (is_first g.splits i && g.pointers (at i).section) ≡ false → g.pointers (at i).section ≡ true
          → (j : ℕ) × (j < i) × ((at j).section ≡ (at i).section)
      earlier true f s p = absurd (false≢true (sym (and_false _ _ s f) ∙ p))
      earlier false f s p = by_place i refl f

  -- .. and neighbours are not kept apart
  pub neighbours_joined : (a b : ℕ) (n : Neighbours g a b) → apart g.pointers g.splits n.at ≡ false
  unfolding apart
  neighbours_joined a b n =
      none_of_four _ _ _ _
      (ap not (eq-eqb _ _ n.together))
      (ne_eqb _ _ (λ e. n.different (sym n.first ∙ e ∙ n.second)))
      (alone (is_common (at (n.at + 1))) refl)
      (passed (g.pointers (at n.at).section) refl)
    where
      alone : (t : Bool) → is_common (at (n.at + 1)) ≡ t → (t && not (is_common (at n.at))) ≡ false
      alone true e = ap not (n.not_alone e)
      alone false e = refl

      passed : (t : Bool) → g.pointers (at n.at).section ≡ t → (is_first g.splits n.at && t) ≡ false
      passed false e = and_right (is_first g.splits n.at) _ refl
      passed true e =
          let early = n.not_first e in
          ap (λ (t : Bool). t && true) (not_first n.at early.0 early.1 (omega (arith, n.inside)) early.2)

-- ---- places in lists of edges
abbrev none-edge : UnitEdge
none-edge = edge 0 0

-- e stands in the list
pub record Stands (l : List UnitEdge) (e : UnitEdge) : Type 0 where
  pub at : ℕ
  pub inside : at < length l
  pub is : get_or l at none-edge ≡ e

stands_left : (l r : List UnitEdge) (e : UnitEdge) → Stands l e → Stands (l ++ r) e
stands_left l r e s = record {
  at = s.at;
  inside = omega (arith, length-append l r, s.inside);
  is = get_or-append l r none-edge s.at s.inside ∙ s.is;
}

stands_right : (l r : List UnitEdge) (e : UnitEdge) → Stands r e → Stands (l ++ r) e
stands_right l r e s = record {
  at = length l + s.at;
  inside = omega (arith, length-append l r, s.inside);
  is = get_or-append-add l r s.at none-edge ∙ s.is;
}

-- the place of a member
pub place_of : (v : ℕ) (l : List ℕ) → In v l → (k : ℕ) × (k < length l) × (get_or l k 0 ≡ v)
place_of v [] i = absurd i
place_of v (x ∷ l) (inl e) = (0, suc-le-suc zero-le, sym e)
place_of v (x ∷ l) (inr i) = let p = place_of v l i in (suc p.0, suc-le-suc p.1, p.2)

-- ---- the chain
next_later : (x : ℕ) (l : List ℕ) (a b : ℕ) → Next l a b → Next (x ∷ l) a b
next_later x l a b n = record {
  at = suc n.at;
  inside = omega (arith, n.inside);
  first = n.first;
  second = ap (λ (k : ℕ). get_or (x ∷ l) k 0) (suc-add n.at 1) ∙ n.second;
}

links_next : (l : List ℕ) → All (λ (e : UnitEdge). Next l e.from e.to) (links l)
unfolding links
links_next [] = none
links_next (x ∷ []) = none
links_next (x ∷ y ∷ l) =
    each (record { at = 0; inside = suc-le-suc (suc-le-suc zero-le); first = refl; second = refl })
    (all_map (λ e n. next_later x (y ∷ l) e.from e.to n) (links_next (y ∷ l)))

next_links : (l : List ℕ) (i : ℕ) → i + 1 < length l → Stands (links l) (edge (get_or l i 0) (get_or l (i + 1) 0))
unfolding links
next_links [] i h = absurd (not-suc-le-zero h)
next_links (x ∷ []) i h = absurd (omega arith)
next_links (x ∷ y ∷ l) zero h = record { at = 0; inside = suc-le-suc zero-le; is = refl }
next_links (x ∷ y ∷ l) (suc i) h =
    let s = next_links (y ∷ l) i (omega arith) in record {
      at = suc s.at;
      inside = suc-le-suc s.inside;
      is = s.is ∙ ap (λ (k : ℕ). edge (get_or (y ∷ l) i 0) (get_or (x ∷ y ∷ l) k 0)) (sym (suc-add i 1));
    }

-- ---- the edges
module _ (g : Given) (lies : BySection g.splits) where
  -- every edge joins
  pub edges_join : All (λ (e : UnitEdge). Joined g e.from e.to) (edges g)
  unfolding edges split_edges
  edges_join =
      all_append
      (all_mapped (edge_at g.splits)
      (all_map (λ i p. by_splits (joined_neighbours g lies i (let q = p.1 in omega arith) (not-true _ p.0)))
      (all_both (keep_passes (λ i. not (apart g.pointers g.splits i)) (tabulate (λ i. i) 0 (length g.splits - 1)))
      (all_keep (λ i. not (apart g.pointers g.splits i)) (numbers-below (length g.splits - 1))))))
      (all_map (λ e n. by_order n) (links_next (chained g)))

  -- whatever joins is an edge
  pub join_edges : (a b : ℕ) → Joined g a b → Stands (edges g) (edge a b)
  unfolding edges split_edges
  join_edges a b (by_splits n) =
      let p : ℕ → Bool = λ i. not (apart g.pointers g.splits i) in
      let m = length g.splits - 1 in
      let inside : n.at < 0 + m = omega (arith, n.inside) in
      let k = place_of n.at (keep_if p (tabulate (λ i. i) 0 m)) (kept_in p n.at (tabulate (λ i. i) 0 m) (numbers_in n.at 0 m zero-le inside) (ap not (neighbours_joined g lies a b n))) in
      stands_left (map (edge_at g.splits) (keep_if p (tabulate (λ i. i) 0 m))) (links (chained g)) (edge a b) (record {
        at = k.0;
        inside = rw (length-map (keep_if p (tabulate (λ i. i) 0 m)) (edge_at g.splits)) k.1;
        is =
            get_or-map (edge_at g.splits) (keep_if p (tabulate (λ i. i) 0 m)) k.0 0 none-edge k.1
            ∙ ap (edge_at g.splits) k.2
            ∙ ap₂ edge n.first n.second;
      })
  join_edges a b (by_order n) =
      stands_right (split_edges g.pointers g.splits) (links (chained g)) (edge a b)
      (subst (Stands (links (chained g))) (ap₂ edge n.first n.second) (next_links (chained g) n.at n.inside))

-- ---- the units that are joined have splits
all_in : {P : ℕ → Type 0} (l : List ℕ) (i : ℕ) → i < length l → All P l → P (get_or l i 0)
all_in l i h a = all_at i 0 a h

chained_in : (g : Given) → All (λ v. In v (nodes g.splits)) (chained g)
unfolding chained
chained_in g =
    all_mapped (λ (u : units.Unit). u.name)
    (all_map (λ (u : units.Unit) h. has_in u.name (nodes g.splits) (ltb-true _ _ h)) (keep_passes (λ (u : units.Unit). has_node (nodes g.splits) u.name) (ordered g.units)))

pub joined_in : (g : Given) (a b : ℕ) → Joined g a b → In a (nodes g.splits) × In b (nodes g.splits)
joined_in g a b (by_splits n) = (
  subst (λ (v : ℕ). In v (nodes g.splits)) n.first (unit_in g.splits n.at (omega (arith, n.inside))),
  subst (λ (v : ℕ). In v (nodes g.splits)) n.second (unit_in g.splits (n.at + 1) n.inside),
)
joined_in g a b (by_order n) = (
  subst (λ (v : ℕ). In v (nodes g.splits)) n.first (all_in (chained g) n.at (omega (arith, n.inside)) (chained_in g)),
  subst (λ (v : ℕ). In v (nodes g.splits)) n.second (all_in (chained g) (n.at + 1) n.inside (chained_in g)),
)
