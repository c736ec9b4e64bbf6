-- The link order, of two sets of tables with the same splits and units that agree on which of the splits' sections are `.ctors` or `.dtors`: no other
-- section is asked for. Assumes nothing.
use mathlib.Core.Path.{◌≡◌, ap, ◌∙◌}
use mathlib.Core.List.{List, [], ◌∷◌, ◌++◌, map}
use mathlib.Core.Bool.{Bool, not, ◌&&◌}
use Prim.Native.Nat.{ℕ, ◌+◌, ◌-◌, ◌<◌}
use native.Mathlib.Omega.{arith}
use lib.Dec.{eqb}
use lib.ListN.{length}
use Rattle.lists.specs.Outcome.{refuse, ◌>>◌}
use Rattle.lists.specs.Rows.{any_of, tabulate}
use Rattle.lists.specs.Sort.{All}
use Rattle.lists.proofs.All.{all_at, all_map}
use Rattle.lists.proofs.Filter.{keep_same}
use Rattle.lists.proofs.Rising.{numbers-below}
use Rattle.obj.specs.declared.Split.{Split}
use Rattle.obj.specs.declared.Unit as units
use Rattle.obj.specs.Nothing.{no_split}
use Rattle.names.specs.Fixed.{is_pointer_list}
use Rattle.sections.specs.Image.{Image}
use Rattle.sections.specs.Sections.{Sections}
use Rattle.order_numbers.specs.Numbers.{order_twice}
use Rattle.link_graph.specs.Graph.{Given, UnitEdge, node_of, nodes, split_at, is_first, apart, edge_at, split_edges, chained, links, edges}
use Rattle.toposort.specs.Sorting.{sort_of}
use Rattle.order.specs.LinkOrder.{link_order}
use Rattle.splits.specs.Questions.{is_common}
use Rattle.stages_alike.specs.Alike.{SameImages, SameSections}
use Rattle.stages_alike.proofs.Sections.{section_named}

module _ (p q : ℕ → Bool) (splits : List Split) (same : All (λ s. p s.section ≡ q s.section) splits) where
  apart_alike : (i : ℕ) → i < length splits → apart p splits i ≡ apart q splits i
  unfolding apart
  apart_alike i b =
      let e = all_at i no_split same b in
      λ k. any_of
      (not (eqb (split_at splits i).section (split_at splits (i + 1)).section)
      ∷ eqb (split_at splits i).unit (split_at splits (i + 1)).unit
      ∷ (is_common (split_at splits (i + 1)) && not (is_common (split_at splits i)))
      ∷ (is_first splits i && e k)
      ∷ [])

  split_edges_alike : split_edges p splits ≡ split_edges q splits
  unfolding split_edges
  split_edges_alike =
      ap (map (edge_at splits))
      (keep_same (λ i. not (apart p splits i)) (λ i. not (apart q splits i)) (tabulate (λ i. i) 0 (length splits - 1))
      (all_map (λ i b. ap not (apart_alike i (omega arith))) (numbers-below (length splits - 1))))

  -- with these units
  abbrev with : List units.Unit → (ℕ → Bool) → Given
  with us pointers = record { splits = splits; units = us; pointers = pointers }

  edges_alike : (us : List units.Unit) → edges (with us p) ≡ edges (with us q)
  unfolding edges chained
  edges_alike us = λ k. split_edges_alike k ++ links (chained (with us p))

  order_alike : (us : List units.Unit) (room : ℕ) → link_order (with us p) room ≡ link_order (with us q) room
  unfolding link_order
  order_alike us room =
      let e = edges_alike us in
      λ k. refuse 60 0 0 (order_twice us)
      >> sort_of
      (record {
        count = length (nodes splits);
        from = map (λ (x : UnitEdge). node_of (nodes splits) x.from) (e k);
        to = map (λ (x : UnitEdge). node_of (nodes splits) x.to) (e k);
      })
      room

-- THEOREM: the same order, cycle or refusal
pub link_alike : (g h : Given) → g.splits ≡ h.splits → g.units ≡ h.units → All (λ s. g.pointers s.section ≡ h.pointers s.section) g.splits
    → (room : ℕ) → link_order g room ≡ link_order h room
link_alike g h splits us same room =
    order_alike g.pointers h.pointers g.splits same g.units room
    ∙ λ k. link_order (record { splits = splits k; units = us k; pointers = h.pointers }) room

-- THEOREM: so too for tables that say the same, of splits whose sections are there
pub linked_alike : (g h : Image) (same : SameImages g h) (s t : Sections) → SameSections g h s t → (us : List units.Unit) {rows : List Split}
    → All (λ r. r.section < s.count) rows → (room : ℕ)
    → link_order (record { splits = rows; units = us; pointers = λ n. is_pointer_list (g.name (s.head n).name) }) room
    ≡ link_order (record { splits = rows; units = us; pointers = λ n. is_pointer_list (h.name (t.head n).name) }) room
linked_alike g h same s t sections us {rows} there room =
    order_alike (λ n. is_pointer_list (g.name (s.head n).name)) (λ n. is_pointer_list (h.name (t.head n).name)) rows
    (all_map (λ r b. ap is_pointer_list (section_named g h same s t sections r.section b)) there) us room
