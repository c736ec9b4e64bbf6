-- The edges of neighbours while they are listed: before the first turn, a turn that writes an edge or passes a pair, and after the last one. Assumes nothing.
use Prim.Native.Nat.{ℕ, ◌+◌, ◌-◌, ◌≤◌, ◌<◌}
use mathlib.Core.Path.{◌≡◌, sym, ap, ◌∙◌}
use mathlib.Core.List.{List, ◌∷◌, ◌++◌, map, append-nil}
use mathlib.Core.Bool.{Bool, true, false, not}
use native.Mathlib.Omega.{arith}
use lib.ListN.{length, get_or, take, set}
use Rattle.lists.specs.Rows.{tabulate, keep_if}
use Rattle.lists.proofs.Keep.{keep_more}
use Rattle.lists.proofs.FilterRows.{filter_hit, filter_miss, filter_none}
use Rattle.obj.specs.declared.Split.{Split}
use Rattle.splits.specs.Columns.{Columns, rows}
use Rattle.splits.proofs.Rows.{row_unit}
use Rattle.link_graph.specs.Graph.{UnitEdge, split_at, apart, edge_at, split_edges}
use Rattle.link_graph.specs.Columns.{Listed}
use Rattle.link_graph.proofs.Rows.{row_at_lem}

-- the edges of the pairs from place i on
abbrev later : (pointers : ℕ → Bool) → List Split → (i : ℕ) → List UnitEdge
later pointers splits i = map (edge_at splits) (keep_if (λ k. not (apart pointers splits k)) (tabulate (λ x. x) i ((length splits - 1) - i)))

-- the node at an edge's start, and at its end
abbrev pub start_in : (column : List ℕ) → UnitEdge → ℕ
start_in column e = get_or column e.from 0

abbrev pub goal_in : (column : List ℕ) → UnitEdge → ℕ
goal_in column e = get_or column e.to 0

-- the first e of both columns are edges, and with those of the pairs from place i on they are all
pub record Listing (pointers : ℕ → Bool) (splits : List Split) (column from to : List ℕ) (i e : ℕ) : Type 0 where
  pub few : e ≤ i
  pub starts : take e from ++ map (start_in column) (later pointers splits i) ≡ map (start_in column) (split_edges pointers splits)
  pub goals : take e to ++ map (goal_in column) (later pointers splits i) ≡ map (goal_in column) (split_edges pointers splits)

pub listing_start : (pointers : ℕ → Bool) (splits : List Split) (column from to : List ℕ) → Listing pointers splits column from to 0 0
unfolding split_edges
listing_start pointers splits column from to =
    let all : (length splits - 1) - 0 ≡ length splits - 1 = omega arith in
    record { few = omega arith; starts = rw all; goals = rw all }

module _ {pointers : ℕ → Bool} {splits : List Split} {column from to : List ℕ} {i e : ℕ} (t : Listing pointers splits column from to i e) where
  module _ (h : i + 1 < length splits) where
    inside : i < length splits - 1
    inside = omega arith

    -- the next pair gives no edge
    pub listing_apart : apart pointers splits i ≡ true → Listing pointers splits column from to (i + 1) e
    listing_apart apart' =
        let pass = filter_miss (λ k. not (apart pointers splits k)) (λ x. x) (length splits - 1) i inside (ap not apart') in
        record { few = omega (arith, t.few); starts = rw pass at t.starts; goals = rw pass at t.goals }

    -- it gives the edge of its two units
    module _ (joined : apart pointers splits i ≡ false) (v w : ℕ) (first : v ≡ (split_at splits i).unit) (second : w ≡ (split_at splits (i + 1)).unit) where
      one_more : later pointers splits i ≡ edge_at splits i ∷ later pointers splits (i + 1)
      one_more = ap (map (edge_at splits)) (filter_hit (λ k. not (apart pointers splits k)) (λ x. x) (length splits - 1) i inside (ap not joined))

      pub listing_edge : e < length from → e < length to
          → Listing pointers splits column (set from e (get_or column v 0)) (set to e (get_or column w 0)) (i + 1) (e + 1)
      listing_edge starts_room goals_room = record {
        few = omega (arith, t.few);
        starts = keep_more e from _ _ starts_room ∙ rw first (rw one_more at t.starts);
        goals = keep_more e to _ _ goals_room ∙ rw second (rw one_more at t.goals);
      }

  pub listing_end : (n : ℕ) → length splits ≡ n → n - 1 ≤ i → i ≤ n → Listed (start_in column) (goal_in column) (split_edges pointers splits) from to n e
  listing_end n long h k =
      let none = filter_none (λ k. not (apart pointers splits k)) (λ x. x) (length splits - 1) i (omega arith) in
      record {
        starts = rw (none, append-nil) at t.starts;
        goals = rw (none, append-nil) at t.goals;
        small = omega (arith, t.few);
      }

-- the unit of a row
pub unit_of_row : (c : Columns) (n k : ℕ) → k < n → get_or c.units k 0 ≡ (split_at (rows c n) k).unit
unit_of_row c n k h = sym (ap (λ (s : Split). s.unit) (row_at_lem c n k h) ∙ row_unit _ _ _ _)
