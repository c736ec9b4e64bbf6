-- A turn of the search up to a next start: the gap found enters the table, which has room for it, and what is left enters after it. Assumes nothing.
use mathlib.Core.Path.{◌≡◌, refl, sym, ap, subst, ◌∙◌}
use mathlib.Core.List.{List, []}
use mathlib.Core.Bool.{true}
use Prim.Native.Nat.{ℕ, ◌≤◌, ◌<◌}
use native.Mathlib.Omega.{arith}
use Rattle.lists.specs.Outcome.{accepted, refused}
use Rattle.lists.specs.Members.{In}
use Rattle.align.specs.Align.{good_align, align_up}
use Rattle.obj.specs.declared.Symbol.{Symbol}
use Rattle.symbol_order.specs.Order.{key}
use Rattle.gap_columns.specs.Columns.{Gap, placed, gap_of}
use Rattle.gap_columns.specs.Table.{found_in, SameLent, Placing}
use Rattle.gap_columns.specs.declared.gap_table.GapTable.{GapTable}
use Rattle.gap_columns.proofs.Lent.{lent_same, lent_still}
use Rattle.gap_columns.proofs.Placed.{key_of_lem, gap_of_lem}
use Rattle.gaps.specs.Gaps.{gap_end, gaps_to, into}
use Rattle.gaps.specs.Found.{Gathered, Space}
use Rattle.gaps.proofs.Gathered.{gathered_placed, gathered_few}
use Rattle.gaps.proofs.Rounds.{gap_ended, round_done, round_refused, round_on, end_among, up}

-- the gaps from `at` on enter after those found as all from `current` on after those that were there
pub record Turning (symbol : ℕ → Symbol) (count n current next alignment : ℕ) (found₀ found : GapTable) (at : ℕ) : Type 0 where
  pub small : at ≤ next
  pub lent : SameLent found₀ found
  pub space : Space symbol count n at next [] found
  pub is : into (found_in found) (gaps_to symbol count n at next alignment) ≡ into (found_in found₀) (gaps_to symbol count n current next alignment)

module _ (symbol : ℕ → Symbol) (count n current next alignment : ℕ) (found₀ : GapTable) where
  pub turn_start : current ≤ next → Space symbol count n current next [] found₀ → Turning symbol count n current next alignment found₀ found₀ current
  turn_start h s = record { small = h; lent = lent_same; space = s; is = refl }

  module _ (good : good_align alignment ≡ true) (found : GapTable) (at : ℕ) (t : Turning symbol count n current next alignment found₀ found at) where
    -- no gap is left
    pub turn_done : next ≤ align_up at alignment → accepted (found_in found) ≡ into (found_in found₀) (gaps_to symbol count n current next alignment)
    turn_done h = sym (round_done symbol count n next alignment good at (found_in found) h) ∙ t.is

    module _ (h : align_up at alignment < next) where
      -- the current address lies before the next start
      pub before_next : at < next
      before_next = omega (arith, h, up symbol count n next alignment good at)

      pub turn_refused : (x y z : ℕ) → gap_end symbol count n at next ≡ refused x y z → refused x y z ≡ into (found_in found₀) (gaps_to symbol count n current next alignment)
      turn_refused x y z e = sym (round_refused symbol count n next alignment good at (found_in found) h x y z e) ∙ t.is

      module _ (e k : ℕ) (ended : gap_end symbol count n at next ≡ accepted e) (is_key : k ≡ key n at) where
        -- with the gap the gaps are gathered
        with_it : Gathered t.space.room (placed (gap_of k e) (found_in found))
        with_it =
            gathered_placed t.space.room (gap_of k e) (found_in found)
            (subst (λ (m : ℕ). In m t.space.room) (sym (key_of_lem k e ∙ is_key)) (t.space.here before_next))
            t.space.gathered

        -- the table has room for the gap
        pub turn_room : Placing found k e
        turn_room = record {
          rising = t.space.gathered.rising;
          fits = omega (arith, gathered_few t.space.room _ with_it, t.space.fits);
        }

        -- .. which has entered
        pub turn_on : (found' : GapTable) → at < 4294967296 → SameLent found found'
            → found_in found' ≡ placed (gap_of k e) (found_in found)
            → Turning symbol count n current next alignment found₀ found' e
        turn_on found' fits same p =
            let w = gap_ended symbol count n at next e ended in
            record {
              small = w.within;
              lent = lent_still t.lent same;
              space = record {
                room = t.space.room;
                gathered = subst (Gathered t.space.room) (sym p) with_it;
                here = end_among symbol count n next alignment good t.space.room t.space.symbols at e w;
                splits = t.space.splits;
                symbols = t.space.symbols;
                fits = omega (arith, same.room, t.space.fits);
              };
              is =
                  ap (λ (l : List Gap). into l (gaps_to symbol count n e next alignment))
                  (p ∙ ap (λ (x : Gap). placed x (found_in found)) (ap (λ (m : ℕ). gap_of m e) is_key ∙ gap_of_lem n at e fits))
                  ∙ sym (round_on symbol count n next alignment good at (found_in found) h e ended)
                  ∙ t.is;
            }
