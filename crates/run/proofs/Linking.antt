-- What the link order asks of the tables: a usable file has each section's name and each unit's record, and the rows of the split table lie in its sections.
-- Assumes nothing.
use Prim.Native.Nat.{ℕ, ◌<◌}
use mathlib.Core.Path.{ap, subst, ◌∙◌}
use mathlib.Core.List.{List}
use native.Mathlib.Nat.{zero-add}
use native.Mathlib.Omega.{arith}
use lib.ListN.{length}
use Rattle.lists.specs.Sort.{All}
use Rattle.lists.proofs.All.{all_at}
use Rattle.lists.proofs.Rows.{get_d_tabulate, length-tabulate}
use Rattle.obj.specs.Nothing.{no_split}
use Rattle.load.specs.Load.{Loaded}
use Rattle.load.proofs.Laws.{name_known}
use Rattle.loaded.specs.Tables.{Usable}
use Rattle.loaded.proofs.Laws.{few_names, few_units, measured, all_named, section_named, sections_heads}
use Rattle.splits.specs.Columns.{Columns, row_at, rows}
use Rattle.symbol_order.specs.Keys.{unit_of}
use Rattle.order_numbers.specs.Numbers.{Whole}
use Rattle.link_graph.specs.Columns.{SectionNames, Splits, UnitsBelow}
use Rattle.order.specs.Columns.{SplitsTaken, UnitsTaken}
use Rattle.run_splits.specs.Table.{Homed}
use Rattle.run.specs.Answers.{Tabled}

-- each row of the columns
pub row_homed : {sections names : ℕ} (c : Columns) (n : ℕ) → All (Homed sections names) (rows c n) → (k : ℕ) → k < n → Homed sections names (row_at c k)
row_homed {sections} {names} c n q k h =
    subst (Homed sections names) (get_d_tabulate (row_at c) 0 n k no_split h ∙ ap (row_at c) (zero-add k))
    (all_at k no_split q (omega (arith, h, length-tabulate (row_at c) 0 n)))

module _ {file : List ℕ} {t : Loaded} (u : Usable file t) where
  section_names : SectionNames file t.sections file t.names t.lengths
  section_names = record { held = (sections_heads u).held; names = all_named u; named = section_named u }

  -- what the struct of them asks
  pub splits_held : (c : Columns) (n : ℕ) → Tabled (length t.sections) c n → Splits c n file t.sections file t.names t.lengths
  splits_held c n w = record { few = w.few; sections = section_names; sectioned = λ i h. (row_homed c n w.homed i h).section }

  pub units_whole : Whole file t.units
  units_whole = record { each = u.good.units.held }

  -- the names have a place in a column of 4,096
  pub rows_below : (c : Columns) (n : ℕ) → Tabled (length t.sections) c n → UnitsBelow c n 4096
  rows_below c n w i h = (row_homed c n w.homed i h).unit

  pub records_below : (k : ℕ) → k < length t.units → (unit_of file t.units k).name < 4096
  records_below k h = omega (arith, few_names u, name_known u.good _ (u.good.units.each k h).named)

  -- ---- the two tables whole
  pub splits-taken : (c : Columns) (n : ℕ) → Tabled (length t.sections) c n → SplitsTaken c n file t.sections file t.names t.lengths
  splits-taken c n w = record { given = splits_held c n w; named = rows_below c n w; few = omega (arith, measured u, few_names u) }

  pub units_taken : UnitsTaken file t.units
  units_taken = record { whole = units_whole; few = few_units u; named = records_below }
