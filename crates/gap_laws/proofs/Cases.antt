-- One input on which the laws are not empty: two gaps enter a table without a fault beside a hand split; the table that they leave has none, and each gap's split lies
-- from the gap's start to its end. There are two sections, `.data` and `..`, from 0x1000 to 0x2000.
use Prim.Native.Nat.{ℕ}
use Prim.Native.String.{String}
use mathlib.Core.Path.{◌≡◌, refl}
use mathlib.Core.Bool.{cond}
use mathlib.Core.List.{List, [], ◌∷◌, map}
use lib.Dec.{eqb}
use lib.ListN.{length}
use Rattle.lists.specs.Rows.{keep_if, some, first_in, any_of, any_from, tabulate}
use Rattle.lists.specs.InsertBy.{insert_by}
use Rattle.lists.specs.Outcome.{accepted, refuse, ◌>>=◌, ◌>>◌}
use Rattle.align.specs.Align.{bad_align}
use Rattle.obj.specs.declared.Section.{Section}
use Rattle.obj.specs.declared.Split.{Split}
use Rattle.names.specs.Names.{same_name, number_of}
use Rattle.names.specs.Fixed.{codes}
use Rattle.names.specs.GapName.{decimal2, hex8, without_dots, gap_name}
use Rattle.faults.specs.Faults.{split_bad, split_misplaced}
use Rattle.tables.specs.Records.{split_before, split_fault}
use Rattle.split_edits.specs.Edits.{grouped, pushed}
use Rattle.merge.specs.Merge.{given, unchanged_if, on_own, decide, rounds, merge_one}
use Rattle.gap_columns.specs.Columns.{gap}
use Rattle.gap_splits.specs.Entering.{Filled, bytes_of, named, entered, filled}

abbrev head : Section
head = record { name = 0; kind = 1; address = 0x1000; size = 0x1000; offset = 0 }

abbrev split : (section start end unit flags : ℕ) → Split
split section start end unit flags = record { section = section; start = start; end = end; unit = unit; alignment = 0; flags = flags; rename = 65535; origin = 65535 }

abbrev table : List String → List Split → Filled
table names rows = record { names = map codes names; rows = rows }

abbrev before : Filled
before = table ("a" ∷ []) (split 0 0x1000 0x1010 0 0 ∷ [])

abbrev after : Filled
after = table ("a" ∷ "auto_00_00001010_data" ∷ "auto_01_00001000_" ∷ []) (split 0 0x1000 0x1010 0 0 ∷ split 0 0x1010 0x2000 1 2 ∷ split 1 0x1000 0x2000 2 2 ∷ [])

-- the faults of all splits
abbrev faults : Filled → List ℕ
faults t = tabulate (split_fault (map length t.names) (head ∷ head ∷ []) t.rows) 0 (length t.rows)

-- THEOREM: both gaps enter
pub case_filled : filled (λ n. cond (eqb n 0) (codes ".data") (codes "..")) (given (head ∷ head ∷ []) 3) (record { names = 3; bytes = 39 }) before (gap 0 0x1010 0x2000 ∷ gap 1 0x1000 0x2000 ∷ []) ≡ accepted after
unfolding filled entered named bytes_of gap_name decimal2 hex8 without_dots codes number_of first_in same_name merge_one rounds decide on_own unchanged_if pushed grouped insert_by keep_if some refuse ◌>>=◌ ◌>>◌
case_filled = refl

-- THEOREM: neither table has a fault
pub case_good : (faults before ≡ 0 ∷ []) × (faults after ≡ 0 ∷ 0 ∷ 0 ∷ [])
unfolding split_fault split_bad split_misplaced split_before bad_align any_of any_from codes tabulate
case_good = (refl, refl)
