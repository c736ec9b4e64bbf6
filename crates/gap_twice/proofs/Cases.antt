-- Small lists filled once and twice: document 01's example, on which the theorem is not empty; two splits at one start; and for each other premise a smallest list without it, on
-- which filling twice is refused.
use Prim.Native.Nat.{ℕ}
use Prim.Native.String.{String}
use native.Mathlib.Omega.{arith}
use mathlib.Core.Path.{◌≡◌, refl}
use mathlib.Core.Logic.{inr}
use mathlib.Core.List.{List, [], ◌∷◌, map}
use Rattle.lists.specs.Outcome.{Outcome, accepted, refused, refuse, ◌>>◌, ◌>>=◌}
use Rattle.lists.specs.Rows.{tabulate, keep_if, some, first_in}
use Rattle.lists.specs.InsertBy.{insert_by}
use Rattle.lists.specs.Sort.{none, each, insert_key, sort_by}
use Rattle.align.specs.Align.{align_up}
use Rattle.obj.specs.declared.Section.{Section}
use Rattle.obj.specs.declared.Split.{Split}
use Rattle.names.specs.Names.{same_name, number_of}
use Rattle.names.specs.Fixed.{codes, spells, spells_one, is_pointer_list, is_four_aligned, is_linker_object}
use Rattle.names.specs.GapName.{decimal2, hex8, without_dots, gap_name}
use Rattle.symbol_order.specs.Order.{symbols_of}
use Rattle.symbols.specs.Ranges.{highest_of, highest_in, has_symbols}
use Rattle.sections.specs.Image.{Image}
use Rattle.sections.specs.Bytes.{all_zero}
use Rattle.sections.specs.Sections.{Sections}
use Rattle.sections.specs.Alignment.{default_alignment, larger, alignment_of}
use Rattle.sections.specs.Ends.{lowered, splitting_end}
use Rattle.split_edits.specs.Edits.{grouped, pushed, renamed, joined}
use Rattle.merge.specs.Merge.{given, unchanged_if, on_joint, on_old, on_own, decide, joint_of, rounds, merge_one}
use Rattle.gap_columns.specs.Columns.{placed, in_order}
use Rattle.gaps.specs.Gaps.{end_after, end_from, gap_end, gaps_up_to, gaps_before, gaps_from, section_gaps, gaps_of, into, found_gaps}
use Rattle.gap_splits.specs.Entering.{Filled, bytes_of, named, entered, filled}
use Rattle.create_gap_splits.specs.Create.{gaps_filled}
use Rattle.splits.specs.Questions.{next_start}
use Rattle.gap_twice.specs.Twice.{begins_with, Premises}

-- ---- tables

-- section 0, `.data`, from 0x1000 on, of so many bytes
abbrev pub head : (size : ℕ) → Section
head size = record { name = 0; kind = 1; address = 0x1000; size = size; offset = 0 }

abbrev pub split : (start end unit alignment flags : ℕ) → Split
split start end unit alignment flags = record { section = 0; start = start; end = end; unit = unit; alignment = alignment; flags = flags; rename = 65535; origin = 65535 }

abbrev pub table : List String → List Split → Filled
table names rows = record { names = map codes names; rows = rows }

-- no symbol; the name of each section is `.data`
abbrev pub image : Image
unfolding codes
image = record { symbol = λ (i : ℕ). record { name = 0; section = 0; address = 0; size = 0; size_known = 0; kind = 0; flags = 0; alignment = 0 }; count = 0; name = λ (k : ℕ). codes ".data" }

abbrev pub sections_with : Section → Sections
sections_with s = record { count = 1; head = λ (n : ℕ). s; bytes = λ (n : ℕ). [] }

abbrev pub fill : Section → Filled → Outcome Filled
fill s t = gaps_filled image (sections_with s) (given (s ∷ []) 4) (record { names = 5; bytes = 100 }) t

-- ---- cases

-- a list, and what it is after one filling and after two
pub record Case : Type 0 where
  pub section : Section
  pub list : Filled
  pub once : Outcome Filled
  pub twice : Outcome Filled

-- document 01's example
abbrev pub example : Filled
example = table (".data" ∷ "b.c" ∷ []) (split 0x1008 0x1010 1 0 0 ∷ [])

abbrev pub filled_example : Filled
filled_example = table (".data" ∷ "b.c" ∷ "auto_00_00001000_data" ∷ []) (split 0x1000 0x1008 2 0 2 ∷ split 0x1008 0x1010 1 0 0 ∷ [])

-- two splits at one start
abbrev pub equal_starts : Filled
equal_starts = table (".data" ∷ "a" ∷ "b" ∷ "auto_00_00001000_data" ∷ []) (split 0x1000 0x1001 3 0 2 ∷ split 0x1001 0 1 0 0 ∷ split 0x1001 0x1002 2 0 0 ∷ [])

abbrev pub cases : List Case
cases =
    record { section = head 16; list = example; once = accepted filled_example; twice = accepted filled_example }
    -- "starts within a section differ" is not needed
    ∷ record {
      section = head 2;
      list = table (".data" ∷ "a" ∷ "b" ∷ []) (split 0x1001 0 1 0 0 ∷ split 0x1001 0x1002 2 0 0 ∷ []);
      once = accepted equal_starts;
      twice = accepted equal_starts;
    }
    -- "each end is 0 or above its start" is: from 0xFFE on a gap is found that starts below the section
    ∷ record {
      section = head 1;
      list = table (".data" ∷ "a" ∷ []) (split 0x1000 0xFFE 1 0 0 ∷ []);
      once = accepted (table (".data" ∷ "a" ∷ "auto_00_00000FFE_data" ∷ []) (split 0xFFE 0x1001 2 0 2 ∷ split 0x1000 0xFFE 1 0 0 ∷ []));
      twice = refused 40 0 0x1000;
    }
    -- "no unit name begins with `auto_`" is: the first gap joins the split of its name, across the second gap
    ∷ record {
      section = head 5;
      list = table (".data" ∷ "a" ∷ "auto_00_00001000_data" ∷ []) (split 0x1001 0x1002 1 0 2 ∷ split 0x1003 0x1004 2 1 2 ∷ []);
      once = accepted (table (".data" ∷ "a" ∷ "auto_00_00001000_data" ∷ "auto_00_00001002_data" ∷ []) (split 0x1000 0x1004 2 1 2 ∷ split 0x1002 0x1003 3 0 2 ∷ []));
      twice = refused 40 0 0x1004;
    }
    ∷ []

-- THEOREM: one table, one claim
pub cases_hold : (map (λ (c : Case). fill c.section c.list) cases ≡ map (λ (c : Case). c.once) cases)
    × (map (λ (c : Case). fill c.section c.list >>= fill c.section) cases ≡ map (λ (c : Case). c.twice) cases)
unfolding gaps_filled found_gaps into gaps_of section_gaps gaps_from gaps_before gaps_up_to gap_end end_from end_after next_start placed in_order refuse ◌>>◌ ◌>>=◌ align_up splitting_end lowered alignment_of larger default_alignment highest_in highest_of has_symbols symbols_of sort_by insert_key keep_if some tabulate codes spells spells_one is_pointer_list is_four_aligned is_linker_object all_zero filled entered named bytes_of gap_name decimal2 hex8 without_dots number_of first_in same_name merge_one rounds decide on_own unchanged_if pushed grouped insert_by on_old on_joint joint_of joined renamed
cases_hold = (refl, refl)

-- THEOREM: the example meets the premises
pub example_meets : Premises example
unfolding begins_with codes
example_meets = record { units = each refl none; starts = λ i j h l. absurd (omega arith); forward = each {x = split 0x1008 0x1010 1 0 0} (inr (omega arith)) none }
