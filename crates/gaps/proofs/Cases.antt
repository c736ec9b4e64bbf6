-- Small tables and the gaps that are found in them, or the first refusal: P7, then a case for each decision on gaps (DECISIONS.md, 23, 26, 44 to 49 and 52).
-- Names are numbers; name 0 is `.data`, which has the default alignment 8.
use Prim.Native.Nat.{ℕ}
use mathlib.Core.Path.{◌≡◌, refl}
use mathlib.Core.List.{List, [], ◌∷◌, map}
use mathlib.Core.Bool.{cond}
use lib.ListN.{length, get_or}
use lib.Dec.{eqb}
use Rattle.lists.specs.Outcome.{Outcome, accepted, refused, refuse, ◌>>◌, ◌>>=◌}
use Rattle.lists.specs.Rows.{tabulate, keep_if, some}
use Rattle.lists.specs.Sort.{insert_key, sort_by}
use Rattle.align.specs.Align.{align_up}
use Rattle.obj.specs.declared.Section.{Section}
use Rattle.obj.specs.declared.Symbol.{Symbol}
use Rattle.obj.specs.declared.Split.{Split}
use Rattle.names.specs.Fixed.{codes, spells, spells_one, is_pointer_list, is_four_aligned, is_linker_object}
use Rattle.symbol_order.specs.Order.{symbols_of}
use Rattle.symbols.specs.Ranges.{highest_of, highest_in, has_symbols}
use Rattle.sections.specs.Image.{Image}
use Rattle.sections.specs.Bytes.{all_zero}
use Rattle.sections.specs.Sections.{Sections}
use Rattle.sections.specs.Alignment.{default_alignment, larger, alignment_of}
use Rattle.sections.specs.Ends.{lowered, splitting_end}
use Rattle.gap_columns.specs.Columns.{Gap, gap, placed, in_order}
use Rattle.splits.specs.Questions.{next_start}
use Rattle.gaps.specs.Gaps.{end_after, end_from, gap_end, gaps_up_to, gaps_before, gaps_from, section_gaps, gaps_of, into, found_gaps}

-- ---- tables

-- a `.data` of these bytes' length
abbrev pub head : (address size : ℕ) → Section
head address size = record { name = 0; kind = 1; address = address; size = size; offset = 0 }

-- an unsized symbol of section 0
abbrev pub symbol : (name address alignment : ℕ) → Symbol
symbol name address alignment = record { name = name; section = 0; address = address; size = 0; size_known = 0; kind = 0; flags = 0; alignment = alignment }

abbrev pub stripped : (name address alignment : ℕ) → Symbol
stripped name address alignment = record { name = name; section = 0; address = address; size = 0; size_known = 0; kind = 0; flags = 4; alignment = alignment }

-- a split of section n, and one with a given alignment
abbrev pub split : (n start end : ℕ) → Split
split n start end = record { section = n; start = start; end = end; unit = 1; alignment = 0; flags = 0; rename = 65535; origin = 65535 }

abbrev pub aligned : (alignment start end : ℕ) → Split
aligned alignment start end = record { section = 0; start = start; end = end; unit = 1; alignment = alignment; flags = 0; rename = 65535; origin = 65535 }

pub record Case : Type 0 where
  pub heads : List Section
  pub symbols : List Symbol
  pub splits : List Split
  pub outcome : Outcome (List Gap)

abbrev pub image_for : Case → Image
unfolding codes
image_for c = record { symbol = λ (i : ℕ). get_or c.symbols i (symbol 0 0 0); count = length c.symbols; name = λ (k : ℕ). cond (eqb k 0) (codes ".data") [] }

abbrev pub sections_for : Case → Sections
sections_for c = record { count = length c.heads; head = λ (n : ℕ). get_or c.heads n (head 0 0); bytes = λ (n : ℕ). [] }

-- one section from 0x1000 to 0x1040
abbrev pub within : List Symbol → List Split → Outcome (List Gap) → Case
within symbols splits outcome = record { heads = head 0x1000 0x40 ∷ []; symbols = symbols; splits = splits; outcome = outcome }

-- ---- the cases

abbrev pub cases : List Case
cases =
    -- P7: "current 0x1003, next alignment 8: start 0x1008 no gap"
    record { heads = head 0x1003 13 ∷ []; symbols = []; splits = aligned 8 0x1008 0x1010 ∷ []; outcome = accepted [] }
    -- .. "0x1009 gap 0x1003..0x1009"
    ∷ record { heads = head 0x1003 13 ∷ []; symbols = []; splits = aligned 8 0x1009 0x1010 ∷ []; outcome = accepted (gap 0 0x1003 0x1009 ∷ []) }
    -- no split at all: the gap runs to the section's end
    ∷ within [] [] (accepted (gap 0 0x1000 0x1040 ∷ []))
    -- a gap before, between and behind splits
    ∷ within [] (split 0 0x1008 0x1010 ∷ split 0 0x1020 0x1030 ∷ []) (accepted (gap 0 0x1000 0x1008 ∷ gap 0 0x1010 0x1020 ∷ gap 0 0x1030 0x1040 ∷ []))
    -- 44: no gap behind a split if the default alignment reaches the splitting end
    ∷ record { heads = head 0x1000 12 ∷ []; symbols = []; splits = split 0 0x1000 0x1009 ∷ []; outcome = accepted [] }
    -- 45: a split that starts below its section, "40 next start below current"
    ∷ record { heads = head 0x1000 16 ∷ []; symbols = []; splits = split 0 0xF00 0x1010 ∷ []; outcome = refused 40 0 0x1000 }
    -- .. and of an empty section, where nothing is asked
    ∷ record { heads = head 0x1000 0 ∷ []; symbols = []; splits = split 0 0xF00 0xF00 ∷ []; outcome = accepted [] }
    -- 45: a split at the splitting end isn't seen, nor its alignment
    ∷ within [] (split 0 0x1000 0x1008 ∷ aligned 128 0x1040 0x1040 ∷ []) (accepted (gap 0 0x1008 0x1040 ∷ []))
    -- two splits that overlap
    ∷ within [] (split 0 0x1000 0x1018 ∷ split 0 0x1010 0x1040 ∷ []) (refused 40 0 0x1018)
    -- 46: an end below its start, and a later gap at the address of an earlier one
    ∷ within [] (split 0 0x1000 0x1004 ∷ split 0 0x1010 0x1004 ∷ []) (accepted (gap 0 0x1004 0x1040 ∷ []))
    -- 46: later gaps that start lower than an earlier one
    ∷ within [] (split 0 0x1010 0xFF0 ∷ split 0 0x1020 0x1040 ∷ []) (accepted (gap 0 0xFF0 0x1020 ∷ gap 0 0x1000 0x1010 ∷ []))
    -- 23: an open split runs to the next start
    ∷ within [] (split 0 0x1000 0 ∷ split 0 0x1020 0x1030 ∷ []) (accepted (gap 0 0x1030 0x1040 ∷ []))
    -- .. or to the splitting end
    ∷ within [] (split 0 0x1000 0x1020 ∷ split 0 0x1020 0 ∷ []) (accepted [])
    -- .. with a symbol in the section its alignment can't be asked
    ∷ within (symbol 1 0x1040 0 ∷ []) (split 0 0x1000 0 ∷ []) (refused 11 0 0x1000)
    -- .. unless one is given
    ∷ within (symbol 1 0x1040 0 ∷ []) (aligned 8 0x1000 0 ∷ []) (accepted [])
    -- 26: 11 of the next split before 40
    ∷ within (symbol 1 0x1040 0 ∷ []) (split 0 0x1000 0x1010 ∷ split 0 0x1008 0 ∷ []) (refused 11 0 0x1008)
    -- 47: two symbols of one name
    ∷ within (symbol 1 0x1004 0 ∷ symbol 1 0x100C 0 ∷ []) [] (accepted (gap 0 0x1000 0x100C ∷ gap 0 0x100C 0x1040 ∷ []))
    -- .. of which the second is stripped
    ∷ within (symbol 1 0x1004 0 ∷ stripped 1 0x1008 0 ∷ []) [] (accepted (gap 0 0x1000 0x1040 ∷ []))
    -- .. or the first
    ∷ within (stripped 1 0x1004 0 ∷ symbol 1 0x1008 0 ∷ []) [] (accepted (gap 0 0x1000 0x1040 ∷ []))
    -- .. or one lies before the gap
    ∷ within (symbol 1 0x1004 0 ∷ symbol 1 0x1010 0 ∷ []) (split 0 0x1000 0x1008 ∷ []) (accepted (gap 0 0x1008 0x1040 ∷ []))
    -- "41 repeated name not at a multiple of 4"
    ∷ within (symbol 1 0x1004 0 ∷ symbol 1 0x100A 0 ∷ []) [] (refused 41 0 0x1000)
    -- two of one name at the current address: "42 gap would end where it starts"
    ∷ within (symbol 1 0x1000 0 ∷ symbol 1 0x1000 0 ∷ []) [] (refused 42 0 0x1000)
    -- 48: the current address misses an alignment; the symbol's own address has it
    ∷ within (symbol 1 0x1020 32 ∷ []) (split 0 0x1000 0x1010 ∷ []) (accepted (gap 0 0x1010 0x1020 ∷ gap 0 0x1020 0x1040 ∷ []))
    -- .. the current address has it, the symbol's own address misses it
    ∷ within (symbol 1 0x1028 16 ∷ []) (split 0 0x1000 0x1010 ∷ []) (accepted (gap 0 0x1010 0x1040 ∷ []))
    -- .. of a stripped symbol none is asked
    ∷ within (stripped 1 0x1020 32 ∷ []) (split 0 0x1000 0x1010 ∷ []) (accepted (gap 0 0x1010 0x1040 ∷ []))
    -- 49: a symbol at the current address whose alignment it misses
    ∷ within (symbol 1 0x1004 8 ∷ []) (split 0 0x1000 0x1004 ∷ []) (refused 42 0 0x1004)
    -- the name is tested before the alignment
    ∷ within (symbol 1 0x1004 0 ∷ symbol 1 0x1006 0x2000 ∷ []) [] (refused 41 0 0x1000)
    -- two sections: gaps come by section, then address
    ∷ record { heads = head 0x1000 16 ∷ head 0x800 16 ∷ []; symbols = []; splits = split 0 0x1008 0x1010 ∷ split 1 0x808 0x810 ∷ []; outcome = accepted (gap 0 0x1000 0x1008 ∷ gap 1 0x800 0x808 ∷ []) }
    -- .. and a gap has only symbols of its own section
    ∷ record { heads = head 0x1000 16 ∷ head 0x1000 16 ∷ []; symbols = symbol 1 0x1004 0 ∷ symbol 1 0x1008 0 ∷ []; splits = []; outcome = accepted (gap 0 0x1000 0x1008 ∷ gap 0 0x1008 0x1010 ∷ gap 1 0x1000 0x1010 ∷ []) }
    -- 52: a refusal of a later section stands before the gaps of an earlier
    ∷ record { heads = head 0x1000 16 ∷ head 0x800 16 ∷ []; symbols = []; splits = split 1 0x7F0 0x810 ∷ []; outcome = refused 40 1 0x800 }
    ∷ []

-- THEOREM: each case has its expected outcome
pub cases_hold : map (λ (c : Case). found_gaps (image_for c) (sections_for c) c.splits) cases ≡ map (λ (c : Case). c.outcome) cases
unfolding found_gaps into gaps_of section_gaps gaps_from gaps_before gaps_up_to gap_end end_from end_after next_start placed in_order refuse ◌>>◌ ◌>>=◌ align_up splitting_end lowered alignment_of larger default_alignment highest_in highest_of has_symbols symbols_of sort_by insert_key keep_if some tabulate codes spells spells_one is_pointer_list is_four_aligned is_linker_object all_zero
cases_hold = refl
