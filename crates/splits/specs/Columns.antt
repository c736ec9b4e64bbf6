-- The split table as four columns and a count, and the rows that they mean. A row's start, end and unit stand in columns of their own; `rest` packs, from the
-- lowest bit up, section (16 bits), rename (16), flags (8), alignment as its exponent + 1, or 0 for none (8), origin (16).
-- The eight bits of the alignment are read by a total function, so that every row's alignment is good, whatever the columns hold.
-- Callers speak of `rows`, and use the laws of proofs/Rows.antt and proofs/Alignment.antt: `good_alignment`, that what crate align does not call bad is good.
use Rattle.std.specs.Prelude.{ℕ, zero, suc, ◌+◌, ◌*◌, ◌/◌, ◌%◌, ◌^◌, ◌≤◌, ◌≡◌, cond, List, leb, get_or, length}
use Rattle.lists.specs.Rows.{tabulate}
use Rattle.obj.specs.declared.Split.{Split}

-- ---- the packed number

-- the alignment that a number of eight bits stands for: 2 ^ e for e + 1, up to 65,536; none for 0 and for what is above
unfoldable pub alignment_of : ℕ → ℕ
alignment_of zero = 0
alignment_of (suc e) = cond (leb e 16) (2 ^ e) 0

-- a packed number can hold this alignment: it is none, or good
pub record Good (a : ℕ) : Type 0 where
  pub bits : ℕ
  pub is : alignment_of bits ≡ a

abbrev pub packed : ℕ → ℕ → ℕ → ℕ → ℕ → ℕ
packed section rename flags alignment origin = section + 65536 * rename + 4294967296 * flags + 1099511627776 * alignment + 281474976710656 * origin

abbrev pub section_in : ℕ → ℕ
section_in rest = rest % 65536

abbrev pub rename_in : ℕ → ℕ
rename_in rest = rest / 65536 % 65536

abbrev pub flags_in : ℕ → ℕ
flags_in rest = rest / 4294967296 % 256

abbrev pub alignment_in : ℕ → ℕ
alignment_in rest = alignment_of (rest / 1099511627776 % 256)

abbrev pub origin_in : ℕ → ℕ
origin_in rest = rest / 281474976710656 % 65536

-- ---- the columns

pub record Columns : Type 0 where
  pub starts : List ℕ
  pub ends : List ℕ
  pub units : List ℕ
  pub rest : List ℕ

abbrev pub columns : List ℕ → List ℕ → List ℕ → List ℕ → Columns
columns starts ends units rest = record { starts = starts; ends = ends; units = units; rest = rest }

-- a row of its four numbers
unfoldable pub row_of : ℕ → ℕ → ℕ → ℕ → Split
row_of start end unit rest = record {
  section = section_in rest;
  start = start;
  end = end;
  unit = unit;
  alignment = alignment_in rest;
  flags = flags_in rest;
  rename = rename_in rest;
  origin = origin_in rest;
}

abbrev pub row_at : Columns → ℕ → Split
row_at c i = row_of (get_or c.starts i 0) (get_or c.ends i 0) (get_or c.units i 0) (get_or c.rest i 0)

-- the first n rows: the table
abbrev pub rows : Columns → ℕ → List Split
rows c n = tabulate (row_at c) 0 n

-- n rows stand in the columns
pub record Long (c : Columns) (n : ℕ) : Type 0 where
  pub starts : n ≤ length c.starts
  pub ends : n ≤ length c.ends
  pub units : n ≤ length c.units
  pub rest : n ≤ length c.rest
