-- Document 01's example and P8 as a table: a `.data` with its bytes, and the expected outcome of its walk; besides, a section with symbols and relocations.
use Prim.Native.Nat.{ℕ}
use mathlib.Core.Path.{◌≡◌, refl}
use mathlib.Core.List.{List, [], ◌∷◌, map}
use lib.IntN.{pos}
use lib.ListN.{length, get_or}
use Rattle.lists.specs.Outcome.{Outcome, accepted, refused, refuse, ◌>>=◌, ◌>>◌}
use Rattle.lists.specs.Rows.{tabulate, keep_if, some}
use Rattle.lists.specs.Sort.{sort_by, insert_key}
use Rattle.obj.specs.declared.Symbol.{Symbol}
use Rattle.obj.specs.declared.Reloc.{Reloc}
use Rattle.obj.specs.declared.Split.{Split}
use Rattle.names.specs.Fixed.{codes, spells, spells_one, is_linker_object, is_linker_label, is_vector_table_end, is_pointer_list, is_four_aligned}
use Rattle.symbol_order.specs.Order.{symbols_of}
use Rattle.symbols.specs.Ranges.{has_symbols, highest_of, highest_in}
use Rattle.sections.specs.Bytes.{all_zero}
use Rattle.sections.specs.Ends.{lowered, splitting_end}
use Rattle.sections.specs.Alignment.{default_alignment, larger, alignment_of}
use Rattle.pieces.specs.declared.Piece.{Piece}
use Rattle.pieces.specs.declared.PieceSymbol.{PieceSymbol}
use Rattle.pieces.specs.declared.PieceReloc.{PieceReloc}
use Rattle.pieces.specs.Questions.{count_of, has}
use Rattle.relocs.specs.Relocs.{relocs_of, has_relocs}
use Rattle.units.specs.Units.{last_named, unit_of}
use Rattle.splits.specs.Questions.{next_start}
use Rattle.walk.specs.Walk.{Input, Output, halved, passed_over, entry_of, add_symbol, add_symbols, add_relocs, piece_of, given, on_aligned, on_kept, on_split, walk_splits, walk_section, walk_sections, walk}

-- one section, `.data`, and no symbols but these
pub record Case : Type 0 where
  pub address : ℕ
  pub bytes : List ℕ
  pub symbols : List Symbol
  pub relocs : List Reloc
  pub splits : List Split
  pub outcome : Outcome Output

-- names: 0 `.data`, 1 `auto_00_00001000_data`, 2 `b.c`, and two of the fixed ones
abbrev pub names : List (List ℕ)
unfolding codes
names = codes ".data" ∷ codes "auto_00_00001000_data" ∷ codes "b.c" ∷ codes "_f_data" ∷ codes "gTRKInterruptVectorTableEnd" ∷ []

abbrev pub symbol : (name address size flags alignment : ℕ) → Symbol
symbol name address size flags alignment = record {
  name = name;
  section = 0;
  address = address;
  size = size;
  size_known = 1;
  kind = 2;
  flags = flags;
  alignment = alignment;
}

abbrev pub reloc : (address : ℕ) → Reloc
reloc address = record { section = 0; address = address; kind = 0; target = 0; addend = pos 0; «module» = 4294967295 }

abbrev pub split : (start end unit alignment flags origin : ℕ) → Split
split start end unit alignment flags origin =
    record { section = 0; start = start; end = end; unit = unit; alignment = alignment; flags = flags; rename = 65535; origin = origin }

abbrev pub piece : (unit number address size alignment offset origin : ℕ) → Piece
piece unit number address size alignment offset origin = record {
  unit = unit;
  number = number;
  section = 0;
  name = 0;
  address = address;
  size = size;
  alignment = alignment;
  offset = offset;
  origin = origin;
}

abbrev pub piece_symbol : (unit piece symbol flags address : ℕ) → PieceSymbol
piece_symbol unit piece symbol flags address = record { unit = unit; piece = piece; symbol = symbol; flags = flags; address = address }

abbrev pub piece_reloc : (piece relocation offset : ℕ) → PieceReloc
piece_reloc piece relocation offset = record { piece = piece; relocation = relocation; offset = offset }

abbrev pub input_of : Case → Input
input_of c = record {
  image = record { symbol = λ i. get_or c.symbols i (symbol 0 0 0 0 0); count = length c.symbols; name = λ k. get_or names k [] };
  sections = record {
    count = 1;
    head = λ n. record { name = 0; kind = 1; address = c.address; size = length c.bytes; offset = 0 };
    bytes = λ n. c.bytes;
  };
  reloc = λ i. get_or c.relocs i (reloc 0);
  relocs = length c.relocs;
  splits = c.splits;
  units = 1 ∷ 2 ∷ [];
  room = record { pieces = 1024; symbols = 4096; relocs = 4096 };
}

abbrev pub cases : List Case
cases =
    -- "section 0 `.data`, address 0x1000, size 16, bytes 1 to 9 then seven zeros", with the gap's split and that of `b.c`
    record {
      address = 4096;
      bytes = 1 ∷ 2 ∷ 3 ∷ 4 ∷ 5 ∷ 6 ∷ 7 ∷ 8 ∷ 9 ∷ 0 ∷ 0 ∷ 0 ∷ 0 ∷ 0 ∷ 0 ∷ 0 ∷ [];
      symbols = [];
      relocs = [];
      splits = split 4096 4104 1 0 2 65535 ∷ split 4104 4112 2 0 0 0 ∷ [];
      outcome = accepted (record { pieces = piece 0 0 4096 8 8 0 65535 ∷ piece 1 0 4104 8 8 8 0 ∷ []; symbols = []; relocs = [] });
    }
    -- P8: "alignment 32 at 0x1008 becomes 8"
    ∷ record {
      address = 4104;
      bytes = 1 ∷ 2 ∷ 3 ∷ 4 ∷ [];
      symbols = [];
      relocs = [];
      splits = split 4104 4108 2 32 0 3 ∷ [];
      outcome = accepted (record { pieces = piece 1 0 4104 4 8 0 3 ∷ []; symbols = []; relocs = [] });
    }
    -- "at 0x1002: 75"
    ∷ record {
      address = 4098;
      bytes = 1 ∷ 2 ∷ 3 ∷ 4 ∷ [];
      symbols = [];
      relocs = [];
      splits = split 4098 4102 2 32 0 3 ∷ [];
      outcome = refused 75 0 4098;
    }
    -- a linker label is left out, a symbol at the end is passed over, but the vector table's end is passed over at the start; an offset is rounded down;
    -- a common split gives its symbol's alignment as address, and no piece
    ∷ record {
      address = 4098;
      bytes = 1 ∷ 2 ∷ 3 ∷ 4 ∷ 5 ∷ 6 ∷ 0 ∷ 0 ∷ 0 ∷ 0 ∷ [];
      symbols = symbol 2 4100 2 1 0 ∷ symbol 3 4100 2 0 0 ∷ symbol 2 4104 4 7 16 ∷ symbol 4 4104 0 0 0 ∷ [];
      relocs = reloc 4100 ∷ reloc 4104 ∷ [];
      splits = split 4098 4104 2 2 0 5 ∷ split 4104 4108 1 4 1 6 ∷ [];
      outcome = accepted (record {
        pieces = piece 1 0 4098 6 2 0 5 ∷ [];
        symbols = piece_symbol 1 0 0 1 2 ∷ piece_symbol 1 0 3 0 6 ∷ piece_symbol 0 65535 2 6 16 ∷ [];
        relocs = piece_reloc 0 0 0 ∷ [];
      });
    }
    ∷ []

-- THEOREM: each case has its expected outcome
pub cases_hold : map (λ (c : Case). walk (input_of c)) cases ≡ map (λ (c : Case). c.outcome) cases
unfolding refuse ◌>>=◌ ◌>>◌ codes spells spells_one is_linker_object is_linker_label is_vector_table_end is_pointer_list is_four_aligned tabulate keep_if some sort_by insert_key symbols_of has_symbols highest_of highest_in all_zero lowered splitting_end default_alignment larger alignment_of count_of has relocs_of has_relocs last_named unit_of halved passed_over entry_of add_symbol add_symbols add_relocs piece_of given on_aligned on_kept on_split next_start walk_splits walk_section walk_sections walk
cases_hold = refl
