-- Listings, computed: document 01's example of the program `splitlist`, byte for byte, and a run with symbols and relocations of two units, which the walk gave in
-- the order of addresses and the listing groups by unit. Assumes nothing.
use mathlib.Core.Path.{◌≡◌, refl}
use mathlib.Core.List.{List, [], ◌∷◌, ◌++◌}
use Prim.Native.Nat.{ℕ}
use Prim.Native.String.{String}
use lib.IntN.{pos, negsuc}
use lib.ListN.{get_or}
use Rattle.lists.specs.Rows.{keep_if}
use Rattle.names.specs.Fixed.{codes}
use Rattle.names.specs.GapName.{hex8}
use Rattle.obj.specs.declared.Symbol.{Symbol}
use Rattle.obj.specs.declared.Reloc.{Reloc}
use Rattle.obj.specs.Nothing.{no_symbol, no_reloc}
use Rattle.lines.specs.Lines.{digits, signed_decimal, shown, line}
use Rattle.listing.specs.Listing.{Run, sum_by, figures, piece_lines, sym_lines, reloc_lines, unit_lines, units_lines, listing}

-- lines, each ended
unfoldable pub text : List String → List ℕ
text [] = []
text (l ∷ later) = codes l ++ (10 ∷ text later)

abbrev pub example : Run
example = record {
  name = λ k. get_or (codes "auto_00_00001000_data" ∷ codes "b.c" ∷ codes ".data" ∷ []) k [];
  symbol = λ k. no_symbol;
  reloc = λ k. no_reloc;
  units = 0 ∷ 1 ∷ [];
  pieces =
      record { unit = 0; number = 0; section = 0; name = 2; address = 4096; size = 8; alignment = 8; offset = 0; origin = 65535 }
      ∷ record { unit = 1; number = 0; section = 0; name = 2; address = 4104; size = 8; alignment = 8; offset = 0; origin = 0 }
      ∷ [];
  symbols = [];
  relocs = [];
}

pub example_listed :
    listing example
    ≡ text
    ("unit 0 auto_00_00001000_data 8"
    ∷ "piece 0 .data 00001000 8 8 65535"
    ∷ "unit 1 b.c 8"
    ∷ "piece 0 .data 00001008 8 8 0"
    ∷ "total 2 2 16"
    ∷ [])
unfolding listing units_lines unit_lines piece_lines sym_lines reloc_lines sum_by figures keep_if text codes digits line hex8
example_listed = refl

-- two units whose pieces take turns; a nameless symbol, a common one, which is in the figure, one of unknown size, which isn't, and a negative addend
abbrev pub mixed : Run
mixed = record {
  name = λ k. get_or (codes "a.c" ∷ codes "b.c" ∷ codes ".text" ∷ [] ∷ codes "main" ∷ codes "buffer" ∷ codes "rest" ∷ []) k [];
  symbol =
      λ k.
      get_or
      (record { name = 4; section = 0; address = 4096; size = 12; size_known = 1; kind = 1; flags = 0; alignment = 0 }
      ∷ record { name = 3; section = 0; address = 4112; size = 0; size_known = 0; kind = 0; flags = 0; alignment = 0 }
      ∷ record { name = 5; section = 1; address = 8192; size = 256; size_known = 1; kind = 2; flags = 0; alignment = 0 }
      ∷ record { name = 6; section = 1; address = 8448; size = 64; size_known = 0; kind = 2; flags = 0; alignment = 0 }
      ∷ [])
      k no_symbol;
  reloc = λ k. record { section = 0; address = 4116; kind = 6; target = 2; addend = negsuc 3; «module» = 0 };
  units = 0 ∷ 1 ∷ [];
  pieces =
      record { unit = 1; number = 0; section = 0; name = 2; address = 4096; size = 16; alignment = 4; offset = 0; origin = 1 }
      ∷ record { unit = 0; number = 0; section = 0; name = 2; address = 4112; size = 16; alignment = 4; offset = 0; origin = 65535 }
      ∷ record { unit = 1; number = 1; section = 0; name = 2; address = 4128; size = 32; alignment = 4; offset = 0; origin = 1023 }
      ∷ [];
  symbols =
      record { unit = 1; piece = 0; symbol = 0; flags = 0; address = 0 }
      ∷ record { unit = 0; piece = 1; symbol = 1; flags = 0; address = 0 }
      ∷ record { unit = 1; piece = 65535; symbol = 2; flags = 0; address = 4 }
      ∷ record { unit = 1; piece = 65535; symbol = 3; flags = 0; address = 4 }
      ∷ [];
  relocs = record { piece = 1; relocation = 0; offset = 4 } ∷ record { piece = 2; relocation = 0; offset = 28 } ∷ [];
}

pub mixed_listed :
    listing mixed
    ≡ text
    ("unit 0 a.c 16"
    ∷ "piece 0 .text 00001010 16 4 65535"
    ∷ "sym - 0 00000000 0"
    ∷ "reloc 0 00000004 6 2 -4"
    ∷ "unit 1 b.c 304"
    ∷ "piece 0 .text 00001000 16 4 1"
    ∷ "piece 1 .text 00001020 32 4 1023"
    ∷ "sym main 0 00000000 12"
    ∷ "sym buffer common 00000004 256"
    ∷ "sym rest common 00000004 64"
    ∷ "reloc 1 0000001C 6 2 -4"
    ∷ "total 2 3 320"
    ∷ [])
unfolding listing units_lines unit_lines piece_lines sym_lines reloc_lines sum_by figures keep_if text codes digits signed_decimal shown line hex8
mixed_listed = refl
