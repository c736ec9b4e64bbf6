-- Lines, computed: those of document 01's example, a refusal, a nameless common symbol, negative addends, and the smallest and the largest number of 64 bits.
-- Assumes nothing.
use mathlib.Core.Path.{◌≡◌, refl}
use mathlib.Core.List.{List, [], ◌∷◌, ◌++◌, map}
use Prim.Native.Nat.{ℕ}
use Prim.Native.String.{String}
use lib.IntN.{negsuc}
use Rattle.names.specs.Fixed.{codes}
use Rattle.names.specs.GapName.{hex8}
use Rattle.lines.specs.Lines.{digits, signed_decimal, shown, line, unit_line, piece_line, sym_line, reloc_line, total_line, refused_line}
use Rattle.std.specs.Prelude.{Some, None}

-- a line and the text that it is, without the newline
pub record Case : Type 0 where
  pub is : List ℕ
  pub text : String

abbrev pub cases : List Case
cases =
    -- document 01's program `splitlist`
    record { is = unit_line 0 (codes "auto_00_00001000_data") 8; text = "unit 0 auto_00_00001000_data 8" }
    ∷ record { is = piece_line 0 (codes ".data") 4096 8 8 65535; text = "piece 0 .data 00001000 8 8 65535" }
    ∷ record { is = unit_line 1 (codes "b.c") 8; text = "unit 1 b.c 8" }
    ∷ record { is = piece_line 0 (codes ".data") 4104 8 8 0; text = "piece 0 .data 00001008 8 8 0" }
    ∷ record { is = total_line 2 2 16; text = "total 2 2 16" }
    -- "A refusal prints only `refused`, number, section, address."
    ∷ record { is = refused_line 52 3 2148532236; text = "refused 52 3 8010000C" }
    -- "`-` if empty", "piece or `common`"
    ∷ record { is = sym_line [] None 4 16; text = "sym - common 00000004 16" }
    ∷ record { is = sym_line (codes "main") (Some 12) 0 100; text = "sym main 12 00000000 100" }
    -- an addend may be negative
    ∷ record { is = reloc_line 0 4 6 1023 (negsuc 0); text = "reloc 0 00000004 6 1023 -1" }
    ∷ record { is = reloc_line 1 2882400000 0 0 (negsuc 9223372036854775807); text = "reloc 1 ABCDEF00 0 0 -9223372036854775808" }
    -- the smallest and the largest number
    ∷ record { is = total_line 0 0 0; text = "total 0 0 0" }
    ∷ record { is = total_line 65535 10 18446744073709551615; text = "total 65535 10 18446744073709551615" }
    ∷ []

pub cases_lines : map (λ (c : Case). c.is) cases ≡ map (λ (c : Case). codes c.text ++ (10 ∷ [])) cases
unfolding digits signed_decimal shown line codes hex8
cases_lines = refl
