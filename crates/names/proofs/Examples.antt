-- The names of some gaps' units, computed. The first is that of document 01's program `splitlist`; all leading dots go, also where
-- nothing else is left. Assumes nothing.
use mathlib.Core.Path.{◌≡◌, refl}
use mathlib.Core.List.{List, [], ◌∷◌, map}
use Prim.Native.Nat.{ℕ}
use Prim.Native.String.{String}
use Rattle.names.specs.Fixed.{codes}
use Rattle.names.specs.GapName.{decimal2, hex8, without_dots, gap_name}

pub record Gap : Type 0 where
  pub section : ℕ
  pub address : ℕ
  pub name : String
  pub unit : String

abbrev pub gaps : List Gap
gaps =
    record { section = 0; address = 4096; name = ".data"; unit = "auto_00_00001000_data" }
    ∷ record { section = 10; address = 2148532223; name = "..x"; unit = "auto_10_800FFFFF_x" }
    ∷ record { section = 63; address = 4026531840; name = "."; unit = "auto_63_F0000000_" }
    ∷ record { section = 7; address = 0; name = "extab.d"; unit = "auto_07_00000000_extab.d" }
    ∷ []

pub gaps_named : map (λ (g : Gap). gap_name g.section g.address (codes g.name)) gaps ≡ map (λ (g : Gap). codes g.unit) gaps
unfolding gap_name codes decimal2 hex8 without_dots
gaps_named = refl
