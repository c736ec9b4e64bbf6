-- The numbers of most significant byte first, as cases of the numbers of any width and order of fields. Assumes nothing.
use mathlib.Core.Path.{◌≡◌}
use mathlib.Core.List.{List}
use Prim.Native.Nat.{ℕ}
use native.Mathlib.Numerals.{towards_suc}
use native.Mathlib.Omega.{arith}
use Rattle.fields.specs.Fields.{big, number_at}
use Rattle.big_endian.specs.BigEndian.{be16, be32}

module _ (s : List ℕ) (at : ℕ) where
  pub be16_is : be16 s at ≡ number_at big 2 s at
  unfolding number_at
  be16_is = simp towards_suc (omega arith)

  pub be32_is : be32 s at ≡ number_at big 4 s at
  unfolding number_at
  be32_is = simp towards_suc (omega arith)
