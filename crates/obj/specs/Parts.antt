-- A part of a section's bytes, at its address: what is compared of a piece, and what a record of kind 7 has.
use Rattle.std.specs.Prelude.{ℕ, List}

-- "each a record of kind 7 ..: section 2, address 4, its bytes"
pub record Part : Type 0 where
  pub section : ℕ
  pub address : ℕ
  pub bytes : List ℕ
