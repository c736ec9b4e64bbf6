-- The unit of a gap: "`auto_`, two-digit decimal section number, `_`, eight upper-case hexadecimal digits of the address, `_`, section
-- name without leading dots" (document 01, Gap; create_gap_splits of util/split.rs).
use Rattle.std.specs.Prelude.{ℕ, ◌+◌, ◌/◌, ◌%◌, ◌≤◌, ◌≡◌, List, [], ◌∷◌, ◌++◌, cond, length, take, drop, eqb, ltb}
use Rattle.names.specs.Fixed.{codes}

-- a digit, 0 to 9 and A to F
abbrev pub digit : ℕ → ℕ
digit d = cond (ltb d 10) (48 + d) (55 + d)

-- "two-digit decimal": the section number is below 64
unfoldable pub decimal2 : ℕ → List ℕ
decimal2 n = digit (n / 10 % 10) ∷ digit (n % 10) ∷ []

-- "eight upper-case hexadecimal digits"
unfoldable pub hex8 : ℕ → List ℕ
hex8 a =
    digit (a / 268435456 % 16) ∷ digit (a / 16777216 % 16) ∷ digit (a / 1048576 % 16) ∷ digit (a / 65536 % 16)
    ∷ digit (a / 4096 % 16) ∷ digit (a / 256 % 16) ∷ digit (a / 16 % 16) ∷ digit (a % 16) ∷ []

-- the digits of bytes, two for each, upper case too; those of a number's four bytes are its eight (`hexes_eight` of proofs/HexDigits.antt)
unfoldable pub hexes : List ℕ → List ℕ
hexes [] = []
hexes (b ∷ l) = digit (b / 16) ∷ digit (b % 16) ∷ hexes l

-- "section name without leading dots": all of them go
unfoldable pub without_dots : List ℕ → List ℕ
without_dots [] = []
without_dots (b ∷ name) = cond (eqb b 46) (without_dots name) (b ∷ name)

unfoldable pub gap_name : (section address : ℕ) → (name : List ℕ) → List ℕ
gap_name section address name = codes "auto_" ++ decimal2 section ++ codes "_" ++ hex8 address ++ codes "_" ++ without_dots name

-- the name of r bytes stands at the front of what was lent
pub record Written (section address : ℕ) (name before out : List ℕ) (r : ℕ) : Type 0 where
  pub long : r ≡ length (gap_name section address name)
  pub few : r ≤ 81
  pub text : take r out ≡ gap_name section address name
  pub kept : length out ≡ length before

-- the dots at the front of a name
pub record Dots (name : List ℕ) (r : ℕ) : Type 0 where
  pub few : r ≤ length name
  pub rest : drop r name ≡ without_dots name
