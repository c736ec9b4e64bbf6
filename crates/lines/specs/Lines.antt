-- The lines of the listing: document 01, "Addresses and offsets have eight upper-case hexadecimal digits; the rest is decimal; one space parts fields. Unit:
-- number, name, sum of its piece sizes. Piece: number in its unit, name, address, size, alignment. Total: units, pieces, bytes. After a unit's pieces come `sym`
-- name (`-` if empty), piece or `common`, address, size; then `reloc` piece, offset, kind, target, addend. A refusal prints only `refused`, number, section, address."
use Rattle.std.specs.Prelude.{ℕ, zero, suc, ◌+◌, ◌/◌, ◌%◌, ◌≤◌, ◌≡◌, List, [], ◌∷◌, ◌++◌, cond, length, take, ltb, ℤ, pos, negsuc, Option, Some, None}
use Rattle.names.specs.Fixed.{codes}
use Rattle.names.specs.GapName.{digit, hex8}
use Rattle.lines.specs.declared.Text.{Text}

-- ---- fields

-- decimal digits, at most so many
unfoldable pub digits : (most n : ℕ) → List ℕ
digits zero n = []
digits (suc most) n = cond (ltb n 10) (digit n ∷ []) (digits most (n / 10) ++ (digit (n % 10) ∷ []))

-- "the rest is decimal": a number of 64 bits has no more than 20 digits
abbrev pub decimal : ℕ → List ℕ
decimal n = digits 20 n

-- an addend may be negative
unfoldable pub signed_decimal : ℤ → List ℕ
signed_decimal (pos n) = decimal n
signed_decimal (negsuc n) = 45 ∷ decimal (suc n)

-- "name (`-` if empty)"
unfoldable pub shown : (name : List ℕ) → List ℕ
shown [] = codes "-"
shown (b ∷ name) = b ∷ name

-- "piece or `common`": a piece's number in its unit
abbrev pub owner_of : Option ℕ → List ℕ
owner_of None = codes "common"
owner_of (Some number) = decimal number

-- "one space parts fields"; a line ends with a newline
unfoldable pub line : List (List ℕ) → List ℕ
line [] = 10 ∷ []
line (field ∷ []) = field ++ (10 ∷ [])
line (field ∷ next ∷ fields) = field ++ (32 ∷ line (next ∷ fields))

-- ---- lines

-- "Unit: number, name, sum of its piece sizes."
abbrev pub unit_line : (number : ℕ) → (name : List ℕ) → (size : ℕ) → List ℕ
unit_line number name size = line (codes "unit" ∷ decimal number ∷ name ∷ decimal size ∷ [])

-- "Piece: number in its unit, name, address, size, alignment."; document 02, (b): "A piece line in the listing ends with this number", its split's origin
abbrev pub piece_line : (number : ℕ) → (name : List ℕ) → (address size alignment origin : ℕ) → List ℕ
piece_line number name address size alignment origin =
    line (codes "piece" ∷ decimal number ∷ name ∷ hex8 address ∷ decimal size ∷ decimal alignment ∷ decimal origin ∷ [])

-- "`sym` name (`-` if empty), piece or `common`, address, size"
abbrev pub sym_line : (name : List ℕ) → Option ℕ → (address size : ℕ) → List ℕ
sym_line name owner address size = line (codes "sym" ∷ shown name ∷ owner_of owner ∷ hex8 address ∷ decimal size ∷ [])

-- "`reloc` piece, offset, kind, target, addend"
abbrev pub reloc_line : (number offset kind target : ℕ) → (addend : ℤ) → List ℕ
reloc_line number offset kind target addend =
    line (codes "reloc" ∷ decimal number ∷ hex8 offset ∷ decimal kind ∷ decimal target ∷ signed_decimal addend ∷ [])

-- "Total: units, pieces, bytes."
abbrev pub total_line : (units pieces bytes : ℕ) → List ℕ
total_line units pieces bytes = line (codes "total" ∷ decimal units ∷ decimal pieces ∷ decimal bytes ∷ [])

-- "A refusal prints only `refused`, number, section, address."
abbrev pub refused_line : (number section address : ℕ) → List ℕ
refused_line number section address = line (codes "refused" ∷ decimal number ∷ decimal section ∷ hex8 address ∷ [])

-- ---- what is written

-- the text stands behind the first `at` bytes, which stay, and ends at r
pub record Put (before after : List ℕ) (at : ℕ) (text : List ℕ) (r : ℕ) : Type 0 where
  pub is : take r after ≡ take at before ++ text
  pub end : r ≡ at + length text
  pub long : length after ≡ length before

-- a text goes behind what is written so far, in the same lent buffer
pub record Adds (old new : Text) (text : List ℕ) : Type 0 where
  pub put : Put old.bytes.now new.bytes.now old.at text new.at
  pub lent : new.bytes.ghost_name ≡ old.bytes.ghost_name

-- a line of r bytes stands at the front of what was lent
pub record Written (before after : List ℕ) (text : List ℕ) (r : ℕ) : Type 0 where
  pub is : take r after ≡ text
  pub end : r ≡ length text
  pub few : r ≤ 208
  pub long : length after ≡ length before
