-- Numbers in bytes. Document 01, "Records and ceilings": "A record is a four-byte length of its payload, a two-byte kind, the payload; all little-endian."
-- `le16`, `le32` and `le64` are the numbers of 2, 4 and 8 bytes from an offset on, the lowest byte first; `enc16`, `enc32` and `enc64` are a number's bytes.
-- Both are the little-endian case of one pair over the byte order and the width in bytes, `number_at` and `bytes_of`; an ELF file may ask the other order.
-- A signed field (a relocation's "addend 8 signed", a unit's order) is the number that its word is in two's complement, as the language reads an i32 or i64.
-- Callers use the laws of proofs/Laws.antt: `read_back` (what was stored is read), `read_in` (a field within a longer run of stores), `read_beside` (a store beside
-- a field leaves it), these at each width, as `le16_back`, `le16_in` and `le16-beside`, and `round16`, that a number's bytes give it back; and `signed32_back` of
-- proofs/Signed.antt.
use Rattle.std.specs.Prelude.{ℕ, zero, suc, ◌+◌, ◌*◌, ◌/◌, ◌%◌, ◌^◌, List, [], ◌∷◌, ◌++◌, get_or, ℤ}
use Rattle.std.specs.Int.{w32, w64}
use Rattle.std.proofs.Common.{to_z, of_z}

-- ---- little-endian, at the widths of the records

-- the number of 2 bytes at `at`
abbrev pub le16 : List ℕ → ℕ → ℕ
le16 s at = get_or s at 0 + 256 * get_or s (at + 1) 0

-- the number of 4 bytes at `at`
abbrev pub le32 : List ℕ → ℕ → ℕ
le32 s at = get_or s at 0 + 256 * get_or s (at + 1) 0 + 65536 * get_or s (at + 2) 0 + 16777216 * get_or s (at + 3) 0

-- the number of 8 bytes at `at`: the lower half first
abbrev pub le64 : List ℕ → ℕ → ℕ
le64 s at = le32 s at + 4294967296 * le32 s (at + 4)

-- the 2 bytes of a number
abbrev pub enc16 : ℕ → List ℕ
enc16 v = v % 256 ∷ v / 256 % 256 ∷ []

-- the 4 bytes of a number
abbrev pub enc32 : ℕ → List ℕ
enc32 v = v % 256 ∷ v / 256 % 256 ∷ v / 65536 % 256 ∷ v / 16777216 % 256 ∷ []

-- the 8 bytes of a number
abbrev pub enc64 : ℕ → List ℕ
enc64 v = enc32 (v % 4294967296) ++ enc32 (v / 4294967296)

-- ---- signed numbers, in two's complement

-- the number that a word of 32 bits is: v below 2 ^ 31, else v less 2 ^ 32
abbrev pub signed32 : ℕ → ℤ
signed32 v = to_z w32 v

-- the number that a word of 64 bits is: v below 2 ^ 63, else v less 2 ^ 64
abbrev pub signed64 : ℕ → ℤ
signed64 v = to_z w64 v

-- the word of 32 bits of a number
abbrev pub word32 : ℤ → ℕ
word32 z = of_z w32 z

-- the word of 64 bits of a number
abbrev pub word64 : ℤ → ℕ
word64 z = of_z w64 z

-- ---- any width, either order

-- which byte stands first: the lowest or the highest
pub data Order : Type 0 where
  little : Order
  big : Order

-- the number of n bytes at `at`
unfoldable pub number_at : Order → ℕ → List ℕ → ℕ → ℕ
number_at o zero s at = zero
number_at little (suc n) s at = get_or s at 0 + 256 * number_at little n s (suc at)
number_at big (suc n) s at = get_or s at 0 * 256 ^ n + number_at big n s (suc at)

-- the n lowest bytes of a number
unfoldable pub bytes_of : Order → ℕ → ℕ → List ℕ
bytes_of o zero v = []
bytes_of little (suc n) v = v % 256 ∷ bytes_of little n (v / 256)
bytes_of big (suc n) v = v / 256 ^ n % 256 ∷ bytes_of big n v
