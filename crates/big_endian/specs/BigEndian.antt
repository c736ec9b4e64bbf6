-- Numbers in bytes, the most significant byte first: the System V ABI's ELFDATA2MSB, "the most significant byte occupying the lowest address". They are the other order of
-- `number_at` of fields, at the two widths that an ELF32 file has besides single bytes (`be16_is`, `be32_is` of proofs/Laws.antt).
use Rattle.std.specs.Prelude.{ℕ, ◌+◌, ◌*◌, List, get_or}

-- the number of 2 bytes at `at`
abbrev pub be16 : List ℕ → ℕ → ℕ
be16 s at = 256 * get_or s at 0 + get_or s (at + 1) 0

-- the number of 4 bytes at `at`
abbrev pub be32 : List ℕ → ℕ → ℕ
be32 s at = 16777216 * get_or s at 0 + 65536 * get_or s (at + 1) 0 + 256 * get_or s (at + 2) 0 + get_or s (at + 3) 0
