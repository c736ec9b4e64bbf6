-- NOBITS: the System V ABI on sh_type, "SHT_NOBITS A section of this type occupies no space in the file but otherwise resembles SHT_PROGBITS. Although this section
-- contains no bytes, the sh_offset member contains the conceptual file offset.", of a section of kind 3 ("3 bss"). The theorems are those of proofs/Nobits.antt.
-- - "contains no bytes": `Empty`. "occupies no space in the file": `images_alike`; what stands in an image at its place has no say, nor has the place.
-- - "otherwise resembles SHT_PROGBITS": `resembles`; the walk is that of the same section as data (kind 1) whose bytes are zeros, wherever no reduction lowers the
--   splitting end of the latter (`Whole`). Where one does, document 01 has it otherwise: "Sections without bytes skip both reductions." (`nobits_ends`).
-- - "the sh_offset member contains the conceptual file offset": `pieces_placed`; a piece's file offset is counted from it, as in every other section (`Placed`).
use Rattle.std.specs.Prelude.{ℕ, ◌+◌, ◌-◌, ◌<◌, ◌≡◌, [], cond, eqb, replicate}
use Rattle.lists.specs.Outcome.{accepted}
use Rattle.obj.specs.declared.Section.{Section}
use Rattle.sections.specs.Image.{Image}
use Rattle.sections.specs.Sections.{Sections}
use Rattle.pieces.specs.declared.Piece.{Piece}
use Rattle.walk.specs.Walk.{Input, end_in, splitting_end_in}

-- "contains no bytes"
abbrev pub Empty : Input → Type 0
Empty t = (n : ℕ) → n < t.sections.count → (t.sections.head n).kind ≡ 3 → t.sections.bytes n ≡ []

-- ---- the section as SHT_PROGBITS

-- the tables with these sections
abbrev pub with_sections : Input → Sections → Input
with_sections t sections = record {
  image = t.image;
  sections = sections;
  reloc = t.reloc;
  relocs = t.relocs;
  splits = t.splits;
  units = t.units;
  room = t.room;
}

-- a section's head with another kind
abbrev pub of_kind : (kind : ℕ) → Section → Section
of_kind kind head = record { name = head.name; kind = kind; address = head.address; size = head.size; offset = head.offset }

-- section n as data, "1 data", whose bytes are zeros: "Section bytes equal size"
abbrev pub as_data : Sections → (n : ℕ) → Sections
as_data sections n = record {
  count = sections.count;
  head = λ m. cond (eqb m n) (of_kind 1 (sections.head m)) (sections.head m);
  bytes = λ m. cond (eqb m n) (replicate (sections.head m).size 0) (sections.bytes m);
}

-- no reduction lowers the splitting end of section n, and 10 doesn't come of it
abbrev pub Whole : Image → Sections → (n : ℕ) → Type 0
Whole image sections n = splitting_end_in image sections n ≡ accepted (end_in sections n)

-- ---- the file offset

-- a piece lies in the file as far behind its section's offset as its address behind the section's start
abbrev pub Placed : Sections → Piece → Type 0
Placed sections p = p.offset ≡ (sections.head p.section).offset + (p.address - (sections.head p.section).address)
