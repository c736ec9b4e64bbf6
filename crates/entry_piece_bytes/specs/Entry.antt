-- The entry `piece_bytes` on its lent bytes: where in the image a piece's bytes lie, what it answers for every input, and every byte of the output.
-- `place_reads` of proofs/Laws.antt: the bytes of the image there are the piece's.
use Rattle.std.specs.Prelude.{ℕ, ◌+◌, ◌*◌, ◌-◌, ◌/◌, min, ◌≡◌, List, [], ◌++◌, Bool, cond, ◌||◌, length, get_or, eqb, ltb, leb}
use Rattle.lists.specs.Outcome.{Outcome, accepted, refused, refuse, ◌>>◌}
use Rattle.lists.specs.Tables.{laid}
use Rattle.fields.specs.Fields.{enc32}
use Rattle.obj.specs.Answers.{outcome_word}
use Rattle.obj.specs.Records.{section_at}
use Rattle.obj.specs.declared.Section.{Section}
use Rattle.tables.specs.Tables.{size_check}
use Rattle.tables.specs.Records.{image_places_of, bytes_cut}
use Rattle.pieces.specs.Pieces.{piece_at, piece_width}
use Rattle.pieces.specs.declared.Piece.{Piece}
use Rattle.entry_piece_bytes.specs.declared.Place.{Place}

-- ---- a piece in its section

-- as far as an offset of four bytes reaches into an image of this length
abbrev pub reach : (image : ℕ) → ℕ
reach image = min image 4294967295

-- the piece starts below its section's start, or ends above its end; a piece of no length lies in a section at its start and at its end too
abbrev pub outside : Section → Piece → Bool
outside head p = ltb p.address head.address || ltb (head.address + head.size) (p.address + p.size)

-- "A piece's bytes are a returned part of the section's bytes", and these start at `start` of the image; a section of kind 3 holds none
abbrev pub placed : (start : ℕ) → Section → Piece → Place
placed start head p =
    cond (eqb head.kind 3) (record { offset = 0; length = 0 })
    (record { offset = start + (p.address - head.address); length = p.size })

-- a piece whose section has this head; `places` says where in the image the sections' bytes start
unfoldable pub within : (places : List ℕ) → (image : ℕ) → Section → Piece → Outcome Place
within places image head p = do
  -- 1 of a section whose bytes don't lie in the image, at its number, as in the check of the section table
  refuse 1 0 p.section (bytes_cut places (reach image) p.section head)
  -- 72 "outside section", at the piece's address
  refuse 72 p.section p.address (outside head p)
  accepted (placed (get_or places p.section 0) head p)

-- a section that is not there is 20
unfoldable pub in_section : (sections places : List ℕ) → (image : ℕ) → Piece → Outcome Place
in_section sections places image p = do
  refuse 20 p.section 0 (leb (length sections / 15) p.section)
  within places image (section_at sections (15 * p.section)) p

-- a piece that is not there is 20 at its number
unfoldable pub of_piece : (sections places : List ℕ) → (image : ℕ) → (pieces : List ℕ) → (which : ℕ) → Outcome Place
of_piece sections places image pieces which = do
  refuse 20 0 which (leb (length pieces / piece_width) which)
  in_section sections places image (piece_at pieces (piece_width * which))

-- ---- the entry

-- the two tables of records, 1 and 2, and then the piece
unfoldable pub place_of : (sections places image pieces : List ℕ) → (which : ℕ) → Outcome Place
place_of sections places image pieces which = do
  -- "64 sections"
  size_check 15 64 (length sections)
  -- 1,024 pieces
  size_check piece_width 1024 (length pieces)
  of_piece sections (image_places_of places) (length image) pieces which

-- offset and length in eight bytes, where they fit whole into the lent ones; zeros after a refusal
abbrev pub place_bytes : (size : ℕ) → Outcome Place → List ℕ
place_bytes size (accepted p) = cond (leb 8 size) (laid size (enc32 p.offset ++ enc32 p.length)) (laid size [])
place_bytes size (refused number section address) = laid size []

-- the answer, and every byte of the output
pub record Leaves (o : Outcome Place) (size answer : ℕ) (out : List ℕ) : Type 0 where
  pub said : answer ≡ outcome_word o
  pub place : out ≡ place_bytes size o
