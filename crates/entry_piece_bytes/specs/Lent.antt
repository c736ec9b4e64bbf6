-- The definitions of `Entry` over the struct in which the sections are lent.
use Rattle.std.specs.Prelude.{ℕ, List, length}
use Rattle.lists.specs.Outcome.{Outcome}
use Rattle.obj.specs.declared.Section.{Section}
use Rattle.tables.specs.Records.{image_places_of}
use Rattle.pieces.specs.declared.Piece.{Piece}
use Rattle.entry_piece_bytes.specs.declared.Place.{Place}
use Rattle.entry_piece_bytes.specs.declared.LentSections.{LentSections}
use Rattle.entry_piece_bytes.specs.Entry.{of_piece, in_section, within}

abbrev pub within_lent : LentSections → Section → Piece → Outcome Place
within_lent lent head p = within (image_places_of lent.places.now) (length lent.image.now) head p

abbrev pub in_lent : LentSections → Piece → Outcome Place
in_lent lent p = in_section lent.heads.now (image_places_of lent.places.now) (length lent.image.now) p

abbrev pub of_lent : LentSections → (pieces : List ℕ) → (which : ℕ) → Outcome Place
of_lent lent pieces which = of_piece lent.heads.now (image_places_of lent.places.now) (length lent.image.now) pieces which
