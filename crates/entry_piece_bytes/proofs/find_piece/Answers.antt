-- `entry_piece_bytes::find_piece` meets its contract: 20 past the last piece, else the place of its record. Assumes nothing.
use Rattle.entry_piece_bytes.specs.declared.Place.{Place}
use Rattle.std.specs.Prelude.{Result}
use Rattle.obj.specs.Answers.{meaning}
use Rattle.obj.specs.declared.Refusal.{Refusal}
use mathlib.Core.Path.{sym, ap, ◌∙◌}
use Rattle.tables.specs.Records.{image_places_of}
use Rattle.entry_piece_bytes.specs.Entry.{in_section}
use Rattle.entry_piece_bytes.proofs.Steps.{no_piece, piece_there}
use lib.ListN.{length}
use Rattle.entry_piece_bytes.proofs.find_piece.Goals as goal

pub returns-then-pieces-k : goal.returns-then-pieces-k
returns-then-pieces-k c =
    let a = c.args in
    ap (λ (x : Result Place Refusal). meaning x) c.refuse.ensures ∙ sym (no_piece a.lent.now.heads.now (image_places_of a.lent.now.places.now) (length a.lent.now.image.now) a.pieces.now a.which c.if-pieces-k.true)

pub returns : goal.returns
returns c =
    let a = c.args in
    c.find_in_section.ensures
    ∙ ap (in_section a.lent.now.heads.now (image_places_of a.lent.now.places.now) (length a.lent.now.image.now)) c.record_in.ensures
    ∙ sym (piece_there a.lent.now.heads.now (image_places_of a.lent.now.places.now) (length a.lent.now.image.now) a.pieces.now a.which c.if-pieces-k.false)
