-- `entry_piece_bytes::find_in_section` meets its contract: 20 past the last section, else the place by its head. Assumes nothing.
use Rattle.entry_piece_bytes.specs.declared.Place.{Place}
use Rattle.std.specs.Prelude.{Result}
use Rattle.obj.specs.Answers.{meaning}
use Rattle.obj.specs.declared.Refusal.{Refusal}
use mathlib.Core.Path.{sym, ap, ◌∙◌}
use Rattle.obj.specs.declared.Section.{Section}
use Rattle.tables.specs.Records.{image_places_of}
use Rattle.entry_piece_bytes.specs.Entry.{within}
use Rattle.entry_piece_bytes.proofs.Steps.{no_section, section_there}
use lib.ListN.{length}
use Rattle.entry_piece_bytes.proofs.find_in_section.Goals as goal

pub returns-then-lent-n : goal.returns-then-lent-n
returns-then-lent-n c =
    let a = c.args in
    ap (λ (x : Result Place Refusal). meaning x) c.refuse.ensures ∙ sym (no_section a.lent.now.heads.now (image_places_of a.lent.now.places.now) (length a.lent.now.image.now) a.p c.if-lent-n.true)

pub returns : goal.returns
returns c =
    let a = c.args in
    c.find_within.ensures
    ∙ ap (λ (s : Section). within (image_places_of a.lent.now.places.now) (length a.lent.now.image.now) s a.p) c.record_in.ensures
    ∙ sym (section_there a.lent.now.heads.now (image_places_of a.lent.now.places.now) (length a.lent.now.image.now) a.p c.if-lent-n.false)
