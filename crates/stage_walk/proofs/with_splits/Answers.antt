-- `stage_walk::with_splits` meets its contract. Splits that are refused are the answer; else the columns hold them, and the units are asked with them.
-- Assumes nothing.
use Rattle.obj.proofs.Errors.{is_err}
use mathlib.Core.Path.{sym, ap, ◌∙◌}
use lib.ListN.{length}
use Rattle.pieces.proofs.Same.{lent_same}
use Rattle.obj.specs.Answers.{meaning}
use Rattle.sections.specs.Image.{image_in}
use Rattle.sections.specs.Sections.{sections_of}
use Rattle.relocs.specs.Relocs.{reloc_of}
use Rattle.splits.specs.Table.{columns_of, rows_of}
use Rattle.tables.specs.Records.{sections_in}
use Rattle.stage_walk.specs.Room.{within_ceilings}
use Rattle.stage_walk.specs.Lines.{from_splits}
use Rattle.stage_walk.proofs.Passed.{rows_named}
use Rattle.stage_walk.proofs.Lines.{gives_stops, splits_go}
use Rattle.stage_walk.proofs.with_splits.Goals as goal

pub with_units-requires : goal.with_units-requires
with_units-requires c =
    let a = c.args in
    let taken = c.take_split_columns.ensures.taken in
    let passed = sym taken.said ∙ ap meaning c.in_ok-take_split_columns.was in
    let s = c.columns.result in (
      c.requires,
      rows_named 1024 a.obj.now.names.lengths.now (sections_in a.obj.now.heads.bytes.now a.obj.now.heads.places.now) a.splits.now (columns_of s) s.count passed (c.columns.ensures.rows ∙ taken.taken passed),
    )

pub returns : goal.returns
returns c =
    let a = c.args in
    let taken = c.take_split_columns.ensures.taken in
    let passed = sym taken.said ∙ ap meaning c.in_ok-take_split_columns.was in
    splits_go a.obj.now.names.lengths.now (sections_in a.obj.now.heads.bytes.now a.obj.now.heads.places.now) (image_in a.obj.now) (sections_of a.obj.now.heads.bytes.now a.obj.now.heads.places.now a.image.now.bytes.now a.image.now.places.now) (reloc_of a.relocs.now.bytes.now a.relocs.now.places.now) (length a.relocs.now.places.now) a.splits.now a.unit_table.now
    (rows_of c.columns.result) (within_ceilings a.tables.now.room)
    passed (c.columns.ensures.rows ∙ taken.taken passed) c.with_units.ensures

pub returns-in_err-take_split_columns : goal.returns-in_err-take_split_columns
unfolding from_splits
returns-in_err-take_split_columns c =
    gives_stops _ (is_err _ c.from_residual.ensures.1) c.in_err-take_split_columns.ensures.taken.said lent_same
