-- `stage_walk::with_units` meets its contract. Units that are refused are the answer; else each name has the number of its unit, and the sections are walked.
-- Assumes nothing.
use Rattle.obj.proofs.Errors.{is_err}
use Prim.Native.Nat.{◌≤◌}
use mathlib.Core.Path.{sym}
use Rattle.std.proofs.Common.{rules}
use native.Mathlib.Omega.{arith}
use lib.ListN.{length}
use Rattle.pieces.proofs.Same.{lent_same}
use Rattle.stage_tables.proofs.Laws.{taken_few, taken-count}
use Rattle.sections.specs.Image.{image_in}
use Rattle.sections.specs.Sections.{sections_of}
use Rattle.relocs.specs.Relocs.{reloc_of}
use Rattle.splits.specs.Table.{rows_of}
use Rattle.stage_walk.specs.Room.{within_ceilings}
use Rattle.stage_walk.specs.Lines.{from_units}
use Rattle.stage_walk.proofs.Passed.{units_listed}
use Rattle.stage_walk.proofs.Lines.{gives_stops, units_go}
use Rattle.stage_walk.proofs.with_units.Goals as goal

pub returns-in_err-unit_records : goal.returns-in_err-unit_records
unfolding from_units
returns-in_err-unit_records c =
    gives_stops _ (is_err _ c.from_residual.ensures.1) c.in_err-unit_records.ensures.said lent_same

pub number_units-requires : goal.number_units-requires
number_units-requires c =
    let a = c.args in
    let k = c.in_ok-unit_records.ensures in
    rw k.table.bytes (units_listed a.obj.now.names.lengths.now a.unit_table.now (sym k.said) _ _ k.table.places (omega (arith, c.requires.0.few_names)))

pub walk_columns-requires : goal.walk_columns-requires
walk_columns-requires c =
    let b = c.args.unit_table.now in
    let k = c.in_ok-unit_records.ensures in
    let few : length c.in_ok-unit_records.unit_records.places.now ≤ 1024 = omega (arith, taken-count 8 b k.table, taken_few 8 1024 b _ k) in
    search (rules, few)

pub returns : goal.returns
returns c =
    let a = c.args in
    let k = c.in_ok-unit_records.ensures in
    units_go a.obj.now.names.lengths.now (image_in a.obj.now) (sections_of a.obj.now.heads.bytes.now a.obj.now.heads.places.now a.image.now.bytes.now a.image.now.places.now) (reloc_of a.relocs.now.bytes.now a.relocs.now.places.now) (length a.relocs.now.places.now) (rows_of a.splits.now) a.unit_table.now
    _ (within_ceilings a.tables.now.room) (sym k.said) k.table.places (rw k.table.bytes at c.walk_columns.ensures)
