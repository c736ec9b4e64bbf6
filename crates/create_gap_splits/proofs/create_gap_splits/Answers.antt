-- The gaps that the search leaves in the columns enter, or its refusal is handed on.
use Rattle.std.proofs.Common.{◌∙◌}
use Rattle.obj.proofs.Errors.{is_err}
use Rattle.tables.specs.Records.{sections_in}
use Rattle.sections.specs.Image.{image_in}
use Rattle.sections.specs.Sections.{sections_of}
use Rattle.splits.specs.Table.{rows_in}
use Rattle.merge.specs.Merge.{given}
use Rattle.gap_splits.specs.Answers.{ceilings_in}
use Rattle.names.specs.Listed.{names_in}
use Rattle.create_gap_splits.proofs.Laws.{all_held, named_tables, found_gaps_lem, filled_found, filled_refused}
use Rattle.create_gap_splits.proofs.create_gap_splits.Goals as goal

pub enter_gaps-requires : goal.enter_gaps-requires
enter_gaps-requires c =
    let a = c.args in
    let o = a.obj.now in
    let q = c.requires in
    let g = image_in o in
    let sections = sections_of o.heads.bytes.now o.heads.places.now a.image.now.bytes.now a.image.now.places.now in
    let found = c.find_gaps.new.found in
    let e = rw c.columns.ensures.rows at c.find_gaps.ensures.gaps in (
      all_held o.heads.bytes.now o.heads.places.now a.image.now.bytes.now a.image.now.places.now o.names.places.now q.1,
      named_tables o.heads.bytes.now o.heads.places.now a.image.now.bytes.now a.image.now.places.now o.names.places.now q.1 o.symbols.bytes.now o.symbols.places.now o.order.now o.names.bytes.now o.names.lengths.now a.index.now.heads.now a.index.now.chain.now q.0 q.6 q.7,
      rw c.columns-2.ensures.gaps (found_gaps_lem g sections (rows_in a.table.now) found e c.in_ok-find_gaps.was),
    )

pub returns-in_err-find_gaps-clause-tables : goal.returns-in_err-find_gaps-clause-tables
returns-in_err-find_gaps-clause-tables c =
    let a = c.args in
    let o = a.obj.now in
    let g = image_in o in
    let sections = sections_of o.heads.bytes.now o.heads.places.now a.image.now.bytes.now a.image.now.places.now in
    let e = rw c.columns.ensures.rows at c.find_gaps.ensures.gaps in
    rw (is_err _ c.from_residual.ensures.1)
    (filled_refused g sections (rows_in a.table.now) c.find_gaps.new.found (given (sections_in o.heads.bytes.now o.heads.places.now) a.table.now.room) (ceilings_in o.names a.added.now) (names_in o.names) _ e c.in_err-find_gaps.was)

pub returns-clause-tables : goal.returns-clause-tables
returns-clause-tables c =
    let a = c.args in
    let o = a.obj.now in
    let g = image_in o in
    let sections = sections_of o.heads.bytes.now o.heads.places.now a.image.now.bytes.now a.image.now.places.now in
    let e = rw c.columns.ensures.rows at c.find_gaps.ensures.gaps in
    rw c.columns-2.ensures.gaps at c.enter_gaps.ensures.tables
    ∙ filled_found g sections (rows_in a.table.now) c.find_gaps.new.found (given (sections_in o.heads.bytes.now o.heads.places.now) a.table.now.room) (ceilings_in o.names a.added.now) (names_in o.names) e c.in_ok-find_gaps.was
