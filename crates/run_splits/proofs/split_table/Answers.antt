-- The loaded tables meet what each stage asks, each stage leaves rows that the next can take, and the stages one after another are the definition.
use Rattle.std.proofs.Common.{◌∙◌, refl, sym, ap, arith}
use Rattle.obj.proofs.Errors.{is_err}
use Rattle.obj.specs.Answers.{Answer}
use Rattle.merge.specs.Answers.{merged}
use Rattle.loaded.specs.Tables.{file_names}
use Rattle.loaded.proofs.Laws.{sections_held, partials_mergeable, tables-ordered, symbols_sound}
use Rattle.splits.specs.Table.{rows_in}
use Rattle.gap_splits.specs.Answers.{ceilings, added_in, meant}
use Rattle.run_splits.specs.Table.{split_tables}
use Rattle.run_splits.proofs.Steps.{gaps_given, merge_refused, gaps_refused, ends_so}
use Rattle.run_splits.proofs.Needs.{sections_common, images_kept, rows-placed}
use Rattle.run_splits.proofs.split_table.Goals as goal

pub merge_partials-requires : goal.merge_partials-requires
merge_partials-requires c =
    let q = c.requires in
    (sections_common q.0.usable, sections_held q.0.usable, partials_mergeable q.0.usable)

pub returns-in_err-merge_partials-clause-tables : goal.returns-in_err-merge_partials-clause-tables
returns-in_err-merge_partials-clause-tables c =
    let a = c.args in
    let room = ceilings (file_names a.loaded.now) a.added.now.most.names a.added.now.most.bytes in
    let m = c.merge_partials in
    let refused = sym (ap (λ (r : Answer). merged r (rows_in m.new.table)) c.in_err-merge_partials.was) ∙ m.ensures.rows in
    rw (is_err _ c.from_residual.ensures.1) (merge_refused a.loaded.now.file.now (split_tables a.loaded.now) a.table.now.room room a.loaded.now.images.now c.requires.0.images_are refused)

pub fill_gaps-requires : goal.fill_gaps-requires
fill_gaps-requires c =
    let q = c.requires in
    (q.0, omega (arith, c.merge_partials.ensures.lent.room, q.1))

pub returns-in_err-fill_gaps-clause-tables : goal.returns-in_err-fill_gaps-clause-tables
returns-in_err-fill_gaps-clause-tables c =
    let a = c.args in
    let room = ceilings (file_names a.loaded.now) a.added.now.most.names a.added.now.most.bytes in
    let m = c.merge_partials in
    let merges = sym (ap (λ (r : Answer). merged r (rows_in m.new.table)) c.in_ok-merge_partials.was) ∙ m.ensures.rows in
    let g = c.fill_gaps in
    let e = rw m.ensures.lent.room at g.ensures.tables in
    let refused = sym (ap (meant (file_names a.loaded.now) (added_in g.new.added) (rows_in g.new.table)) c.in_err-fill_gaps.was) ∙ e in
    rw (is_err _ c.from_residual-in_err-fill_gaps.ensures.1) (gaps_refused a.loaded.now.file.now (split_tables a.loaded.now) a.table.now.room room a.loaded.now.images.now c.requires.0.images_are merges refused)

pub check_and_trim-requires : goal.check_and_trim-requires
check_and_trim-requires c =
    let a = c.args in
    let q = c.requires in
    let t = split_tables a.loaded.now in
    let room = ceilings (file_names a.loaded.now) a.added.now.most.names a.added.now.most.bytes in
    let m = c.merge_partials in
    let merges = sym (ap (λ (r : Answer). merged r (rows_in m.new.table)) c.in_ok-merge_partials.was) ∙ m.ensures.rows in
    let g = c.fill_gaps in
    let e = rw m.ensures.lent.room at g.ensures.tables in
    let filled = sym (ap (meant (file_names a.loaded.now) (added_in g.new.added) (rows_in g.new.table)) c.in_ok-fill_gaps.was) ∙ e in
    let u = g.new.table in (
      tables-ordered q.0.usable _ q.0.order_is,
      symbols_sound q.0.usable,
      images_kept q.0.usable _ q.0.images_are,
      rows-placed q.0.usable a.table.now.room room a.loaded.now.images.now q.0.images_are _ (gaps_given a.loaded.now.file.now t a.table.now.room room a.loaded.now.images.now q.0.images_are merges filled) _ _ refl,
      omega (arith, u.fits, g.ensures.lent.room, m.ensures.lent.room, q.1),
    )

pub returns-clause-tables : goal.returns-clause-tables
returns-clause-tables c =
    let a = c.args in
    let t = split_tables a.loaded.now in
    let room = ceilings (file_names a.loaded.now) a.added.now.most.names a.added.now.most.bytes in
    let m = c.merge_partials in
    let merges = sym (ap (λ (r : Answer). merged r (rows_in m.new.table)) c.in_ok-merge_partials.was) ∙ m.ensures.rows in
    let g = c.fill_gaps in
    let e = rw m.ensures.lent.room at g.ensures.tables in
    let filled = sym (ap (meant (file_names a.loaded.now) (added_in g.new.added) (rows_in g.new.table)) c.in_ok-fill_gaps.was) ∙ e in
    let u = c.check_and_trim in
    let o = u.ensures.others in
    let trimmed = rw (o.starts, o.units, o.rest, o.count) at u.ensures.rows in
    let written = c.ends-2-1.given.1.1 (sym o.ends.name) in
    rw written (ends_so a.loaded.now.file.now t a.table.now.room room a.loaded.now.images.now c.requires.0.images_are (file_names a.loaded.now) (added_in g.new.added) _ u.result merges filled trimmed)
