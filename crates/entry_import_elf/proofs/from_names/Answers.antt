-- Names that are refused are the answer; else the sections and symbols are asked over them.
use Rattle.std.proofs.Common.{ℕ, ◌∙◌, List, refl, sym, subst, ap, length}
use Rattle.obj.proofs.Errors.{is_err}
use Rattle.obj.specs.Answers.{meaning}
use Rattle.stage_names.specs.StageNames.{flat, name_ends}
use Rattle.import.specs.Import.{tables_of}
use Rattle.entry_import_elf.specs.Entry.{sections_room, symbols_room}
use Rattle.entry_import_elf.specs.Stages.{sections_stage, RowsGiven}
use Rattle.entry_import_elf.proofs.Laws.{names_are, rows_as, names_said, names_stop, names_go, laid_names, stored_known}
use Rattle.entry_import_elf.proofs.from_names.Goals as goal

pub returns-in_err-check-clause-given : goal.returns-in_err-check-clause-given
returns-in_err-check-clause-given c =
    λ names room l.
    let a = c.args in
    let file = a.file.now.bytes.now in
    let t = tables_of file names in
    let n = sym (names_are file names) in
    let said = names_said t c.in_err-check.ensures.said (l.ends_are ∙ ap (λ (x : List (List ℕ)). name_ends x) n) (l.bytes_are ∙ ap (λ (x : List (List ℕ)). flat x) n) in
    rw (is_err _ c.from_residual.ensures.1) (sym (names_stop (length file) (record { names = room; sections = sections_room (length a.rows.now.sections.now) (length a.rows.now.places.now); symbols = symbols_room (length a.rows.now.symbols.now) }) t said refl))

pub names-requires : goal.names-requires
names-requires c = let s = c.check.ensures in s.stored (sym s.said ∙ ap meaning c.in_ok-check.was)

pub invariant_of-from_sections : goal.invariant_of-from_sections
invariant_of-from_sections c =
    let s = c.check.ensures in
    record {
      known = stored_known c.requires.laid (s.stored (sym s.said ∙ ap meaning c.in_ok-check.was)) c.index.ensures.0 c.index.ensures.1;
    }

pub returns-clause-given : goal.returns-clause-given
returns-clause-given c =
    λ names room l.
    let a = c.args in
    let file = a.file.now.bytes.now in
    let t = tables_of file names in
    let n = sym (names_are file names) in
    let e = ap meaning c.in_ok-check.was in
    let s = c.check.ensures in
    let held = s.stored (sym s.said ∙ e) in
    let said = names_said t s.said (l.ends_are ∙ ap (λ (x : List (List ℕ)). name_ends x) n) (l.bytes_are ∙ ap (λ (x : List (List ℕ)). flat x) n) in
    let o = c.from_sections.new.rows in
    rows_as t a.rows.now.sections.now a.rows.now.places.now a.rows.now.symbols.now o.sections.now o.places.now o.symbols.now c.from_sections.result
    (names_go (length file) (record { names = room; sections = sections_room (length a.rows.now.sections.now) (length a.rows.now.places.now); symbols = symbols_room (length a.rows.now.symbols.now) }) t said e)
    (subst (λ (x : List (List ℕ)). RowsGiven (sections_stage (length file) (sections_room (length a.rows.now.sections.now) (length a.rows.now.places.now)) (symbols_room (length a.rows.now.symbols.now)) (tables_of file x)) (tables_of file x) a.rows.now.sections.now a.rows.now.places.now a.rows.now.symbols.now o.sections.now o.places.now o.symbols.now c.from_sections.result) (laid_names l held) c.from_sections.ensures.given)
