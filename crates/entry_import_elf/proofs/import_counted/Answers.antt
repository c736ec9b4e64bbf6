-- The tables stay where they were written, with their counts.
use Rattle.entry_import_elf.proofs.Laws.{leaves_tables}
use Rattle.entry_import_elf.proofs.import_counted.Goals as goal

pub returns-clause-given : goal.returns-clause-given
returns-clause-given c =
    let a = c.args in
    leaves_tables a.name_ends.now a.name_bytes.now a.rows.now.sections.now a.rows.now.places.now a.rows.now.symbols.now a.counts.now c.in_ok-r.ensures.given c.put_counts.ensures
