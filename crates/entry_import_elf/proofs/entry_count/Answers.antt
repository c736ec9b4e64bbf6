-- The symbols past the null one are one fewer than the entries.
use Rattle.std.proofs.Common.{◌∙◌, sym}
use Rattle.entry_import_elf.proofs.Laws.{count_entries}
use Rattle.entry_import_elf.proofs.entry_count.Goals as goal

pub returns : goal.returns
returns c = (c.saturating_sub.ensures ∙ sym (count_entries c.args.table.now), c.saturating_sub.ensures)
