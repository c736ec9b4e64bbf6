-- The counts in cleared bytes, or a refusal's word.
use Rattle.entry_check_file.proofs.Laws.{leaves_counted}
use Rattle.entry_check_file.proofs.check_file.Goals as goal

pub returns : goal.returns
returns c = leaves_counted c.counted.result c.args.counts.now c.word_of.ensures c.clear_from.ensures c.counted.ensures
